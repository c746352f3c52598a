-- The bytes of a parcel in parts.
use Rattle.std.specs.Prelude.{ℕ, ◌%◌, ◌^◌, List, [], ◌∷◌, ◌++◌, length}
use Rattle.std.specs.Int.{w16, w32, to_be_bytes}
use Rattle.std.specs.List.{flat_map}

-- the low two bytes of a number, the high one first
abbrev pub two_bytes : ℕ → List ℕ
two_bytes n = to_be_bytes w16 (n % 2 ^ 16)

-- a kind below 256, the count of the literals, the flags, the length of the code, the literals and
-- the code
abbrev pub parcel_of : ℕ → ℕ → List (List ℕ) → List ℕ → List ℕ
parcel_of k f ls c =
    (0 ∷ k ∷ []) ++ (two_bytes (length ls) ++ (to_be_bytes w32 f
    ++ (two_bytes (length c) ++ (flat_map (λ l. l) ls ++ c))))
