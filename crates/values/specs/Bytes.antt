-- Numbers of several bytes, the most significant first.
use Rattle.std.specs.Prelude.{ℕ, ◌+◌, List, [], ◌∷◌, slice_index}
use Rattle.std.specs.Int.{w16, w32, from_be_bytes}

-- the byte at a place
abbrev pub at : List ℕ → ℕ → ℕ
at b i = slice_index b i

-- the number in the two bytes from i on
abbrev pub be16 : List ℕ → ℕ → ℕ
be16 b i = from_be_bytes w16 (at b i ∷ at b (i + 1) ∷ [])

-- the number in the four bytes from i on
abbrev pub be32 : List ℕ → ℕ → ℕ
be32 b i = from_be_bytes w32 (at b i ∷ at b (i + 1) ∷ at b (i + 2) ∷ at b (i + 3) ∷ [])
