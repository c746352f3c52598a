-- The lines of verdicts over the fixed week file, worked out by hand.
use Rattle.std.specs.Prelude.{◌≡◌, ℕ, List, [], ◌∷◌, map, codes}
use Rattle.listing.specs.Listed.{listed, forty_turns}
use Rattle.listing.specs.Lines.{line}
use Rattle.worked.specs.Running.{bytes_of}

-- an untrusted method without literals, by its flags and its code, and the line of its verdict
pub record VerdictRow : Type 0 where
  pub flags : List ℕ
  pub code : List ℕ
  pub line : List ℕ

-- without arguments or locals, with 4 slots
abbrev pub four_slots : (code line : List ℕ) → VerdictRow
four_slots c l = record { flags = 0 ∷ 0 ∷ 0 ∷ 32 ∷ []; code = c; line = l }

-- with one local and 8 slots
abbrev pub one_local : (code line : List ℕ) → VerdictRow
one_local c l = record { flags = 0 ∷ 0 ∷ 8 ∷ 64 ∷ []; code = c; line = l }

-- every code and its line
abbrev pub verdict_rows : List VerdictRow
verdict_rows =
    four_slots (56 ∷ 0 ∷ 51 ∷ 0 ∷ []) (codes "accepted 1")
    ∷ four_slots (40 ∷ 2 ∷ []) (codes "accepted 0")
    ∷ four_slots (51 ∷ 0 ∷ []) (codes "refused 21 at 0")
    ∷ four_slots (56 ∷ 0 ∷ []) (codes "refused 23 at 0")
    ∷ four_slots (44 ∷ 1 ∷ 40 ∷ 4 ∷ []) (codes "refused 24 at 0")
    ∷ four_slots (41 ∷ 1 ∷ 56 ∷ 0 ∷ 51 ∷ 0 ∷ []) (codes "refused 19 at 0")
    ∷ four_slots (41 ∷ 2 ∷ 55 ∷ 0 ∷ 56 ∷ 0 ∷ 51 ∷ 0 ∷ []) (codes "refused 19 at 0")
    ∷ four_slots (56 ∷ 0 ∷ 39 ∷ 2 ∷ 51 ∷ 0 ∷ []) (codes "accepted 1")
    ∷ four_slots (56 ∷ 0 ∷ 39 ∷ 3 ∷ 51 ∷ 0 ∷ []) (codes "refused 17 at 2")
    ∷ four_slots (56 ∷ 0 ∷ 39 ∷ 4 ∷ 51 ∷ 0 ∷ []) (codes "refused 15 at 2")
    ∷ four_slots (55 ∷ 3 ∷ 44 ∷ 232 ∷ 51 ∷ 0 ∷ []) (codes "accepted 1")
    ∷ four_slots (56 ∷ 0 ∷ 43 ∷ 4 ∷ 44 ∷ 255 ∷ 51 ∷ 0 ∷ 44 ∷ 0 ∷ 51 ∷ 0 ∷ []) (codes "accepted 1")
    ∷ four_slots (55 ∷ 32 ∷ 55 ∷ 0 ∷ 55 ∷ 0 ∷ 44 ∷ 0 ∷ 51 ∷ 0 ∷ []) (codes "refused 15 at 0")
    ∷ four_slots (56 ∷ 0 ∷ 56 ∷ 0 ∷ 56 ∷ 0 ∷ 56 ∷ 0 ∷ 51 ∷ 0 ∷ []) (codes "accepted 4")
    ∷ four_slots (56 ∷ 0 ∷ 56 ∷ 0 ∷ 56 ∷ 0 ∷ 56 ∷ 0 ∷ 56 ∷ 0 ∷ 51 ∷ 0 ∷ [])
    (codes "refused 22 at 8")
    ∷ one_local (forty_turns 48) (codes "accepted 2")
    ∷ one_local (forty_turns 54) (codes "refused 24 at 6")
    ∷ []

-- the line that is printed for a row, over the fixed week file with lists for every code
abbrev pub printed : VerdictRow → List ℕ
printed r = line (listed (bytes_of 0 r.flags [] r.code))

-- each line is printed
abbrev pub WorkedVerdictLines : Type 0
WorkedVerdictLines = map printed verdict_rows ≡ map (λ r. r.line) verdict_rows
