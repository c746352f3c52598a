-- A small week file, and integers to put into it.
use Rattle.std.specs.Prelude.{◌≡◌, ℕ, ℤ, List, [], ◌∷◌}
use Rattle.values.specs.Low.{low31}
use Rattle.values.specs.declared.small.SmallInteger.{SmallInteger}
use Rattle.values.specs.declared.kinds.Value.{Value}
use Rattle.values.specs.declared.kinds.Value.TheVariants.{Integer}

-- its bytes: the counts 1 and 2, object 42, and the cells -7, object 100, trusted, and true
abbrev pub small_week : List ℕ
small_week =
    0 ∷ 1 ∷ 0 ∷ 2 ∷ 0 ∷ 0 ∷ 0 ∷ 42
    ∷ 0 ∷ 3 ∷ 255 ∷ 255 ∷ 255 ∷ 249
    ∷ 1 ∷ 4 ∷ 0 ∷ 0 ∷ 0 ∷ 100
    ∷ 0 ∷ 1 ∷ 0 ∷ 0 ∷ 0 ∷ 0 ∷ []

-- a value is the small integer of the low 31 bits of a number
abbrev pub IntegerOf : ℤ → Value → Type 0
IntegerOf z v = (s : SmallInteger) × (v ≡ Integer s) × (s.value ≡ low31 z)
