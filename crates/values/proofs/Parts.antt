-- A value, its kind and its number field.
use Rattle.std.proofs.Common.{◌≡◌, ℕ, ◌^◌, ◌<◌, ℤ, sym, refl, ap, ◌∙◌, arith, w32, SFits, to_z, of_z}
use Rattle.std.specs.Option.{option_map}
use Rattle.std.proofs.lemmas.Int.{ints, of_z-to_z, to_z-of_z}
use Rattle.values.specs.Kinds.{ReadBack}
use Rattle.values.specs.declared.small.SmallInteger.{SmallInteger}
use Rattle.values.specs.declared.kinds.Value.TheVariants.{Integer}
use Rattle.values.proofs.Smalls.{small_is}

-- a number field as a signed number, and back
pub signed_back : (z : ℤ) (n : ℕ) → n < 2 ^ 32 → z ≡ to_z w32 n → to_z w32 (of_z w32 z) ≡ to_z w32 n
signed_back z n f e = ap (λ y. to_z w32 (of_z w32 y)) e ∙ ap (to_z w32) (of_z-to_z w32 n f)

-- a small integer fits in 32 bits
pub small_fits : (s : SmallInteger) → SFits w32 s.value
small_fits s = omega (arith, ints, s.low, s.high)

pub read_back : ReadBack
read_back (Integer s) =
    let z = s.value in
    let same : z ≡ to_z w32 (of_z w32 z) = sym (to_z-of_z w32 z (small_fits s)) in
    ap (option_map Integer) (small_is s (to_z w32 (of_z w32 z)) same)
read_back _ = refl
