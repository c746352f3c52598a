-- Small integers in 64 bits.
use Rattle.std.proofs.Common.{◌≡◌, ◌≢◌, ℤ, pos, ◌+ℤ◌, ◌-ℤ◌, ◌*ℤ◌, ap, ◌∙◌, subst, arith, w32, w64, SFits, to_z, of_z}
use borrow.Author.Numbers.{signed_product}
use Rattle.std.proofs.lemmas.Int.{ints, to_z-of_z}
use Rattle.values.specs.declared.small.SmallInteger.{SmallInteger}
use Rattle.values.proofs.Parts.{small_fits}

-- one that is not 0 in 64 bits
pub nonzero : (s : SmallInteger) (w : ℤ) → w ≡ s.value → (of_z w64 w ≡ 0 → ⊥) → s.value ≢ pos 0
nonzero s w p h e = h (ap (of_z w64) (p ∙ e))

-- a number in 64 bits
abbrev in64 : ℤ → ℤ
in64 z = to_z w64 (of_z w64 z)

there : (z : ℤ) → SFits w32 z → in64 z ≡ z
there z f = omega (arith, ints)

-- what is computed in 64 bits of two small integers
pub sum_is : (x y : SmallInteger) (a b : ℤ) → a ≡ x.value → b ≡ y.value
    → in64 (in64 a +ℤ in64 b) ≡ x.value +ℤ y.value
sum_is x y a b p q = omega (arith, ints, small_fits x, small_fits y)

pub difference_is : (x y : SmallInteger) (a b : ℤ) → a ≡ x.value → b ≡ y.value
    → in64 (in64 a -ℤ in64 b) ≡ x.value -ℤ y.value
difference_is x y a b p q = omega (arith, ints, small_fits x, small_fits y)

abbrev wide : ℤ → ℤ
wide z = in64 (to_z w32 (of_z w32 z))

wide_is : (z : ℤ) → SFits w32 z → wide z ≡ z
wide_is z f = omega (arith, ints)

product_fits : (x y : ℤ) → SFits w32 x → SFits w32 y → SFits w64 (x *ℤ y)
product_fits x y f g =
    let same = ap (λ z. z *ℤ wide y) (wide_is x f) ∙ ap (λ z. x *ℤ z) (wide_is y g) in
    subst (SFits w64) same (signed_product w64 w32 w32 x y f g tt)

pub product_is : (x y : SmallInteger) (a b : ℤ) → a ≡ x.value → b ≡ y.value
    → in64 (in64 a *ℤ in64 b) ≡ x.value *ℤ y.value
product_is x y a b p q =
    let f = small_fits x in
    let g = small_fits y in
    ap (λ z. in64 (in64 z *ℤ in64 b)) p
    ∙ ap (λ z. in64 (in64 x.value *ℤ in64 z)) q
    ∙ ap (λ z. in64 (z *ℤ in64 y.value)) (there x.value f)
    ∙ ap (λ z. in64 (x.value *ℤ z)) (there y.value g)
    ∙ to_z-of_z w64 (x.value *ℤ y.value) (product_fits x.value y.value f g)

-- what a function of two small integers gives, in 64 bits
pub given_is : (f : ℤ → ℤ → ℤ) (x y : SmallInteger) (a b r : ℤ) → a ≡ x.value → b ≡ y.value
    → SFits w64 r → r ≡ f (in64 a) (in64 b) → in64 r ≡ f x.value y.value
given_is f x y a b r p q g e =
    to_z-of_z w64 r g ∙ e
    ∙ ap (λ z. f z (in64 b)) (ap in64 p ∙ there x.value (small_fits x))
    ∙ ap (f x.value) (ap in64 q ∙ there y.value (small_fits y))
