-- `small` at what is one, and at what is none.
use Rattle.std.proofs.Common.{◌≡◌, ◌-◌, ◌^◌, ◌<◌, Bool, true, false, T, ℤ, pos, negsuc, ◌≤ℤ◌, ◌<ℤ◌, Some, None, Option, Result, sym, refl, ap, ◌∙◌, arith, leb→le}
use Rattle.std.specs.Option.{ok_or}
use Rattle.std.specs.Result.{result_ok}
use Rattle.std.proofs.lemmas.Bool.Decides.{nat_tests}
use Rattle.values.specs.Small.{same_small, in_range, small_if, small}
use Rattle.values.specs.declared.small.SmallInteger.{SmallInteger}

pub true_from : (b : Bool) → T b → b ≡ true
true_from true t = refl
true_from false t = absurd t

in_from : (z : ℤ) → negsuc (2 ^ 30 - 1) ≤ℤ z → z <ℤ pos (2 ^ 30) → in_range z ≡ true
in_from (pos n) l h = true_from _ h.lt
in_from (negsuc n) l h =
    let k : n < 2 ^ 30 = omega (arith, leb→le n (2 ^ 30 - 1) l.le) in
    grind (arith, nat_tests)

pub within : (s : SmallInteger) → in_range s.value ≡ true
within s = in_from s.value s.low s.high

at : (s : SmallInteger) (z : ℤ) (b : Bool) (e : in_range z ≡ b) → s.value ≡ z
    → small_if z b e ≡ Some s
at s z true e p = ap Some (same_small _ s (sym p))
at s z false e p =
    let w = within s ∙ refl in
    let q : true ≡ false = sym w ∙ ap in_range p ∙ e in
    absurd cc

pub small_is : (s : SmallInteger) (z : ℤ) → s.value ≡ z → small z ≡ Some s
small_is s z p = at s z (in_range z) refl p

out : (z : ℤ) (b : Bool) (e : in_range z ≡ b) → b ≡ false → small_if z b e ≡ None
out z true e q = absurd cc
out z false e q = refl

pub small_out : (z : ℤ) → in_range z ≡ false → small z ≡ None
small_out z h = out z (in_range z) refl h

answered_as : {X E : Type 0} (o : Option X) (e : E) → result_ok (ok_or o e) ≡ o
answered_as None e = refl
answered_as (Some x) e = refl

-- what a conversion answers is what there is
pub answered : {X E : Type 0} (o : Option X) (e : E) {r : Result X E} → r ≡ ok_or o e
    → result_ok r ≡ o
answered o e h = ap result_ok h ∙ answered_as o e
