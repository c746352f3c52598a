-- Which results are answered.
use Rattle.std.proofs.Common.{◌≡◌, Bool, true, false, cond, ◌≢◌, ℤ, pos, ◌+ℤ◌, ◌-ℤ◌, ◌*ℤ◌, Some, None, Option, true≢false, sym, refl, ap, ◌∙◌, arith}
use Rattle.std.specs.Option.{option_map}
use Rattle.std.proofs.lemmas.Int.{ints}
use Rattle.std.proofs.lemmas.Bool.{cond-false, false_from_ne_true}
use Rattle.std.proofs.lemmas.Bool.Decides.{Decides-int_eq}
use Rattle.values.specs.Small.{same_small, in_range, range_low, range_high}
use Rattle.values.specs.declared.small.SmallInteger.{SmallInteger}
use Rattle.values.specs.declared.kinds.Value.{Value}
use Rattle.values.specs.declared.kinds.Value.TheVariants.{Integer}
use Rattle.values.proofs.Smalls.{within as small_within, small_is, small_out}
use Rattle.hosts.specs.Meaning.{Sent}
use Rattle.arithmetic.specs.Division.{floor_quotient, floor_remainder}
use Rattle.values.specs.Kinds.{integer}
use Rattle.std.specs.Ordering.{int_eq}
use Rattle.arithmetic.specs.Own.{own_answer}
use Rattle.arithmetic.specs.Laws.{integer_message, InRange, AnswersInRange, RangeSettlesAnswer, Computes, AlwaysLeft, NeverByZero}
use Rattle.arithmetic.proofs.Divisions.{divides}

-- a divisor other than 0
pub unless_zero : (o : Option Value) (y : ℤ) → y ≢ pos 0 → cond (int_eq y (pos 0)) None o ≡ o
unless_zero o y h =
    cond-false (int_eq y (pos 0)) None o
    (false_from_ne_true _ (λ t. h ((Decides-int_eq y (pos 0)).0 t)))

inside_not : (z : ℤ) → InRange z → in_range z ≡ false → ⊥
inside_not z h e =
    let s : SmallInteger = record { value = z; low = h.0; high = omega (arith, ints, h.1) } in
    true≢false (sym (small_within s) ∙ e)

abbrev within : (z : ℤ) → InRange z → SmallInteger
within z h = record { value = z; low = h.0; high = omega (arith, ints, h.1) }

outside_by : (z : ℤ) (b : Bool) → in_range z ≡ b → (InRange z → ⊥) → in_range z ≡ false
outside_by z true e h = absurd (h (range_low z e, omega (arith, ints, range_high z e)))
outside_by z false e h = e

answers : (m : Sent) (z : ℤ) → own_answer m ≡ integer z → AnswersInRange m z
answers m z e = record {
  inside = λ h. (within z h, refl, e ∙ ap (option_map Integer) (small_is (within z h) z refl));
  outside = λ h. e ∙ ap (option_map Integer) (small_out z (outside_by z (in_range z) refl h));
}

pub computes : Computes
computes x y = record {
  sum = answers (integer_message 0 x y) (x.value +ℤ y.value) refl;
  difference = answers (integer_message 1 x y) (x.value -ℤ y.value) refl;
  product = answers (integer_message 8 x y) (x.value *ℤ y.value) refl;
  remainder = λ h.
      answers (integer_message 10 x y) (floor_remainder x.value y.value) (unless_zero _ y.value h);
  quotient = λ h.
      answers (integer_message 13 x y) (floor_quotient x.value y.value) (unless_zero _ y.value h);
}

in_range_is : (z : ℤ) → in_range z ≡ true → InRange z
in_range_is z e = (range_low z e, omega (arith, ints, range_high z e))

pub range_settles_answer : RangeSettlesAnswer
range_settles_answer m n z x y = by (in_range z) refl
  where
    by : (t : Bool) → in_range z ≡ t → own_answer m ≡ own_answer n
    by true e =
        let p = x.inside (in_range_is z e) in
        let q = y.inside (in_range_is z e) in
        let same : p.0 ≡ q.0 = same_small p.0 q.0 (p.1 ∙ sym q.1) in
        p.2 ∙ ap (λ s. Some (Integer s)) same ∙ sym q.2
    by false e =
        let out : InRange z → ⊥ = λ h. absurd (inside_not z h e) in
        x.outside out ∙ sym (y.outside out)

pub always_left : AlwaysLeft
always_left x y h =
    let d = (divides x.value y.value h).smaller in
    (omega (arith, ints, d, y.low, y.high), omega (arith, ints, d, y.low, y.high))

pub never_by_zero : NeverByZero
never_by_zero x y e = (
  ap (λ z. cond (int_eq z (pos 0)) None (integer (floor_remainder x.value z))) e,
  ap (λ z. cond (int_eq z (pos 0)) None (integer (floor_quotient x.value z))) e,
)
