use Rattle.std.proofs.Common.{◌≡◌, ◌^◌, ◌≤◌, false, ℤ, pos, ◌-ℤ◌, neg_ℤ, nat_abs, sym, ap, ◌∙◌, arith, w32, w64, SFits, to_z, of_z}
use lib.Signed.{lt_z}
use Rattle.std.specs.Int.{int_rem_euclid}
use Rattle.std.proofs.lemmas.Int.{ints, to_z-of_z}
use Rattle.arithmetic.proofs.Divisions.{remainder_by_negative}
use Rattle.arithmetic.proofs.division.floor_remainder.Goals as goal

-- a number of 32 bits with the other sign, in 64 bits
abbrev minus : ℤ → ℤ
minus z = to_z w64 (of_z w64 (pos 0 -ℤ to_z w64 (of_z w64 z)))

minus_is : (z : ℤ) → nat_abs z ≤ 2 ^ 31 → minus z ≡ neg_ℤ z
minus_is z h = omega (arith, ints)

size : (z : ℤ) → SFits w32 z → nat_abs z ≤ 2 ^ 31
size z f = omega (arith, ints)

pub returns-else-b-gt0 : goal.returns-else-b-gt0
returns-else-b-gt0 c =
    let a = c.args.a in
    let b = c.args.b in
    let r = c.rem_euclid-else-b-gt0.result in
    let ea = minus_is a (size a c.requires.dividend) in
    let eb = minus_is b (size b c.requires.divisor) in
    let t : lt_z (pos 0) b ≡ false =
    ap (lt_z (pos 0)) (sym (to_z-of_z w64 b c.ranges.b)) ∙ c.if-b-gt0.false in
    let bound = c.rem_euclid-else-b-gt0.ensures.upper_bound in
    let less : nat_abs r ≤ 2 ^ 31 =
    omega (arith, ints, bound, ap nat_abs eb, size b c.requires.divisor) in
    minus_is r less
    ∙ ap neg_ℤ
    (c.rem_euclid-else-b-gt0.ensures.value
    ∙ ap (λ z. int_rem_euclid z (minus b)) ea
    ∙ ap (int_rem_euclid (neg_ℤ a)) eb)
    ∙ sym (remainder_by_negative a b t c.requires.nonzero)
