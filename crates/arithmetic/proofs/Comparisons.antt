-- The comparisons tell what they should.
use Rattle.std.proofs.Common.{◌≡◌, Bool, true, false, not, ℤ, ◌≤ℤ◌, ◌<ℤ◌, Some, Decides, sym, refl, inl, inr, true≢false, arith}
use lib.Signed.{lt_z, le_z}
use Rattle.std.proofs.lemmas.Int.{ints}
use Rattle.std.proofs.lemmas.Bool.Decides.{Decides-int_eq, Decides-not}
use Rattle.values.proofs.Smalls.{true_from}
use Rattle.hosts.specs.Meaning.{Sent}
use Rattle.values.specs.Kinds.{truth}
use Rattle.std.specs.Ordering.{int_eq}
use Rattle.arithmetic.specs.Own.{own_answer}
use Rattle.arithmetic.specs.Laws.{integer_message, Tells, Compares}

tells_by : (m : Sent) (P : Type 0) (b : Bool) → own_answer m ≡ Some (truth b) → Decides b P
    → Tells m P
tells_by m P true e d = inl (e, d.0 refl)
tells_by m P false e d = inr (e, (λ p. absurd (true≢false (sym (d.1 p)))))

decides_less : (a b : ℤ) → Decides (lt_z a b) (a <ℤ b)
decides_less a b = ((λ e. omega (arith, ints)), (λ h. true_from (lt_z a b) h.lt))

decides_at_most : (a b : ℤ) → Decides (le_z a b) (a ≤ℤ b)
decides_at_most a b = ((λ e. omega (arith, ints)), (λ h. true_from (le_z a b) h.le))

pub compares : Compares
compares x y =
    let a = x.value in
    let b = y.value in
    let differ = Decides-not (int_eq a b) (Decides-int_eq a b) in
    record {
      less = tells_by (integer_message 2 x y) (a <ℤ b) (lt_z a b) refl (decides_less a b);
      greater = tells_by (integer_message 3 x y) (b <ℤ a) (lt_z b a) refl (decides_less b a);
      at_most = tells_by (integer_message 4 x y) (a ≤ℤ b) (le_z a b) refl (decides_at_most a b);
      at_least = tells_by (integer_message 5 x y) (b ≤ℤ a) (le_z b a) refl (decides_at_most b a);
      equal = tells_by (integer_message 6 x y) (a ≡ b) (int_eq a b) refl (Decides-int_eq a b);
      unequal = tells_by (integer_message 7 x y) (a ≡ b → ⊥) (not (int_eq a b)) refl differ;
    }
