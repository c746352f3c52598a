-- Quotients and remainders that round down.
use Rattle.std.proofs.Common.{◌≡◌, ℕ, zero, suc, ◌+◌, ◌-◌, ◌*◌, ◌/◌, ◌%◌, ◌<◌, ◌≤◌, false, ◌≢◌, ℤ, pos, negsuc, ◌+ℤ◌, ◌*ℤ◌, neg_ℤ, nat_abs, ◌<ℤ◌, sym, refl, ap, ◌∙◌, inl, inr, mul-le-mul_right, mod-lt, suc-mul, add-mul, div-add-mod', arith}
use borrow.Author.Differences.{up, down}
use lib.IntN.{neg_ℤ-neg_ℤ, neg_ℤ-+ℤ, *ℤ-negsuc}
use lib.Signed.{lt_z}
use Rattle.std.specs.Int.{int_div_euclid, int_rem_euclid}
use Rattle.std.proofs.lemmas.Int.{ints, by_lt_z}
use Rattle.arithmetic.specs.Division.{floor_remainder}
use Rattle.arithmetic.specs.Laws.{ZeroOrSignOf, Divides, DividesOnlySo}

-- by a negative divisor
pub remainder_by_negative : (x y : ℤ) → lt_z (pos 0) y ≡ false → y ≢ pos 0
    → floor_remainder x y ≡ neg_ℤ (int_rem_euclid (neg_ℤ x) (neg_ℤ y))
remainder_by_negative x (pos zero) t n = absurd (n refl)
remainder_by_negative x (pos (suc k)) t n = absurd (omega (arith, ints))
remainder_by_negative x (negsuc k) t n = refl

-- by a positive divisor: what the quotient and the remainder make up, and where the remainder lies
whole_by : (x : ℤ) (n : ℕ) → 0 < n
    → x ≡ int_div_euclid x (pos n) *ℤ pos n +ℤ int_rem_euclid x (pos n)
whole_by (pos a) n h = ap pos (sym (div-add-mod' a n))
whole_by (negsuc a) n h =
    let r : a % n < n = mod-lt a h in
    omega (arith, ints, div-add-mod' a n, suc-mul (a / n) n)

rest_by : (x : ℤ) (n : ℕ) → 0 < n → (k : ℕ) × (k < n) × (int_rem_euclid x (pos n) ≡ pos k)
rest_by (pos a) n h = (a % n, mod-lt a h, refl)
rest_by (negsuc a) n h = (n - 1 - a % n, omega arith, refl)

sign_positive : (r : ℤ) (k n : ℕ) → r ≡ pos k → ZeroOrSignOf (pos (suc n)) r
sign_positive r zero n e = inl e
sign_positive r (suc k) n e = inr (inl (omega (arith, ints), omega (arith, ints)))

sign_negative : (r : ℤ) (k n : ℕ) → r ≡ neg_ℤ (pos k) → ZeroOrSignOf (negsuc n) r
sign_negative r zero n e = inl e
sign_negative r (suc k) n e = inr (inr (omega (arith, ints), omega (arith, ints)))

turned : (x q r : ℤ) (n : ℕ) → neg_ℤ x ≡ q *ℤ pos (suc n) +ℤ r → x ≡ q *ℤ negsuc n +ℤ neg_ℤ r
turned x q r n e =
    sym (neg_ℤ-neg_ℤ x) ∙ ap neg_ℤ e ∙ neg_ℤ-+ℤ (q *ℤ pos (suc n)) r
    ∙ ap (λ z. z +ℤ neg_ℤ r) (sym (*ℤ-negsuc q n))

pub divides : Divides
divides x (pos zero) h = absurd (h refl)
divides x (pos (suc n)) h =
    let w = rest_by x (suc n) (omega arith) in
    record {
      whole = whole_by x (suc n) (omega arith);
      smaller = omega (arith, ap nat_abs w.2, w.1);
      sign = sign_positive (int_rem_euclid x (pos (suc n))) w.0 n w.2;
    }
divides x (negsuc n) h =
    let q = int_div_euclid (neg_ℤ x) (pos (suc n)) in
    let r = int_rem_euclid (neg_ℤ x) (pos (suc n)) in
    let w = rest_by (neg_ℤ x) (suc n) (omega arith) in
    let size : nat_abs (neg_ℤ r) ≡ w.0 = omega (arith, ints, w.2) in
    record {
      whole = turned x q r n (whole_by (neg_ℤ x) (suc n) (omega arith));
      smaller = omega (arith, w.1);
      sign = sign_negative (neg_ℤ r) w.0 n (ap neg_ℤ w.2);
    }

cancelled : (z r s : ℤ) → z +ℤ r ≡ z +ℤ s → r ≡ s
cancelled z r s e = omega (arith, ints)

-- two quotients by one divisor, each with a remainder below it
module _ (n : ℕ) where
  not_below : (p q : ℤ) (i k : ℕ) → i < n → p *ℤ pos n +ℤ pos i ≡ q *ℤ pos n +ℤ pos k → p <ℤ q → ⊥
  not_below p q i k h e l =
      let m : (up p + down q + 1) * n ≤ (up q + down p) * n =
      mul-le-mul_right n (omega (arith, ints)) in
      let left = add-mul (up p + down q) 1 n in
      omega (arith, ints, m, left, add-mul (up p) (down q) n, add-mul (up q) (down p) n)

  one_quotient : (p q : ℤ) (i k : ℕ) → i < n → k < n → p *ℤ pos n +ℤ pos i ≡ q *ℤ pos n +ℤ pos k
      → p ≡ q
  one_quotient p q i k f g e =
      by_lt_z p q
      (λ l. absurd (not_below p q i k f e l))
      (λ l. by_lt_z q p
      (λ m. absurd (not_below q p k i g (sym e) m))
      (λ m. omega (arith, ints)))

  only_by : (x q r : ℤ) (k : ℕ) → 0 < n → x ≡ q *ℤ pos n +ℤ r → r ≡ pos k → k < n
      → (q ≡ int_div_euclid x (pos n)) × (r ≡ int_rem_euclid x (pos n))
  only_by x q r k h e f l =
      let p = int_div_euclid x (pos n) in
      let s = int_rem_euclid x (pos n) in
      let w = rest_by x n h in
      let whole : p *ℤ pos n +ℤ pos w.0 ≡ x =
      sym (whole_by x n h ∙ ap (λ z. p *ℤ pos n +ℤ z) w.2) in
      let same : q ≡ p =
      one_quotient q p k w.0 l w.1 (sym (e ∙ ap (λ z. q *ℤ pos n +ℤ z) f) ∙ sym whole) in
      let all : q *ℤ pos n +ℤ r ≡ q *ℤ pos n +ℤ s =
      sym e ∙ whole_by x n h ∙ sym (ap (λ z. z *ℤ pos n +ℤ s) same) in
      (same, cancelled (q *ℤ pos n) r s all)

not_negative : (n : ℕ) (r : ℤ) → ZeroOrSignOf (pos n) r → r ≡ pos (nat_abs r)
not_negative n r (inl e) = e ∙ sym (ap (λ z. pos (nat_abs z)) e)
not_negative n r (inr (inl h)) = omega (arith, ints, h.1)
not_negative n r (inr (inr h)) = absurd (omega (arith, ints, h.0))

not_positive : (n : ℕ) (r : ℤ) → ZeroOrSignOf (negsuc n) r → neg_ℤ r ≡ pos (nat_abs r)
not_positive n r (inl e) = ap neg_ℤ e ∙ sym (ap (λ z. pos (nat_abs z)) e)
not_positive n r (inr (inl h)) = absurd (omega (arith, ints, h.0))
not_positive n r (inr (inr h)) = omega (arith, ints, h.1)

turned_back : (x q r : ℤ) (n : ℕ) → x ≡ q *ℤ negsuc n +ℤ r → neg_ℤ x ≡ q *ℤ pos (suc n) +ℤ neg_ℤ r
turned_back x q r n e =
    ap neg_ℤ e ∙ neg_ℤ-+ℤ (q *ℤ negsuc n) r
    ∙ ap (λ z. neg_ℤ z +ℤ neg_ℤ r) (*ℤ-negsuc q n)
    ∙ ap (λ z. z +ℤ neg_ℤ r) (neg_ℤ-neg_ℤ (q *ℤ pos (suc n)))

pub only_so : DividesOnlySo
only_so x (pos n) q r d =
    let size = not_negative n r d.sign in
    only_by n x q r (nat_abs r) (omega (arith, d.smaller)) d.whole size d.smaller
only_so x (negsuc n) q r d =
    let whole = turned_back x q r n d.whole in
    let size = not_positive n r d.sign in
    let w = only_by (suc n) (neg_ℤ x) q (neg_ℤ r) (nat_abs r) (omega arith) whole size d.smaller in
    (w.0, sym (neg_ℤ-neg_ℤ r) ∙ ap neg_ℤ w.1)
