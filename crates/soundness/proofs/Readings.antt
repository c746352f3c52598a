-- Reading an instruction, and the places where instructions start.
use Rattle.std.proofs.Common.{◌≡◌, ℕ, zero, suc, ◌+◌, ◌-◌, ◌*◌, ◌/◌, ◌%◌, ◌<◌, ◌≤◌, Bool, true, false, cond, not, ◌&&◌, eqb, ltb, leb, List, [], ◌∷◌, length, get_or, drop, Ok, Err, sym, refl, ap, ◌∙◌, subst, arith, length-drop, get_or-drop}
use Rattle.std.proofs.lemmas.Bool.{eqb-true, eqb-false, eq-eqb, ne_eqb, lt-ltb, le-leb}
use Rattle.parcels.specs.Reading.{Reading, final_pair, reads, read_at, starts_at}
use Rattle.parcels.specs.declared.reading.Instruction.{Instruction}
use Rattle.parcels.specs.declared.reading.TheConstants.{EXTENSION, MAX_EXTENSIONS}
use Rattle.parcels.specs.declared.reading.Unreadable.TheVariants.{FourthExtension}
use Rattle.soundness.proofs.Transfers.{start_even}

-- k pairs were read before xs: extension pairs, and then one that is none
record Shape (k : ℕ) (xs : List ℕ) (pairs : ℕ) : Type 0 where
  more : k < pairs
  fits : 2 * (pairs - k) ≤ length xs
  last : get_or xs (2 * (pairs - k) - 2) 0 ≡ EXTENSION → ⊥
  inner : (j : ℕ) → 2 * j + 2 < 2 * (pairs - k) → get_or xs (2 * j) 0 ≡ EXTENSION

final : (k op b : ℕ) (rest : List ℕ) → (op ≡ EXTENSION → ⊥) → Shape k (op ∷ b ∷ rest) (k + 1)
final k op b rest ne =
    let one : 2 * (k + 1 - k) - 2 ≡ 0 = omega arith in
    record {
      more = omega arith;
      fits = omega arith;
      last = λ e. ne (sym (ap (λ (j : ℕ). get_or (op ∷ b ∷ rest) j 0) one) ∙ e);
      inner = λ j h. absurd (omega arith);
    }

extended : (k op b pairs : ℕ) (rest : List ℕ)
    → op ≡ EXTENSION → Shape (k + 1) rest pairs → Shape k (op ∷ b ∷ rest) pairs
extended k op b pairs rest is s =
    let m = s.more in
    let f = s.fits in
    let shift : 2 * (pairs - k) - 2 ≡ suc (suc (2 * (pairs - (k + 1)) - 2)) = omega arith in
    record {
      more = omega arith;
      fits = omega arith;
      last = λ e. s.last (sym (ap (λ (j : ℕ). get_or (op ∷ b ∷ rest) j 0) shift) ∙ e);
      inner = λ j h. at j h;
    }
  where
    at : (j : ℕ) → 2 * j + 2 < 2 * (pairs - k) → get_or (op ∷ b ∷ rest) (2 * j) 0 ≡ EXTENSION
    at zero h = is
    at (suc j) h =
        let shift : 2 * suc j ≡ suc (suc (2 * j)) = omega arith in
        ap (λ (i : ℕ). get_or (op ∷ b ∷ rest) i 0) shift ∙ s.inner j (omega arith)

abbrev pairs_of : Reading → ℕ
pairs_of (Ok r) = r.0.pairs
pairs_of (Err e) = 0

-- the final pair was read
finished : (k a op b : ℕ) (xs : List ℕ) (i : Instruction) (rest : List ℕ)
    → (op ≡ EXTENSION → ⊥) → final_pair op b a k xs ≡ Ok (i, rest) → Shape k (op ∷ b ∷ xs) i.pairs
finished k a op b xs i rest ne q =
    let same : k + 1 ≡ i.pairs = ap pairs_of q in
    subst (λ (m : ℕ). Shape k (op ∷ b ∷ xs) m) same (final k op b xs ne)

shape : (n a k : ℕ) (xs : List ℕ) (i : Instruction) (rest : List ℕ)
    → reads n a k xs ≡ Ok (i, rest) → Shape k xs i.pairs
shape n a k [] i rest e = absurd cc
shape n a k (x ∷ []) i rest e = absurd cc
shape zero a k (op ∷ b ∷ xs) i rest e = by (eqb op EXTENSION) refl e
  where
    by : (c : Bool) → eqb op EXTENSION ≡ c
        → cond {A = Reading} c (Err FourthExtension) (final_pair op b a k xs) ≡ Ok (i, rest)
        → Shape k (op ∷ b ∷ xs) i.pairs
    by true f q = absurd cc
    by false f q = finished k a op b xs i rest (eqb-false op EXTENSION f) q
shape (suc n) a k (op ∷ b ∷ xs) i rest e =
    by (shape n (a * 256 + b) (k + 1) xs i rest) (eqb op EXTENSION) refl e
  where
    by : (reads n (a * 256 + b) (k + 1) xs ≡ Ok (i, rest) → Shape (k + 1) xs i.pairs)
        → (c : Bool) → eqb op EXTENSION ≡ c
        → cond {A = Reading} c (reads n (a * 256 + b) (k + 1) xs) (final_pair op b a k xs)
        ≡ Ok (i, rest)
        → Shape k (op ∷ b ∷ xs) i.pairs
    by more true f q = extended k op b i.pairs xs (eqb-true op EXTENSION f) (more q)
    by more false f q = finished k a op b xs i rest (eqb-false op EXTENSION f) q

-- an instruction of so many pairs at p
pub record Spans (code : List ℕ) (p pairs : ℕ) : Type 0 where
  pub some : 0 < pairs
  pub fits : p + 2 * pairs ≤ length code
  pub last : get_or code (p + 2 * pairs - 2) 0 ≡ EXTENSION → ⊥
  pub inner : (j : ℕ) → j + 1 < pairs → get_or code (p + 2 * j) 0 ≡ EXTENSION

pub spans : (code : List ℕ) (p : ℕ) (i : Instruction) (rest : List ℕ)
    → read_at code p ≡ Ok (i, rest) → Spans code p i.pairs
spans code p i rest e =
    let s = shape MAX_EXTENSIONS 0 0 (drop p code) i rest e in
    let m = s.more in
    let f = s.fits in
    let l = length-drop p code in
    let whole : p + (2 * (i.pairs - 0) - 2) ≡ p + 2 * i.pairs - 2 = omega arith in
    record {
      some = m;
      fits = omega arith;
      last = λ q.
          s.last
          (get_or-drop p code (2 * (i.pairs - 0) - 2) 0
          ∙ ap (λ (j : ℕ). get_or code j 0) whole ∙ q);
      inner = λ j h. sym (get_or-drop p code (2 * j) 0) ∙ s.inner j (omega arith);
    }

module _ {code : List ℕ} {p pairs : ℕ} (s : Spans code p pairs) (even : p % 2 ≡ 0) where
  -- no instruction starts inside another
  pub none_inside : (q : ℕ) → p < q → q < p + 2 * pairs → starts_at code q ≡ true → ⊥
  none_inside q l h t =
      let e = start_even code q t in
      let half : (j : ℕ) × (q ≡ p + 2 * j + 2) = halved q l e in
      let is : get_or code (q - 2) 0 ≡ EXTENSION =
      ap (λ (k : ℕ). get_or code k 0) (back half.0 half.1)
      ∙ s.inner half.0 (omega (arith, half.1))
      in
      not_after
      (eqb (q % 2) 0) (ltb q (length code)) (leb 2 q) (eqb (get_or code (q - 2) 0) EXTENSION)
      (le-leb 2 q (omega arith)) (eq-eqb _ EXTENSION is) t
    where
      halved : (q : ℕ) → p < q → q % 2 ≡ 0 → (j : ℕ) × (q ≡ p + 2 * j + 2)
      halved q l e = ((q - p) / 2 - 1, omega (arith, e))

      back : (j : ℕ) → q ≡ p + 2 * j + 2 → q - 2 ≡ p + 2 * j
      back j e = omega arith

      not_after : (a b c d : Bool) → c ≡ true → d ≡ true → (a && (b && not (c && d))) ≡ true → ⊥
      not_after true true true true f g e = let z : ◌≡◌ {A = ℕ} 0 1 = cc in omega arith
      not_after true true true false f g e = let z : ◌≡◌ {A = ℕ} 0 1 = cc in omega arith
      not_after true true false d f g e = let z : ◌≡◌ {A = ℕ} 0 1 = cc in omega arith
      not_after true false c d f g e = let z : ◌≡◌ {A = ℕ} 0 1 = cc in omega arith
      not_after false b c d f g e = let z : ◌≡◌ {A = ℕ} 0 1 = cc in omega arith

  -- the next one starts where it ends
  pub next_starts : p + 2 * pairs < length code → starts_at code (p + 2 * pairs) ≡ true
  next_starts h =
      all
      (eqb ((p + 2 * pairs) % 2) 0) (ltb (p + 2 * pairs) (length code))
      (leb 2 (p + 2 * pairs)) (eqb (get_or code (p + 2 * pairs - 2) 0) EXTENSION)
      (eq-eqb _ 0 (omega (arith, even))) (lt-ltb _ _ h) (ne_eqb _ EXTENSION s.last)
    where
      all : (a b c d : Bool) → a ≡ true → b ≡ true → d ≡ false → (a && (b && not (c && d))) ≡ true
      all true true true true f g e = cc
      all true true true false f g e = refl
      all true true false d f g e = refl
      all true false c d f g e = g
      all false b c d f g e = f

-- the first instruction starts at place 0
pub first_starts : (code : List ℕ) → 0 < length code → starts_at code 0 ≡ true
first_starts code h = ap (λ (b : Bool). true && (b && true)) (lt-ltb 0 (length code) h)
