-- What one pair says of a reading.
use Rattle.std.proofs.Common.{◌≡◌, ℕ, zero, suc, ◌+◌, ◌-◌, ◌*◌, ◌<◌, ◌≤◌, eqb, List, [], ◌∷◌, length, get_or, take, drop, sym, ap, ◌∙◌, arith, length-drop, take_all, drop-drop}
use Rattle.std.proofs.lemmas.Bool.{eq-eqb, ne_eqb, cond-true, cond-false}
use Rattle.parcels.specs.Reading.{reads, reading, final_pair}
use Rattle.parcels.specs.declared.reading.TheConstants.{EXTENSION, MAX_EXTENSIONS}

-- what follows the first pair
abbrev behind : List ℕ → List ℕ
behind xs = take (length xs - 2) (drop 2 xs)

-- an extension pair, where one may still come
pub extends : (n a k : ℕ) (xs : List ℕ) → 0 < n → 2 ≤ length xs → get_or xs 0 0 ≡ EXTENSION
    → reads n a k xs ≡ reads (n - 1) (a * 256 + get_or xs 1 0) (k + 1) (behind xs)
extends n a k [] p h e = absurd (omega arith)
extends n a k (x ∷ []) p h e = absurd (omega arith)
extends zero a k (op ∷ b ∷ rest) p h e = absurd (omega arith)
extends (suc n) a k (op ∷ b ∷ rest) p h e =
    cond-true (eqb op EXTENSION) _ _ (eq-eqb op EXTENSION e)
    ∙ (λ i. reads (one i) (a * 256 + b) (k + 1) (all i))
  where
    one : n ≡ suc n - 1
    one = omega arith

    all : rest ≡ take (length (op ∷ b ∷ rest) - 2) rest
    all = sym (take_all (length (op ∷ b ∷ rest) - 2) rest (omega arith))

-- the final pair
pub ends : (n a k : ℕ) (xs : List ℕ) → 2 ≤ length xs → (get_or xs 0 0 ≡ EXTENSION → ⊥)
    → final_pair (get_or xs 0 0) (get_or xs 1 0) a k (behind xs) ≡ reads n a k xs
ends n a k [] h e = absurd (omega arith)
ends n a k (x ∷ []) h e = absurd (omega arith)
ends zero a k (op ∷ b ∷ rest) h e =
    ap (final_pair op b a k) (take_all (length (op ∷ b ∷ rest) - 2) rest (omega arith))
    ∙ sym (cond-false (eqb op EXTENSION) _ _ (ne_eqb op EXTENSION e))
ends (suc n) a k (op ∷ b ∷ rest) h e =
    ap (final_pair op b a k) (take_all (length (op ∷ b ∷ rest) - 2) rest (omega arith))
    ∙ sym (cond-false (eqb op EXTENSION) _ _ (ne_eqb op EXTENSION e))

-- the argument so far leaves room for the pairs that may still come
abbrev Room : ℕ → ℕ → Type 0
Room left a = (left ≡ 3 → a < 1) × (left ≡ 2 → a < 256) × (left ≡ 1 → a < 65536) × (a < 16777216)

-- the reading so far: k extension pairs are off the code's front
pub record ReadSofar (code rest : List ℕ) (a k : ℕ) : Type 0 where
  pub few : k ≤ MAX_EXTENSIONS
  pub room : Room (MAX_EXTENSIONS - k) a
  pub same : reads (MAX_EXTENSIONS - k) a k rest ≡ reading code
  pub place : rest ≡ drop (2 * k) code

front : (code rest : List ℕ) (k : ℕ) → rest ≡ drop (2 * k) code
    → behind rest ≡ drop (2 * (k + 1)) code
front code rest k e =
    take_all (length rest - 2) (drop 2 rest) (omega (arith, length-drop 2 rest))
    ∙ ap (drop 2) e ∙ drop-drop 2 (2 * k) code ∙ ap (λ (n : ℕ). drop n code) (omega arith)

-- one more extension pair
pub more : (code rest : List ℕ) (a k : ℕ) → ReadSofar code rest a k → (k ≡ MAX_EXTENSIONS → ⊥)
    → 2 ≤ length rest → get_or rest 0 0 ≡ EXTENSION → get_or rest 1 0 < 256
    → ReadSofar code (behind rest) (a * 256 + get_or rest 1 0) (k + 1)
more code rest a k s h two is small =
    let r = s.room in
    let f = s.few in
    let one : 3 - k - 1 ≡ 3 - (k + 1) = omega arith in
    record {
      few = omega arith;
      room = (
        λ e. absurd (omega arith),
        λ e. omega (arith, r.0 (omega arith)),
        λ e. omega (arith, r.1 (omega arith)),
        grind arith,
      );
      same =
          ap (λ (n : ℕ). reads n (a * 256 + get_or rest 1 0) (k + 1) (behind rest)) (sym one)
          ∙ sym (extends (3 - k) a k rest (omega arith) two is) ∙ s.same;
      place = front code rest k s.place;
    }

-- the instruction that ends with the first pair
pub record IsLast (code rest : List ℕ) (a k : ℕ) : Type 0 where
  pub reads_so : final_pair (get_or rest 0 0) (get_or rest 1 0) a k (behind rest) ≡ reading code
  pub behind : behind rest ≡ drop (2 * (k + 1)) code
  pub inside : 2 * (k + 1) ≤ length code
  pub few : k + 1 ≤ MAX_EXTENSIONS + 1

pub last : (code rest : List ℕ) (a k : ℕ) → ReadSofar code rest a k
    → 2 ≤ length rest → (get_or rest 0 0 ≡ EXTENSION → ⊥) → IsLast code rest a k
last code rest a k s two not = record {
  reads_so = ends (3 - k) a k rest two not ∙ s.same;
  behind = front code rest k s.place;
  inside = omega (arith, ap length s.place, length-drop (2 * k) code);
  few = omega (arith, s.few);
}
