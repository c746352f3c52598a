-- A table that lists a function's values: its rule is one equation, computed over the whole table.
use Rattle.std.proofs.Common.{◌≡◌, ℕ, zero, suc, ◌+◌, ◌<◌, ◌≤◌, ◌&&◌, eqb, leb, ltb, List, [], ◌∷◌, get_or, Some, None, Option, is_some, unwrap_or, Bor, sym, ap, ◌∙◌, le_of_suc-le-suc, not-suc-le-zero, zero-add, arith}
use Rattle.std.specs.Option.{IfSome, option_copied}
use Rattle.std.proofs.Math.Bool.{and-false}
use Rattle.std.proofs.lemmas.Bool.{cond-false, ne_eqb, lt-leb, ltb-true, ltb-false}
use Rattle.parcels.specs.Opcodes.{arity_of}

module _ {X : Type 0} where
  -- f at the n numbers from i on
  abbrev pub listed : (ℕ → X) → ℕ → ℕ → List X
  listed f i zero = []
  listed f i (suc n) = f i ∷ listed f (suc i) n

  from : (f : ℕ → X) (n i k : ℕ) (d : X) → k < n → get_or (listed f i n) k d ≡ f (i + k)
  from f zero i k d h = absurd (not-suc-le-zero h)
  from f (suc n) i zero d h = ap f (omega arith)
  from f (suc n) i (suc k) d h = from f n (suc i) k d (le_of_suc-le-suc h) ∙ ap f (omega arith)

  -- what a table of f's values holds at k
  pub listed_at : (f : ℕ → X) (n : ℕ) (xs : List X) (d : X) → xs ≡ listed f 0 n
      → (k : ℕ) → k < n → get_or xs k d ≡ f k
  listed_at f n xs d e k h =
      ap (λ (l : List X). get_or l k d) e ∙ from f n 0 k d h ∙ ap f (zero-add k)

-- the count of a message that the table does not have
beyond : (m : ℕ) → 25 ≤ m → 0 ≡ arity_of m
beyond m h =
    sym
    (cond-false (eqb m 17) _ _ (ne_eqb m 17 (λ e. absurd (omega arith)))
    ∙ cond-false (leb 18 m && leb m 22) _ _
    (ap (λ b. leb 18 m && b) (lt-leb m 22 (omega arith)) ∙ and-false (leb 18 m))
    ∙ cond-false (leb m 24) _ _ (lt-leb m 24 (omega arith)))

-- what is looked up in the table of counts, or 0 beyond it
pub looked_up : (xs : List ℕ) (r : Option (Bor ℕ)) (m : ℕ)
    → is_some r ≡ ltb m 25 → IfSome r (λ x. x.now ≡ get_or xs m x.now)
    → xs ≡ listed arity_of 0 25 → unwrap_or (option_copied r) 0 ≡ arity_of m
looked_up xs (Some x) m s h e = h ∙ listed_at arity_of 25 xs x.now e m (ltb-true m 25 (sym s))
looked_up xs None m s h e = beyond m (ltb-false m 25 (sym s))
