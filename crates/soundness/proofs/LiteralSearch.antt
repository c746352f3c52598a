-- The first literal that breaks a rule.
use Rattle.std.proofs.Common.{◌≡◌, ℕ, zero, suc, ◌+◌, ◌<◌, ◌≤◌, List, Some, None, Option, refl, sym, ap, subst, inl, inr, arith}
use Rattle.std.specs.Option.{option_or}
use Rattle.std.proofs.lemmas.Bool.{cases_eq, cases_lt, cases_order}
use Rattle.values.specs.Order.{first, first_from}
use Rattle.values.specs.declared.faults.Fault.{Fault}
use Rattle.parcels.specs.Literals.{literal_tests, literal_fault}
use Rattle.soundness.specs.Rules.{First, ValidLiteral}
use Rattle.soundness.proofs.Orders.{first_none, first_some, literal_kept, literal_silent}
use Rattle.soundness.proofs.OneFirst.{first_one, not_first}

-- what is found of n literals from i on
pub data LiteralsFind (ls : List ℕ) (bindings i n : ℕ) : Option Fault → Type 0 where
  nothing : ((k : ℕ) → i ≤ k → k < i + n → ValidLiteral ls bindings k)
      → LiteralsFind ls bindings i n None
  wrong_at : {f : Fault} (k : ℕ) → i ≤ k → k < i + n
      → ((j : ℕ) → i ≤ j → j < k → ValidLiteral ls bindings j)
      → First (literal_tests ls bindings k) f → LiteralsFind ls bindings i n (Some f)

module _ (ls : List ℕ) (bindings : ℕ) where
  pub literals_find : (i n : ℕ)
      → LiteralsFind ls bindings i n (first_from (literal_fault ls bindings) i n)
  literals_find i zero = nothing (λ k l h. absurd (omega arith))
  literals_find i (suc n) =
      by (first (literal_tests ls bindings i)) refl (literals_find (i + 1) n)
    where
      next : (j : ℕ) → i ≤ j → (j ≡ i → ⊥) → i + 1 ≤ j
      next j l ne =
          elim (cases_lt i j) [ inl h ↦ omega arith | inr h ↦ absurd (ne (omega arith)) ]

      -- literal i keeps the rules, and so do others
      with_first : (j : ℕ) → i ≤ j → ValidLiteral ls bindings i
          → (i + 1 ≤ j → ValidLiteral ls bindings j) → ValidLiteral ls bindings j
      with_first j l k others = elim (cases_eq j i) [
        | inl e ↦ subst (λ (x : ℕ). ValidLiteral ls bindings x) (sym e) k
        | inr ne ↦ others (next j l ne)
      ]

      further : {o : Option Fault} → ValidLiteral ls bindings i
          → LiteralsFind ls bindings (i + 1) n o → LiteralsFind ls bindings i (suc n) o
      further k (nothing f) = nothing (λ j l h. with_first j l k (λ m. f j m (omega arith)))
      further k (wrong_at m l h f g) =
          wrong_at m (omega arith) (omega arith) (λ j a b. with_first j a k (λ c. f j c b)) g

      by : (o : Option Fault) → first (literal_tests ls bindings i) ≡ o
          → LiteralsFind ls bindings (i + 1) n (first_from (literal_fault ls bindings) (i + 1) n)
          → LiteralsFind ls bindings i (suc n)
          (option_or o (first_from (literal_fault ls bindings) (i + 1) n))
      by (Some f) e r =
          wrong_at i (omega arith) (omega arith) (λ j l h. absurd (omega arith))
          (first_some (literal_tests ls bindings i) f e)
      by None e r =
          further (literal_kept ls bindings i (first_none (literal_tests ls bindings i) e)) r

  -- the first literal that is wrong is what is found
  pub literals_one : {n : ℕ} {o : Option Fault} {f : Fault} → LiteralsFind ls bindings 0 n o
      → (k : ℕ) → k < n → ((j : ℕ) → j < k → ValidLiteral ls bindings j)
      → First (literal_tests ls bindings k) f → o ≡ Some f
  literals_one (nothing all) k l before x =
      absurd (not_first x (literal_silent ls bindings k (all k (omega arith) (omega arith))))
  literals_one (wrong_at {f = g} m a h all y) k l before x = elim (cases_order m k) [
    | inl e ↦ ap Some
        (first_one (subst (λ (n : ℕ). First (literal_tests ls bindings n) g) e y) x)
    | inr (inl c) ↦ absurd (not_first y (literal_silent ls bindings m (before m c)))
    | inr (inr c) ↦ absurd
        (not_first x (literal_silent ls bindings k (all k (omega arith) c)))
  ]

  -- nothing is found where all keep the rules
  pub literals_none : {n : ℕ} {o : Option Fault} → LiteralsFind ls bindings 0 n o
      → ((k : ℕ) → k < n → ValidLiteral ls bindings k) → o ≡ None
  literals_none (nothing all) k = refl
  literals_none (wrong_at m a h all y) k =
      absurd (not_first y (literal_silent ls bindings m (k m (omega arith))))
