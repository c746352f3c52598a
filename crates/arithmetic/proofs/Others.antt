-- The layer answers nothing else.
use Rattle.std.proofs.Common.{◌≡◌, ℕ, suc, Bool, true, false, cond, eqb, List, [], ◌∷◌, map, ℤ, Option, Some, sym, refl, arith}
use Rattle.std.specs.Prelude.{find, option_map, option_and_then}
use Rattle.std.specs.List.{ContainsAt}
use Rattle.std.proofs.lemmas.Bool.Decides.{Decides-eqb}
use Rattle.values.specs.declared.small.SmallInteger.{SmallInteger}
use Rattle.values.specs.declared.kinds.Value.{Value}
use Rattle.values.specs.declared.kinds.Value.TheVariants.{Integer}
use Rattle.hosts.specs.Meaning.{Sent, message}
use Rattle.arithmetic.specs.declared.operators.Operator.{Operator}
use Rattle.arithmetic.specs.Operators.{operator_table, applied}
use Rattle.arithmetic.specs.Own.{by_values, own_answer}
use Rattle.arithmetic.specs.Laws.{integer_message, OnlyThese}

-- a selector that gives a value stands in the table
module _ (s : ℕ) (x y : ℤ) (v : Value) where
  -- what the operator of an entry gives
  abbrev given : Option (ℕ × Operator) → Option Value
  given e = option_and_then (λ o. applied o x y) (option_map (λ e. e.1) e)

  listed_at : (e : ℕ × Operator) (es : List (ℕ × Operator)) (b : Bool) → eqb s e.0 ≡ b
      → given (cond b (Some e) (find (λ e. eqb s e.0) es)) ≡ Some v
      → (given (find (λ e. eqb s e.0) es) ≡ Some v → ContainsAt (map (λ e. e.0) es) s)
      → ContainsAt (map (λ e. e.0) (e ∷ es)) s
  listed_at e es true t h on = (0, omega arith, λ d. sym ((Decides-eqb s e.0).0 t))
  listed_at e es false t h on = let w = on h in (suc w.0, omega (arith, w.1), w.2)

  listed : (es : List (ℕ × Operator)) → given (find (λ e. eqb s e.0) es) ≡ Some v
      → ContainsAt (map (λ e. e.0) es) s
  listed [] h = absurd cc
  listed (e ∷ es) h = listed_at e es (eqb s e.0) refl h (listed es)

-- by what the message holds
abbrev Known : Sent → Type 0
Known m =
    ContainsAt (map (λ e. e.0) operator_table) m.selector
    × ((x : SmallInteger) × (y : SmallInteger) × (m ≡ integer_message m.selector x y))

known_values : (s : ℕ) (r w v : Value) → by_values s r w ≡ Some v
    → Known (message false s r (w ∷ []))
known_values s (Integer x) (Integer y) v e =
    (listed s x.value y.value v operator_table e, (x, y, refl))
known_values s _ _ v e = absurd cc

known : (p : Bool) (s : ℕ) (r : Value) (l : List Value) (v : Value)
    → own_answer (message p s r l) ≡ Some v → Known (message p s r l)
known false s r (w ∷ []) v e = known_values s r w v e
known _ s r _ v e = absurd cc

pub only_these : OnlyThese
only_these m v e = known m.super m.selector m.receiver m.arguments v e
