-- One instruction of the encoding stage.
use Rattle.std.proofs.Common.{◌≡◌, ℕ, zero, suc, ◌+◌, ◌<◌, ◌≤◌, Bool, false, leb, List, length, Some, None, Ok, Err, Option, Result, sym, refl, ap, ◌∙◌, arith}
use Rattle.std.proofs.lemmas.Bool.{cond-true, cond-false, le-leb, lt-leb}
use Rattle.std.specs.Option.{option_or}
use Rattle.std.specs.Result.{MatchResult}
use Rattle.values.specs.Faults.{fault}
use Rattle.values.specs.Order.{unless, and_then}
use Rattle.values.specs.declared.faults.Fault.{Fault}
use Rattle.parcels.specs.Reading.{Reading, read_at, unreadable_rule, following_place}
use Rattle.parcels.specs.declared.reading.Instruction.{Instruction}
use Rattle.parcels.specs.declared.reading.Unreadable.{Unreadable}
use Rattle.stages.specs.Encoding.{Context, site_fault}
use Rattle.stages.specs.Sweep.{pushes_block, site, found_at, swept}

-- an answer: the fault, if there is one
abbrev answer : Option Fault → Result (Unit {0}) Fault
answer o = unless o (tt {0})

-- what is left to find from p on, in at most n instructions
abbrev left : Context → ℕ → Bool → ℕ → Result (Unit {0}) Fault
left x n b p = answer (swept x n b p)

-- all that there is to find
abbrev pub all : Context → Result (Unit {0}) Fault
all x = left x (length x.parts.code) false 0

-- what is left to find from p on is what there was to find
pub record SweptSofar (x : Context) (b : Bool) (p : ℕ) : Type 0 where
  pub fuel : ℕ
  pub enough : length x.parts.code ≤ p + fuel
  pub same : left x fuel b p ≡ all x

pub start : (x : Context) → SweptSofar x false 0
start x = record { fuel = length x.parts.code; enough = omega arith; same = refl }

-- nothing is left
pub ended : (x : Context) (b : Bool) (p : ℕ)
    → SweptSofar x b p → length x.parts.code ≤ p → Ok (tt {0}) ≡ all x
ended x b p s h = by s.fuel s.same
  where
    by : (n : ℕ) → left x n b p ≡ all x → Ok (tt {0}) ≡ all x
    by zero q = q
    by (suc n) q =
        ap answer (sym (cond-true (leb (length x.parts.code) p) None _ (le-leb _ _ h))) ∙ q

-- r was read at p
pub record SweepAt (x : Context) (b : Bool) (p : ℕ) (r : Reading) : Type 0 where
  pub fuel : ℕ
  pub enough : length x.parts.code ≤ p + suc fuel
  pub same : answer (found_at x (swept x fuel) b p r) ≡ all x

pub sweep_at : (x : Context) (b : Bool) (p : ℕ) (r : Reading)
    → SweptSofar x b p → p < length x.parts.code → r ≡ read_at x.parts.code p → SweepAt x b p r
sweep_at x b p r s h e = by s.fuel s.enough s.same
  where
    by : (n : ℕ) → length x.parts.code ≤ p + n → left x n b p ≡ all x → SweepAt x b p r
    by zero en q = absurd (omega arith)
    by (suc n) en q = record {
      fuel = n;
      enough = en;
      same =
          ap answer
          (ap (found_at x (swept x n) b p) e
          ∙ sym (cond-false (leb (length x.parts.code) p) None _ (lt-leb _ _ h)))
          ∙ q;
    }

-- an answer for the first, and then for the second
in_turn : (o p : Option Fault) → and_then (answer o) (λ _. answer p) ≡ answer (option_or o p)
in_turn (Some f) p = refl
in_turn None p = refl

module _ {x : Context} {b : Bool} {p : ℕ} where
  -- what is read at p is no instruction
  pub unread : (e : Unreadable) → SweepAt x b p (Err e) → Err (fault (unreadable_rule e) p) ≡ all x
  unread e t = t.same

  module _ (i : Instruction) (rest : List ℕ) (t : SweepAt x b p (Ok (i, rest))) where
    -- what is left behind the instruction
    abbrev further : Result (Unit {0}) Fault
    further = left x t.fuel (pushes_block x.parts.literals i) (following_place p i)

    -- the instruction at p has answered r
    after : (r : Result (Unit {0}) Fault) → r ≡ answer (site_fault x (site p b i))
        → and_then r (λ _. further) ≡ all x
    after r e =
        ap (λ (r : Result (Unit {0}) Fault). and_then r (λ _. further)) e ∙ in_turn _ _ ∙ t.same

    -- it breaks a rule
    pub broken : (f : Fault) → Err f ≡ answer (site_fault x (site p b i)) → Err f ≡ all x
    broken f e = after (Err f) e

    -- it keeps them all
    pub onward : Ok (tt {0}) ≡ answer (site_fault x (site p b i)) → p < following_place p i
        → SweptSofar x (pushes_block x.parts.literals i) (following_place p i)
    onward e h = record {
      fuel = t.fuel;
      enough = omega (arith, t.enough, h);
      same = after (Ok (tt {0})) e;
    }

-- what was read, where the error would have been mapped
pub got : {T D : Type 0} (E : Type 0) (r : Result T D) (y : T)
    → MatchResult r (λ x. ◌≡◌ {A = Result T E} (Ok y) (Ok x)) (λ _. ⊥) → r ≡ Ok y
got E (Ok x) y h = cc
got E (Err e) y h = absurd h

-- what was refused, where the error was mapped
pub lost : {T D E : Type 0} {P : D → Type 0} (r : Result T D) (f : E)
    → MatchResult r (λ x. ◌≡◌ {A = Result T E} (Err f) (Ok x)) P → (e : D) × (r ≡ Err e) × P e
lost (Ok x) f h = absurd cc
lost (Err e) f h = (e, refl, h)
