-- Tests in a fixed order: the first that applies is answered.
use Rattle.std.specs.Prelude.{ℕ, zero, suc, ◌+◌, Bool, if◌then◌else◌, List, [], ◌∷◌, Some, None, Ok, Err, Option, Result}
use Rattle.std.specs.Option.{option_or}
use Rattle.values.specs.declared.faults.Rule.{Rule}
use Rattle.values.specs.declared.faults.Fault.{Fault}
use Rattle.values.specs.Faults.{fault}

-- a fault, and whether it applies
pub record Test : Type 0 where
  pub finds : Fault
  pub applies : Bool

-- the rule r, broken at p if b
abbrev pub test : Rule → ℕ → Bool → Test
test r p b = record { finds = fault r p; applies = b }

-- the first fault that applies, if any does
abbrev pub first : List Test → Option Fault
first [] = None
first (t ∷ ts) = if t.applies then Some t.finds else first ts

-- the first fault that p finds at one of the n numbers from i on
abbrev pub first_from : (ℕ → Option Fault) → ℕ → ℕ → Option Fault
first_from p i zero = None
first_from p i (suc n) = option_or (p i) (first_from p (i + 1) n)

-- x, unless there is a fault
abbrev pub unless : {X : Type 0} → Option Fault → X → Result X Fault
unless (Some f) x = Err f
unless None x = Ok x

-- the next stage, unless there was a fault
abbrev pub and_then : {X Y : Type 0} → Result X Fault → (X → Result Y Fault) → Result Y Fault
and_then (Err f) next = Err f
and_then (Ok x) next = next x
