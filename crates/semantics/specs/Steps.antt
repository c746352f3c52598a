-- A run as its caller sees it, and one step of it.
use Rattle.std.specs.Prelude.{◌≡◌, ℕ, ◌+◌, Bool, true, false, not, ◌&&◌, List, [], ◌∷◌, length, Some, None, Ok, Err, Option, Result, ◌==◌, nat_lt}
use Rattle.values.specs.Order.{Test, test, first}
use Rattle.values.specs.declared.faults.Fault.{Fault}
use Rattle.values.specs.declared.faults.Rule.TheVariants.{RunNotLive, CountsDiffer, StepFrameShort}
use Rattle.values.specs.declared.kinds.Value.{Value}
use Rattle.values.specs.declared.kinds.Value.TheVariants.{Nil}
use Rattle.hosts.specs.Meaning.{Meaning, Sent}
use Rattle.parcels.specs.Opcodes.{operation_of}
use Rattle.parcels.specs.Parts.{Parts}
use Rattle.parcels.specs.Reading.{Reading, read_at, following_place}
use Rattle.parcels.specs.declared.opcodes.Operation.{Operation}
use Rattle.parcels.specs.declared.reading.Instruction.{Instruction}
use Rattle.semantics.specs.Scripts.{Script, done, stuck, CodeContext, script_of, Outcome, continues, ends, stops}
use Rattle.semantics.specs.Execution.{Exec}
use Rattle.semantics.specs.declared.states.State.{State}
use Rattle.semantics.specs.declared.states.State.TheVariants.{Live, Ended, Stopped}

-- a run: its parcel, the counts of variables and bindings that it noted, its state, and its place
-- and height
pub record RunView : Type 0 where
  pub parts : Parts
  pub variable_count : ℕ
  pub binding_count : ℕ
  pub state : State
  pub place : ℕ
  pub height : ℕ

-- the cells of a frame that is just long enough
abbrev pub frame_cells : Parts → ℕ
frame_cells p = p.layout.argument_count + p.layout.slot_count

-- the cell of the frame where the working cells begin
abbrev pub working_base : Parts → ℕ
working_base p = p.layout.argument_count + p.layout.local_count

-- what the scripts of this parcel share
abbrev pub code_context_of : Parts → CodeContext
code_context_of p = record { code = p.code; base = working_base p }

-- the script of an instruction at a place and a height
abbrev pub script_at : Parts → (place height : ℕ) → Instruction → Operation → Script
script_at p place h i o = script_of (code_context_of p) i (following_place place i) h o

-- the same by the operation of its opcode, if there is one
abbrev pub script_for : Parts → (place height : ℕ) → Instruction → Option Operation → Script
script_for p place h i None = done stuck
script_for p place h i (Some o) = script_at p place h i o

-- the script of what is read at a place
abbrev pub script_read : Parts → (place height : ℕ) → Reading → Script
script_read p place h (Err e) = done stuck
script_read p place h (Ok r) = script_for p place h r.0 (operation_of r.0.opcode)

-- the script of the next step
abbrev pub next_script : RunView → Script
next_script run = script_read run.parts run.place run.height (read_at run.parts.code run.place)

-- whether a state is live
abbrev pub is_live : State → Bool
is_live Live = true
is_live _ = false

-- the value of a state: nil unless ended
abbrev pub value_in : State → Value
value_in (Ended e v) = v
value_in _ = Nil

-- whether a host has the counts that a run noted
abbrev pub has_counts : RunView → Meaning → Bool
has_counts run m =
    length m.variables == run.variable_count && length m.bindings == run.binding_count

-- why a step is refused, in order
abbrev pub step_tests : RunView → List Value → Meaning → List Test
step_tests run f m =
    test RunNotLive run.place (not (is_live run.state))
    ∷ test CountsDiffer run.place (not (has_counts run m))
    ∷ test StepFrameShort run.place (nat_lt (length f) (frame_cells run.parts))
    ∷ []

-- the run moved by the outcome of its step: an end or a stop leaves place and height
abbrev pub moved : RunView → Outcome → RunView
moved run (continues p h) = record run { place = p; height = h }
moved run (ends e v) = record run { state = Ended e v }
moved run (stops x) = record run { state = Stopped x }

-- what a call that may be refused answers
abbrev pub CallAnswer : Type 0
CallAnswer = Result (Unit {0}) Fault

module _ {S : Type 0} (means : S → Meaning) (may : S → Sent → Value → S → Type 0) where
  -- one step by the first refusal, if there is one: it leaves everything; else the next script runs
  abbrev pub StepUnless : Option Fault → RunView → List Value → S
      → CallAnswer → RunView → List Value → S → Type 0
  StepUnless (Some x) run f s a run' f' s' = (a ≡ Err x) × (run' ≡ run) × (f' ≡ f) × (s' ≡ s)
  StepUnless None run f s a run' f' s' =
      (o : Outcome) × (a ≡ Ok tt) × (run' ≡ moved run o)
      × Exec run.parts.literals means may (next_script run) f s o f' s'

  -- one step of a run with the frame f on the host s: what it answers, and the run, the frame and
  -- the host afterwards
  abbrev pub Step : RunView → List Value → S → CallAnswer → RunView → List Value → S → Type 0
  Step run f s a run' f' s' = StepUnless (first (step_tests run f (means s))) run f s a run' f' s'
