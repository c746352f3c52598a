-- A decoded instruction: which one a run has, and what comes of performing it.
use Rattle.std.specs.Prelude.{◌≡◌, ℕ, ◌+◌, ◌-◌, ◌*◌, ◌≤◌, false, not, List, [], ◌∷◌, Some, None, Ok, Err, Option, Result, nat_lt, slice_index_or}
use Rattle.std.specs.Option.{option_map}
use Rattle.values.specs.Faults.{fault}
use Rattle.values.specs.Order.{Test, test}
use Rattle.values.specs.declared.faults.Fault.{Fault}
use Rattle.values.specs.declared.faults.Rule.TheVariants.{RunNotLive, CountsDiffer, StepFrameShort}
use Rattle.values.specs.declared.kinds.Value.{Value}
use Rattle.values.specs.declared.kinds.Value.TheVariants.{Nil}
use Rattle.hosts.specs.Meaning.{Meaning, Sent, cell_value}
use Rattle.parcels.specs.Instructions.{InstructionAt}
use Rattle.parcels.specs.Literals.{literal, binding_of, constant_of}
use Rattle.parcels.specs.Parts.{Parts, parts}
use Rattle.parcels.specs.declared.opcodes.Operation.{Operation}
use Rattle.parcels.specs.declared.opcodes.Source.{Source}
use Rattle.parcels.specs.declared.opcodes.Source.TheVariants as source
use Rattle.parcels.specs.declared.reading.Instruction.{Instruction}
use Rattle.semantics.specs.Scripts.{Script, script_of, Outcome, continues, ends, stops, integer, special}
use Rattle.semantics.specs.Execution.{Exec}
use Rattle.semantics.specs.Steps.{RunView, is_live, has_counts, frame_cells, working_base, code_context_of}
use Rattle.semantics.specs.declared.states.State.TheVariants.{Live}
use Rattle.safety.specs.Ready.{Ready}
use Rattle.engine.specs.declared.decoded.Decoded.{Decoded}
use Rattle.engine.specs.declared.decoded.StepResult.{StepResult}
use Rattle.engine.specs.declared.decoded.StepResult.TheVariants.{Continued, Ended, Stopped}

-- a step's result as an outcome
abbrev pub outcome_of : StepResult → Outcome
outcome_of (Continued p h) = continues p h
outcome_of (Ended w v) = ends w v
outcome_of (Stopped x) = stops x

-- the script of a decoded instruction
abbrev pub script_in : Decoded → Script
script_in d =
    script_of (code_context_of (parts d.parcel)) d.instruction d.next d.height d.operation

-- the cell of the top of the working cells
abbrev pub top_cell : Decoded → ℕ
top_cell d = working_base (parts d.parcel) + (d.height - 1)

-- a frame of n cells is long enough
abbrev pub Long : Parts → ℕ → Type 0
Long p n = frame_cells p ≤ n

-- the value of a source, from a frame and a host's meaning
abbrev pub source_value : Parts → Instruction → Source → List Value → Meaning → Option Value
source_value p i source.Cell f m = Some (slice_index_or f i.argument Nil)
source_value p i source.Binding f m =
    option_map (cell_value m.bindings) (binding_of (literal p.literals i.argument))
source_value p i source.Variable f m = Some (cell_value m.variables i.argument)
source_value p i source.Integer f m = integer i.argument
source_value p i source.Special f m = special i.argument
source_value p i source.Literal f m = constant_of (literal p.literals i.argument)
source_value p i source.Receiver f m = Some m.receiver

-- the next instruction of a run, decoded
pub record NextDecoded (run : RunView) (d : Decoded) : Type 0 where
  pub parcel : parts d.parcel ≡ run.parts
  pub variables : d.variable_count ≡ run.variable_count
  pub stands : InstructionAt run.parts.code run.place d.instruction d.operation
  pub following : d.next ≡ run.place + 2 * d.instruction.pairs
  pub at : d.height ≡ run.height

-- a live run has a next instruction, with its operation in front; no other run has one
abbrev pub HasDecoded : RunView → Option (Operation × Decoded) → Type 0
HasDecoded run (Some n) = (n.1.operation ≡ n.0) × NextDecoded run n.1
HasDecoded run None = is_live run.state ≡ false

-- wherever a run continues, it is ready
abbrev pub ContinuesReady : RunView → StepResult → Type 0
ContinuesReady run w =
    (p h : ℕ) → outcome_of w ≡ continues p h
    → ∥ Ready run.parts run.variable_count run.binding_count p h ∥₁

-- why a live run is not stepped with a frame of n cells, in order
abbrev pub count_tests : RunView → Meaning → ℕ → List Test
count_tests run m n =
    test CountsDiffer run.place (not (has_counts run m))
    ∷ test StepFrameShort run.place (nat_lt n (frame_cells run.parts))
    ∷ []

module _ {S : Type 0} (means : S → Meaning) (may : S → Sent → Value → S → Type 0) where
  -- a step's result is what may come of the script of a decoded instruction
  abbrev pub Performed : Decoded → List Value → S → StepResult → List Value → S → Type 0
  Performed d f s w f' s' =
      Exec d.parcel.literals.now means may (script_in d) f s (outcome_of w) f' s'

  -- what comes of performing the next instruction of a run, or the refusal of one that is not live
  abbrev pub PerformedNext : RunView → Option (Operation × Decoded) → List Value → S
      → Result StepResult Fault → List Value → S → Type 0
  PerformedNext run (Some n) f s (Ok w) f' s' =
      (run.state ≡ Live) × Performed n.1 f s w f' s'
  PerformedNext run None f s (Ok w) f' s' = ⊥
  PerformedNext run n f s (Err x) f' s' =
      (is_live run.state ≡ false) × (x ≡ fault RunNotLive run.place) × (f' ≡ f) × (s' ≡ s)

-- the first of two, unless there is a fault
abbrev pub if_ok : {X : Type 0} → Result (Unit {0}) Fault → X → X → X
if_ok (Ok u) x y = x
if_ok (Err f) x y = y
