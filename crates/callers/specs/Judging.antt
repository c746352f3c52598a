-- What callers of a check can rely on.
use Rattle.std.specs.Prelude.{◌≡◌, ◌≢◌, ◌⊎◌, ◌↔◌, ℕ, ◌+◌, ◌<◌, ◌≤◌, Bool, true, false, List, length, Some, None, Ok, Err, Option, Result, slice_index}
use Rattle.values.specs.declared.faults.Fault.{Fault}
use Rattle.values.specs.declared.faults.Rule.{Rule}
use Rattle.values.specs.declared.faults.Rule.TheVariants.{HeightLow, HeightOver, FallsOffEnd, HeightsDiffer}
use Rattle.values.specs.declared.faults.Stage.{Stage}
use Rattle.values.specs.declared.faults.Stage.TheVariants.{Header, Flags, Literals, Lists, Encoding, Heights}
use Rattle.parcels.specs.Instructions.{InstructionAt, Among, successors}
use Rattle.parcels.specs.Opcodes.{effect_of, flow_of}
use Rattle.parcels.specs.Reading.{following_place}
use Rattle.parcels.specs.declared.layout.Layout.{Layout}
use Rattle.parcels.specs.declared.opcodes.Effect.{Effect}
use Rattle.parcels.specs.declared.opcodes.Flow.TheVariants.{Follows, Branches}
use Rattle.parcels.specs.declared.opcodes.Operation.{Operation}
use Rattle.parcels.specs.declared.reading.Instruction.{Instruction}
use Rattle.stages.specs.Check.{Question, pairs}
use Rattle.soundness.specs.Paths.{Path}
use Rattle.soundness.specs.Rules.{ValidHeader, ValidEncoding}
use Rattle.soundness.specs.Verdicts.{asked_code, asked_context, AskedIsValid, ListsSuffice, BeforeLiterals, BeforeLists, BeforeEncoding}

-- the height of place 0 by a verdict: 0 where the parcel is accepted
abbrev pub height_of_start : Result ℕ Fault → Option ℕ
height_of_start (Ok top) = Some 0
height_of_start (Err f) = None

-- what is answered is the height of the paths to p, of a parcel that is accepted: nothing where
-- there is none, as at an odd place and from the end of the code on
abbrev pub HeightReached : Question → ℕ → Option ℕ → Type 0
HeightReached q p r =
    (h : ℕ) → (r ≡ Some h) ↔ (AskedIsValid q × ListsSuffice q × Path (asked_code q) p h)

-- where a path to p at height h was before: at a place where an instruction stands, which found
-- there what it takes and left h, and which may go on at p
pub record Predecessor (code : List ℕ) (p h : ℕ) : Type 0 where
  pub place : ℕ
  pub height : ℕ
  pub instruction : Instruction
  pub operation : Operation
  pub path : Path code place height
  pub stands : InstructionAt code place instruction operation
  pub met : (effect_of operation instruction).takes ≤ height
  pub left : h + (effect_of operation instruction).takes
      ≡ height + (effect_of operation instruction).leaves
  pub on : Among p (successors code place instruction operation)

-- how a path comes to p at height h: it begins there, or was at another place before
abbrev pub Comes : List ℕ → ℕ → ℕ → Type 0
Comes code p h = ((p ≡ 0) × (h ≡ 0)) ⊎ Predecessor code p h

-- two lists of heights have the same for every pair of the code
abbrev pub SameHeights : List ℕ → List ℕ → List ℕ → Type 0
SameHeights code hs gs = (k : ℕ) → k < pairs code → slice_index hs k ≡ slice_index gs k

-- a stage before that of the lists
abbrev pub before_lists : Stage → Bool
before_lists Header = true
before_lists Flags = true
before_lists Literals = true
before_lists _ = false

-- what is kept where a parcel is refused at a stage: every stage before
abbrev pub KeptBefore : Question → Stage → Type 0
KeptBefore q Header = Unit {0}
KeptBefore q Flags = ValidHeader q.bytes
KeptBefore q Literals = BeforeLiterals q
KeptBefore q Lists = BeforeLists q
KeptBefore q Encoding = BeforeEncoding q
KeptBefore q Heights = BeforeEncoding q × ValidEncoding (asked_context q)
KeptBefore q _ = ⊥

-- a path that comes to p at a height, and the instruction that stands there
pub record Arrival (code : List ℕ) (p : ℕ) : Type 0 where
  pub height : ℕ
  pub instruction : Instruction
  pub operation : Operation
  pub path : Path code p height
  pub stands : InstructionAt code p instruction operation

-- the working cells that the instruction takes and leaves
abbrev pub effect_at : {code : List ℕ} {p : ℕ} → Arrival code p → Effect
effect_at a = effect_of a.operation a.instruction

-- the instruction finds as much as it takes
abbrev pub NeedMet : {code : List ℕ} {p : ℕ} → Arrival code p → Type 0
NeedMet a = (effect_at a).takes ≤ a.height

-- what is left, beside the locals, is more than the slots
abbrev pub OverSlots : {code : List ℕ} {p : ℕ} → Layout → Arrival code p → Type 0
OverSlots l a =
    l.slot_count + (effect_at a).takes < l.local_count + a.height + (effect_at a).leaves

-- the instruction may be followed by the next, and is the last of the code
abbrev pub LastGoesOn : {code : List ℕ} {p : ℕ} → Arrival code p → Type 0
LastGoesOn {code} {p} a =
    ((flow_of a.operation ≡ Follows) ⊎ (flow_of a.operation ≡ Branches))
    × (following_place p a.instruction ≡ length code)

-- two paths come to p at two heights
abbrev pub TwoHeights : List ℕ → ℕ → Type 0
TwoHeights code p = (h k : ℕ) × Path code p h × Path code p k × (h ≢ k)

-- what a refusal by a rule at p says of the paths to p: there is too little on the stack for the
-- instruction there; it leaves more than the slots beside the locals hold; it goes on behind the
-- code; or there are two heights. Other rules say nothing of paths
abbrev pub ToldOfPaths : Layout → List ℕ → Rule → ℕ → Type 0
ToldOfPaths l code HeightLow p = (a : Arrival code p) × (a.height < (effect_at a).takes)
ToldOfPaths l code HeightOver p = (a : Arrival code p) × NeedMet a × OverSlots l a
ToldOfPaths l code FallsOffEnd p = (a : Arrival code p) × NeedMet a × LastGoesOn a
ToldOfPaths l code HeightsDiffer p = TwoHeights code p
ToldOfPaths l code _ p = Unit {0}
