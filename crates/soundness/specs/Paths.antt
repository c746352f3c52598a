-- Paths through a code, and the height rules along them.
use Rattle.std.specs.Prelude.{◌≡◌, ℕ, ◌<◌, ◌≤◌, List, length, ◌≢◌}
use Rattle.values.specs.Faults.{fault}
use Rattle.values.specs.declared.faults.Fault.{Fault}
use Rattle.values.specs.declared.faults.Rule.TheVariants.{HeightLow, HeightOver, FallsOffEnd, HeightsDiffer}
use Rattle.parcels.specs.Opcodes.{effect_of, after}
use Rattle.parcels.specs.Instructions.{InstructionAt, Among, successors}
use Rattle.parcels.specs.declared.opcodes.Operation.{Operation}
use Rattle.parcels.specs.declared.reading.Instruction.{Instruction}

-- a path reaches a place at a height: it starts at place 0 with height 0, and where the need of an
-- instruction is met, it is extended to any successor at the height after
pub data Path (code : List ℕ) : ℕ → ℕ → Type 0 where
  start : Path code 0 0
  extend : {p h s : ℕ} {i : Instruction} {o : Operation}
      → Path code p h → InstructionAt code p i o
      → (effect_of o i).takes ≤ h → Among s (successors code p i o)
      → Path code s (after (effect_of o i) h)

-- the height rules, along every path: the need is met, the height after is within the limit, no
-- successor is the end of the code, and a place has one height
pub record ValidHeights (code : List ℕ) (limit : ℕ) : Type 0 where
  pub need : {p h : ℕ} {i : Instruction} {o : Operation}
      → Path code p h → InstructionAt code p i o → (effect_of o i).takes ≤ h
  pub within : {p h : ℕ} {i : Instruction} {o : Operation}
      → Path code p h → InstructionAt code p i o → after (effect_of o i) h ≤ limit
  pub inside : {p h : ℕ} {i : Instruction} {o : Operation}
      → Path code p h → InstructionAt code p i o → Among (length code) (successors code p i o) → ⊥
  pub one : {p h k : ℕ} → Path code p h → Path code p k → h ≡ k

-- a path breaks the height rule of a fault there; the height after is that of a need that is met
pub data ViolatesHeights (code : List ℕ) (limit : ℕ) : Fault → Type 0 where
  low : {p h : ℕ} {i : Instruction} {o : Operation}
      → Path code p h → InstructionAt code p i o → h < (effect_of o i).takes
      → ViolatesHeights code limit (fault HeightLow p)
  over : {p h : ℕ} {i : Instruction} {o : Operation}
      → Path code p h → InstructionAt code p i o
      → (effect_of o i).takes ≤ h → limit < after (effect_of o i) h
      → ViolatesHeights code limit (fault HeightOver p)
  leaves : {p h : ℕ} {i : Instruction} {o : Operation}
      → Path code p h → InstructionAt code p i o
      → (effect_of o i).takes ≤ h → Among (length code) (successors code p i o)
      → ViolatesHeights code limit (fault FallsOffEnd p)
  differ : {p h k : ℕ} → Path code p h → Path code p k → (h ≢ k)
      → ViolatesHeights code limit (fault HeightsDiffer p)
