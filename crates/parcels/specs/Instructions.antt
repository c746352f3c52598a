-- The instructions of a code: what stands at a place, and the places that may come after it.
use Rattle.std.specs.Prelude.{◌≡◌, ℕ, ◌⊎◌, List, [], ◌∷◌, Some, None, Ok, Option}
use Rattle.parcels.specs.Reading.{read_at, following_place}
use Rattle.parcels.specs.Opcodes.{operation_of, flow_of, successors_of}
use Rattle.parcels.specs.declared.opcodes.Operation.{Operation}
use Rattle.parcels.specs.declared.reading.Instruction.{Instruction}

-- the instruction i, which does o, stands at p
pub record InstructionAt (code : List ℕ) (p : ℕ) (i : Instruction) (o : Operation) : Type 0 where
  pub rest : List ℕ
  pub read : read_at code p ≡ Ok (i, rest)
  pub known : operation_of i.opcode ≡ Some o

-- s is one of the places in a list
abbrev pub Among : ℕ → List (Option ℕ) → Type 0
Among s [] = ⊥
Among s (None ∷ ss) = Among s ss
Among s (Some t ∷ ss) = (s ≡ t) ⊎ Among s ss

-- the successors of an instruction at p: its landing place, its following place, either, or none
abbrev pub successors : List ℕ → ℕ → Instruction → Operation → List (Option ℕ)
successors code p i o = successors_of code (flow_of o) (following_place p i) i.argument
