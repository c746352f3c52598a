-- What an opcode asks: what it does, what it takes and leaves, and where it goes on.
use Rattle.std.specs.Prelude.{ℕ, ◌+◌, ◌-◌, ◌%◌, true, false, if◌then◌else◌, ◌&&◌, List, [], ◌∷◌, Some, None, Option, ◌==◌, nat_le}
use Rattle.parcels.specs.Reading.{starts_at}
use Rattle.parcels.specs.declared.reading.Instruction.{Instruction}
use Rattle.parcels.specs.declared.opcodes.Source.TheVariants.{Cell, Binding, Variable, Integer, Special, Literal, Receiver}
use Rattle.parcels.specs.declared.opcodes.Target.TheVariants as target
use Rattle.parcels.specs.declared.opcodes.Direction.{Direction}
use Rattle.parcels.specs.declared.opcodes.Direction.TheVariants.{Back, Forward}
use Rattle.parcels.specs.declared.opcodes.Ending.TheVariants.{MethodReturn, Return}
use Rattle.parcels.specs.declared.opcodes.Operation.{Operation}
use Rattle.parcels.specs.declared.opcodes.Operation.TheVariants.{Send, SendSelector, Push, Store, Jump, Branch, Pop, Duplicate, Close, End, Line}
use Rattle.parcels.specs.declared.opcodes.Effect.{Effect}
use Rattle.parcels.specs.declared.opcodes.Flow.{Flow}
use Rattle.parcels.specs.declared.opcodes.Flow.TheVariants.{Follows, Jumps, Branches, Ends}

-- the argument count of a message: 2 for message 17, 0 for 18 to 22, 1 for the others up to 24, and
-- 0 beyond
abbrev pub arity_of : ℕ → ℕ
arity_of m =
    if m == 17 then 2
    else if nat_le 18 m && nat_le m 22 then 0
    else if nat_le m 24 then 1
    else 0

-- the opcodes above 24, and what each does
abbrev pub opcode_table : List (ℕ × Operation)
opcode_table =
    (28, SendSelector false)
    ∷ (29, SendSelector true)
    ∷ (32, Push Cell)
    ∷ (34, Push Binding)
    ∷ (35, Push Variable)
    ∷ (36, Store target.Cell)
    ∷ (38, Store target.Binding)
    ∷ (39, Store target.Variable)
    ∷ (40, Jump Back)
    ∷ (41, Jump Forward)
    ∷ (42, Branch true)
    ∷ (43, Branch false)
    ∷ (44, Push Integer)
    ∷ (45, Push Special)
    ∷ (46, Push Literal)
    ∷ (48, Pop)
    ∷ (49, Close)
    ∷ (50, End MethodReturn)
    ∷ (51, End Return)
    ∷ (52, Duplicate)
    ∷ (54, Line)
    ∷ (56, Push Receiver)
    ∷ []

-- what the table has for an opcode
abbrev pub lookup : ℕ → List (ℕ × Operation) → Option Operation
lookup op [] = None
lookup op (r ∷ rs) = if op == r.0 then Some r.1 else lookup op rs

-- what an opcode does: 0 to 24 send that message
abbrev pub operation_of : ℕ → Option Operation
operation_of op = if nat_le op 24 then Some Send else lookup op opcode_table

-- how many working cells an instruction takes, which is the height that it needs, and how many it
-- leaves in their place
abbrev pub effect_of : Operation → Instruction → Effect
effect_of Send i = record { takes = arity_of i.opcode + 1; leaves = 1 }
effect_of (SendSelector s) i = record { takes = i.argument % 256 + 1; leaves = 1 }
effect_of (Push s) i = record { takes = 0; leaves = 1 }
effect_of (Store t) i = record { takes = 1; leaves = 1 }
effect_of Close i = record { takes = 1; leaves = 1 }
effect_of (Branch b) i = record { takes = 1; leaves = 0 }
effect_of Pop i = record { takes = 1; leaves = 0 }
effect_of Duplicate i = record { takes = 1; leaves = 2 }
effect_of (End e) i = record { takes = 1; leaves = 0 }
effect_of _ i = record { takes = 0; leaves = 0 }

-- the height after an instruction at height h
abbrev pub after : Effect → ℕ → ℕ
after e h = h - e.takes + e.leaves

-- where a path goes on
abbrev pub flow_of : Operation → Flow
flow_of (Jump d) = Jumps d
flow_of (Branch b) = Branches
flow_of (End e) = Ends
flow_of _ = Follows

-- a place, if an instruction starts there
abbrev pub started : List ℕ → ℕ → Option ℕ
started code p = if starts_at code p then Some p else None

-- the landing place of a jump, from the following place, if an instruction starts there; none lies
-- before 0
abbrev pub landing_of : List ℕ → Direction → ℕ → ℕ → Option ℕ
landing_of code Back next by = if nat_le by next then started code (next - by) else None
landing_of code Forward next by = started code (next + by)

-- the successors of an instruction, the landing place first and then the following place
abbrev pub successors_of : List ℕ → Flow → ℕ → ℕ → List (Option ℕ)
successors_of code Follows next by = None ∷ Some next ∷ []
successors_of code (Jumps d) next by = landing_of code d next by ∷ None ∷ []
successors_of code Branches next by = landing_of code Forward next by ∷ Some next ∷ []
successors_of code Ends next by = None ∷ None ∷ []
