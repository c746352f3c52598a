-- The encoding rules at one instruction.
use Rattle.std.specs.Prelude.{ℕ, Bool, true, false, not, ◌&&◌, List, [], ◌∷◌, length, is_some, Some, None, Option, ◌==◌}
use Rattle.std.specs.Option.{option_map_or}
use Rattle.values.specs.Order.{Test, test, first}
use Rattle.values.specs.declared.faults.Fault.{Fault}
use Rattle.values.specs.declared.faults.Rule.TheVariants.{OpcodeUnknown, OperandWrong, CleanBlock, StoreTrusted, ReturnForeign, LandingWrong, ClosureAlone}
use Rattle.hosts.specs.Meaning.{Marks, marked}
use Rattle.parcels.specs.Literals.{literal, binding_of}
use Rattle.parcels.specs.Parts.{Parts}
use Rattle.parcels.specs.Opcodes.{operation_of, flow_of, landing_of}
use Rattle.parcels.specs.declared.layout.CodeKind.{CodeKind}
use Rattle.parcels.specs.declared.layout.CodeKind.TheVariants.{Block}
use Rattle.parcels.specs.declared.literals.Literal.{Literal}
use Rattle.parcels.specs.declared.opcodes.Source.TheVariants as source
use Rattle.parcels.specs.declared.opcodes.Target.TheVariants as target
use Rattle.parcels.specs.declared.opcodes.Direction.TheVariants.{Forward}
use Rattle.parcels.specs.declared.opcodes.Ending.TheVariants.{MethodReturn}
use Rattle.parcels.specs.declared.opcodes.Flow.{Flow}
use Rattle.parcels.specs.declared.opcodes.Flow.TheVariants.{Jumps, Branches}
use Rattle.parcels.specs.declared.opcodes.Operation.{Operation}
use Rattle.parcels.specs.declared.opcodes.Operation.TheVariants.{Push, Store, Close, End}
use Rattle.stages.specs.Operands.{operand_fits}
use Rattle.stages.specs.declared.encoding.Site.{Site}
use Rattle.stages.specs.declared.encoding.TheConstants.{CLEAN, RETURNING}

-- what the encoding rules look at: the parcel, the host's marks, and whether the parcel is trusted
pub record Context : Type 0 where
  pub parts : Parts
  pub marks : Marks
  pub trusted : Bool

-- a context out of its parts
abbrev pub context : Parts → Marks → Bool → Context
context p m t = record { parts = p; marks = m; trusted = t }

-- a clean block
abbrev pub is_clean : CodeKind → Bool
is_clean (Block c) = c == CLEAN
is_clean _ = false

-- a block that may end by a method return
abbrev pub permits_return : CodeKind → Bool
permits_return (Block c) = c == RETURNING
permits_return _ = false

-- what no clean block may do: push or store a variable, or push the receiver
abbrev pub asks_self : Operation → Bool
asks_self (Push source.Variable) = true
asks_self (Push source.Receiver) = true
asks_self (Store target.Variable) = true
asks_self _ = false

-- whether a literal names a trusted binding
abbrev pub names_trusted : List Bool → Option Literal → Bool
names_trusted ms l = option_map_or (marked ms) (binding_of l) false

-- a store to a trusted variable or binding
abbrev pub stores_trusted : Marks → List ℕ → ℕ → Operation → Bool
stores_trusted m ls a (Store target.Binding) = names_trusted m.bindings (literal ls a)
stores_trusted m ls a (Store target.Variable) = marked m.variables a
stores_trusted m ls a _ = false

-- a jump lands where an instruction starts
abbrev pub landing_fits : List ℕ → ℕ → ℕ → Flow → Bool
landing_fits code next a (Jumps d) = is_some (landing_of code d next a)
landing_fits code next a Branches = is_some (landing_of code Forward next a)
landing_fits code next a _ = true

-- a method return
abbrev pub returns_method : Operation → Bool
returns_method (End MethodReturn) = true
returns_method _ = false

-- a closure made of a block
abbrev pub makes_closure : Operation → Bool
makes_closure Close = true
makes_closure _ = false

-- the rules of an instruction with a known opcode, in order
abbrev pub operation_tests : Context → Site → Operation → List Test
operation_tests x s o =
    let a = s.instruction.argument in
    test OperandWrong s.place (not (operand_fits x.parts (length x.marks.variables) a o))
    ∷ test CleanBlock s.place (is_clean x.parts.layout.kind && asks_self o)
    ∷ test StoreTrusted s.place (not x.trusted && stores_trusted x.marks x.parts.literals a o)
    ∷ test ReturnForeign s.place (returns_method o && not (permits_return x.parts.layout.kind))
    ∷ test LandingWrong s.place (not (landing_fits x.parts.code s.next a (flow_of o)))
    ∷ test ClosureAlone s.place (makes_closure o && not s.after_block)
    ∷ []

-- the rules of an instruction: its opcode is in the table, and then the rules of its operation
abbrev pub site_tests : Context → Site → Option Operation → List Test
site_tests x s None = test OpcodeUnknown s.place true ∷ []
site_tests x s (Some o) = operation_tests x s o

-- the fault of an instruction where it stands
abbrev pub site_fault : Context → Site → Option Fault
site_fault x s = first (site_tests x s (operation_of s.instruction.opcode))
