-- The rules of the stages before heights, each by its name, and the first that is broken.
use Rattle.std.specs.Prelude.{◌≡◌, ◌↔◌, ℕ, ◌/◌, ◌%◌, ◌<◌, ◌≤◌, Bool, true, false, List, ◌∷◌, length, Some, Ok, Err}
use Rattle.values.specs.Faults.{fault}
use Rattle.values.specs.Order.{Test}
use Rattle.values.specs.declared.faults.Fault.{Fault}
use Rattle.values.specs.declared.kinds.Value.{Value}
use Rattle.parcels.specs.Layouts.{kind_field, literal_count_field, code_length_field, stated_length, reserved_set, laid_out}
use Rattle.parcels.specs.Literals.{literal}
use Rattle.parcels.specs.Opcodes.{operation_of, flow_of, landing_of}
use Rattle.parcels.specs.Parts.{Parts}
use Rattle.parcels.specs.Reading.{read_at, starts_at, unreadable_rule, following_place}
use Rattle.parcels.specs.declared.layout.CodeKind.TheVariants.{Block}
use Rattle.parcels.specs.declared.layout.ParcelHeader.{ParcelHeader}
use Rattle.parcels.specs.declared.layout.TheConstants.{HEADER_BYTES, MAX_LITERALS, MAX_CODE}
use Rattle.parcels.specs.declared.literals.Literal.{Literal}
use Rattle.parcels.specs.declared.literals.Literal.TheVariants.{Constant, Selector, Binding}
use Rattle.parcels.specs.declared.opcodes.Direction.TheVariants.{Forward}
use Rattle.parcels.specs.declared.opcodes.Ending.TheVariants.{MethodReturn}
use Rattle.parcels.specs.declared.opcodes.Flow.{Flow}
use Rattle.parcels.specs.declared.opcodes.Flow.TheVariants.{Jumps, Branches}
use Rattle.parcels.specs.declared.opcodes.Operation.{Operation}
use Rattle.parcels.specs.declared.opcodes.Operation.TheVariants.{SendSelector, Push, Store, Close, End}
use Rattle.parcels.specs.declared.opcodes.Source.TheVariants as source
use Rattle.parcels.specs.declared.opcodes.Target.TheVariants as target
use Rattle.parcels.specs.declared.opcodes.TheConstants.{INTEGER_LIMIT, SPECIAL_COUNT}
use Rattle.parcels.specs.declared.reading.Instruction.{Instruction}
use Rattle.parcels.specs.declared.reading.TheConstants.{PAIR_BYTES}
use Rattle.parcels.specs.declared.reading.Unreadable.{Unreadable}
use Rattle.stages.specs.Operands.{named_cells}
use Rattle.stages.specs.Encoding.{Context, asks_self, stores_trusted, site_tests}
use Rattle.stages.specs.Sweep.{pushes_block, site}
use Rattle.stages.specs.declared.encoding.TheConstants.{CLEAN, RETURNING}
use Rattle.parcels.specs.Instructions.{InstructionAt}

-- f is the first of the tests that applies: no earlier one does
pub data First : List Test → Fault → Type 0 where
  here : {t : Test} {ts : List Test} → t.applies ≡ true → First (t ∷ ts) t.finds
  later : {t : Test} {ts : List Test} {f : Fault}
      → t.applies ≡ false → First ts f → First (t ∷ ts) f

-- the header rules
pub record ValidHeader (b : List ℕ) : Type 0 where
  pub ten : HEADER_BYTES ≤ length b
  pub known : kind_field b ≤ 1
  pub few : literal_count_field b ≤ MAX_LITERALS
  pub short : code_length_field b ≤ MAX_CODE
  pub ends : length b ≡ stated_length b

-- the flag rules
pub record ValidFlags (h : ParcelHeader) : Type 0 where
  pub zeros : reserved_set h ≡ false
  pub locals : (laid_out h).local_count ≤ (laid_out h).slot_count

-- the rules of literal k: it is one, and names a binding below the count if it is a binding
pub record ValidLiteral (ls : List ℕ) (bindings k : ℕ) : Type 0 where
  pub formed : (l : Literal) × (literal ls k ≡ Some l)
  pub bound : (n : ℕ) → literal ls k ≡ Some (Binding n) → n < bindings

-- the literal rules
abbrev pub ValidLiterals : Parts → ℕ → Type 0
ValidLiterals p bindings =
    (k : ℕ) → k < p.layout.literal_count → ValidLiteral p.literals bindings k

-- literal k is a selector with c arguments
abbrev pub SelectorAt : List ℕ → ℕ → ℕ → Type 0
SelectorAt ls k c = (n : ℕ) × (literal ls k ≡ Some (Selector n c))

-- literal k is a binding
abbrev pub BindingAt : List ℕ → ℕ → Type 0
BindingAt ls k = (n : ℕ) × (literal ls k ≡ Some (Binding n))

-- literal k is a value
abbrev pub ConstantAt : List ℕ → ℕ → Type 0
ConstantAt ls k = (v : Value) × (literal ls k ≡ Some (Constant v))

-- what an operation asks of its operand a, over so many variables; most ask nothing
abbrev pub OperandFits : Parts → ℕ → ℕ → Operation → Type 0
OperandFits p vars a (SendSelector s) = SelectorAt p.literals (a / 256) (a % 256)
OperandFits p vars a (Push source.Cell) = a < named_cells p.layout
OperandFits p vars a (Push source.Binding) = BindingAt p.literals a
OperandFits p vars a (Push source.Variable) = a < vars
OperandFits p vars a (Push source.Integer) = a < INTEGER_LIMIT
OperandFits p vars a (Push source.Special) = a < SPECIAL_COUNT
OperandFits p vars a (Push source.Literal) = ConstantAt p.literals a
OperandFits p vars a (Store target.Cell) = a < named_cells p.layout
OperandFits p vars a (Store target.Binding) = BindingAt p.literals a
OperandFits p vars a (Store target.Variable) = a < vars
OperandFits p vars a _ = Unit {0}

-- what jumps by a from the following place lands where an instruction starts
abbrev pub LandingFits : List ℕ → ℕ → ℕ → Flow → Type 0
LandingFits code next a (Jumps d) = (s : ℕ) × (landing_of code d next a ≡ Some s)
LandingFits code next a Branches = (s : ℕ) × (landing_of code Forward next a ≡ Some s)
LandingFits code next a _ = Unit {0}

-- the instruction directly before p, in the code, pushes a block
pub record AfterBlock (x : Context) (p : ℕ) : Type 0 where
  pub place : ℕ
  pub instruction : Instruction
  pub rest : List ℕ
  pub starts : starts_at x.parts.code place ≡ true
  pub read : read_at x.parts.code place ≡ Ok (instruction, rest)
  pub next : following_place place instruction ≡ p
  pub pushes : pushes_block x.parts.literals instruction ≡ true

-- the encoding rules at an instruction that starts at p: its operand fits; a clean block asks
-- neither for variables nor for the receiver; an untrusted parcel stores to no trusted cell; only a
-- returning block ends by a method return; a jump lands where an instruction starts; and a closure
-- is made directly after its block is pushed
pub record ValidInstruction (x : Context) (p : ℕ) : Type 0 where
  pub instruction : Instruction
  pub operation : Operation
  pub stands : InstructionAt x.parts.code p instruction operation
  pub operand : OperandFits x.parts (length x.marks.variables) instruction.argument operation
  pub clear : x.parts.layout.kind ≡ Block CLEAN → asks_self operation ≡ false
  pub unmarked : x.trusted ≡ false
      → stores_trusted x.marks x.parts.literals instruction.argument operation ≡ false
  pub returns : operation ≡ End MethodReturn → x.parts.layout.kind ≡ Block RETURNING
  pub lands : LandingFits x.parts.code (following_place p instruction) instruction.argument
      (flow_of operation)
  pub closure : operation ≡ Close → AfterBlock x p

-- the encoding rules: some pairs, and the rules at every place where an instruction starts
pub record ValidEncoding (x : Context) : Type 0 where
  pub some : 0 < length x.parts.code
  pub even : length x.parts.code % PAIR_BYTES ≡ 0
  pub each : (p : ℕ) → starts_at x.parts.code p ≡ true → ValidInstruction x p

-- the first rule that is broken where an instruction starts
pub data FirstViolation (x : Context) (p : ℕ) : Fault → Type 0 where
  unread : (e : Unreadable)
      → read_at x.parts.code p ≡ Err e → FirstViolation x p (fault (unreadable_rule e) p)
  breaks : (i : Instruction) (rest : List ℕ) (b : Bool) (f : Fault)
      → read_at x.parts.code p ≡ Ok (i, rest) → ((b ≡ true) ↔ AfterBlock x p)
      → First (site_tests x (site p b i) (operation_of i.opcode)) f → FirstViolation x p f
