-- Which operands an operation may have.
use Rattle.std.specs.Prelude.{ℕ, ◌+◌, ◌/◌, ◌%◌, Bool, true, false, is_some, Some, Option, ◌==◌, nat_lt}
use Rattle.values.specs.declared.kinds.Value.TheVariants.{Block}
use Rattle.parcels.specs.Literals.{literal, binding_of, constant_of}
use Rattle.parcels.specs.Parts.{Parts}
use Rattle.parcels.specs.declared.layout.Layout.{Layout}
use Rattle.parcels.specs.declared.literals.Literal.{Literal}
use Rattle.parcels.specs.declared.literals.Literal.TheVariants.{Constant, Selector}
use Rattle.parcels.specs.declared.opcodes.Source.TheVariants as source
use Rattle.parcels.specs.declared.opcodes.Target.TheVariants as target
use Rattle.parcels.specs.declared.opcodes.Operation.{Operation}
use Rattle.parcels.specs.declared.opcodes.Operation.TheVariants.{SendSelector, Push, Store}
use Rattle.parcels.specs.declared.opcodes.TheConstants.{INTEGER_LIMIT, SPECIAL_COUNT}

-- a selector with c arguments
abbrev pub is_selector : Option Literal → ℕ → Bool
is_selector (Some (Selector n d)) c = d == c
is_selector _ c = false

-- a binding
abbrev pub is_binding : Option Literal → Bool
is_binding l = is_some (binding_of l)

-- a value
abbrev pub is_constant : Option Literal → Bool
is_constant l = is_some (constant_of l)

-- a block
abbrev pub is_block : Option Literal → Bool
is_block (Some (Constant (Block n))) = true
is_block _ = false

-- how many cells of a frame an operand can name: those of the arguments and the locals
abbrev pub named_cells : Layout → ℕ
named_cells l = l.argument_count + l.local_count

-- the operand a keeps the rule of its operation, over so many variables
abbrev pub operand_fits : Parts → ℕ → ℕ → Operation → Bool
operand_fits p vars a (SendSelector s) = is_selector (literal p.literals (a / 256)) (a % 256)
operand_fits p vars a (Push source.Cell) = nat_lt a (named_cells p.layout)
operand_fits p vars a (Push source.Binding) = is_binding (literal p.literals a)
operand_fits p vars a (Push source.Variable) = nat_lt a vars
operand_fits p vars a (Push source.Integer) = nat_lt a INTEGER_LIMIT
operand_fits p vars a (Push source.Special) = nat_lt a SPECIAL_COUNT
operand_fits p vars a (Push source.Literal) = is_constant (literal p.literals a)
operand_fits p vars a (Store target.Cell) = nat_lt a (named_cells p.layout)
operand_fits p vars a (Store target.Binding) = is_binding (literal p.literals a)
operand_fits p vars a (Store target.Variable) = nat_lt a vars
operand_fits p vars a _ = true
