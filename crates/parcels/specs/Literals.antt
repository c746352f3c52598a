-- The literals of a parcel, and the rules that they keep.
use Rattle.std.specs.Prelude.{ℕ, ◌+◌, ◌*◌, Bool, false, if◌then◌else◌, not, List, [], ◌∷◌, length, is_some, Some, None, Option, ◌==◌, nat_le, nat_lt}
use Rattle.std.specs.Option.{option_map, option_map_or}
use Rattle.values.specs.Bytes.{at, be32}
use Rattle.values.specs.Kinds.{value_of}
use Rattle.values.specs.Order.{Test, test, first, first_from}
use Rattle.values.specs.declared.faults.Fault.{Fault}
use Rattle.values.specs.declared.faults.Rule.TheVariants.{LiteralWrong, BindingMissing}
use Rattle.values.specs.declared.kinds.Value.{Value}
use Rattle.parcels.specs.declared.literals.Literal.{Literal}
use Rattle.parcels.specs.declared.literals.Literal.TheVariants.{Constant, Selector, Binding}
use Rattle.parcels.specs.declared.literals.TheConstants.{LITERAL_BYTES, SELECTOR, BINDING}

-- the value that a literal is
abbrev pub constant_of : Option Literal → Option Value
constant_of (Some (Constant v)) = Some v
constant_of _ = None

-- the number of the selector that a literal is
abbrev pub selector_of : Option Literal → Option ℕ
selector_of (Some (Selector n c)) = Some n
selector_of _ = None

-- the number of the binding that a literal names
abbrev pub binding_of : Option Literal → Option ℕ
binding_of (Some (Binding n)) = Some n
binding_of _ = None

-- the literal of a detail, a kind and a number: a selector has its argument count for detail, any
-- other 0; a value has a kind of 0 to 5
abbrev pub literal_of : ℕ → ℕ → ℕ → Option Literal
literal_of d k n =
    if k == SELECTOR then (if nat_le d 31 then Some (Selector n d) else None)
    else if not (d == 0) then None
    else if k == BINDING then Some (Binding n)
    else if nat_lt 5 k then None
    else option_map Constant (value_of k n)

-- the literal in the bytes from place o on: a detail, a kind and a number
abbrev pub literal_from : List ℕ → ℕ → Option Literal
literal_from ls o = literal_of (at ls o) (at ls (o + 1)) (be32 ls (o + 2))

-- what the bytes of literal k give
abbrev pub entry : List ℕ → ℕ → Option Literal
entry ls k = literal_from ls (LITERAL_BYTES * k)

-- literal k, if there is one and it keeps the rules
abbrev pub literal : List ℕ → ℕ → Option Literal
literal ls k = if nat_lt (length ls) (LITERAL_BYTES * k + LITERAL_BYTES) then None else entry ls k

-- whether a literal names a binding at or above the count
abbrev pub binding_missing : ℕ → Option Literal → Bool
binding_missing bindings l = option_map_or (nat_le bindings) (binding_of l) false

-- the rules of literal k, in order
abbrev pub literal_tests : List ℕ → ℕ → ℕ → List Test
literal_tests ls bindings k =
    test LiteralWrong k (not (is_some (literal ls k)))
    ∷ test BindingMissing k (binding_missing bindings (literal ls k))
    ∷ []

-- the fault of literal k
abbrev pub literal_fault : List ℕ → ℕ → ℕ → Option Fault
literal_fault ls bindings k = first (literal_tests ls bindings k)

-- the fault of the first of n literals that has one
abbrev pub literals_fault : List ℕ → ℕ → ℕ → Option Fault
literals_fault ls n bindings = first_from (literal_fault ls bindings) 0 n
