-- The seven kinds of values, by their numbers.
use Rattle.std.specs.Prelude.{◌≡◌, ℕ, ℤ, Bool, true, false, List, ◌++◌, Some, None, Option, ◌==◌, if◌then◌else◌, codes, decimal}
use Rattle.std.specs.Fmt.{signed_decimal}
use Rattle.std.proofs.Common.{of_z, to_z}
use Rattle.std.specs.Int.{w32}
use Rattle.std.specs.Option.{option_map}
use Rattle.values.specs.Small.{small}
use Rattle.values.specs.declared.kinds.Value.{Value}
use Rattle.values.specs.declared.kinds.Value.TheVariants.{Nil, True, False, Integer, Object, Block, Closure}

-- the number of a value's kind
abbrev pub kind_number : Value → ℕ
kind_number Nil = 0
kind_number True = 1
kind_number False = 2
kind_number (Integer s) = 3
kind_number (Object n) = 4
kind_number (Block n) = 5
kind_number (Closure n) = 6

-- what its number field holds: an integer in two's complement, a number that is free, or 0
abbrev pub number_field : Value → ℕ
number_field (Integer s) = of_z w32 s.value
number_field (Object n) = n
number_field (Block n) = n
number_field (Closure n) = n
number_field _ = 0

-- a value whose number field is 0
abbrev pub plain_of : Value → ℕ → Option Value
plain_of v n = if n == 0 then Some v else None

-- the small integer that z is, as a value
abbrev pub integer : ℤ → Option Value
integer z = option_map Integer (small z)

-- the small integer whose two's complement n is
abbrev pub integer_of : ℕ → Option Value
integer_of n = integer (to_z w32 n)

-- the value of a kind and a number field, if they keep the rules
abbrev pub value_of : ℕ → ℕ → Option Value
value_of k n =
    if k == 0 then plain_of Nil n
    else if k == 1 then plain_of True n
    else if k == 2 then plain_of False n
    else if k == 3 then integer_of n
    else if k == 4 then Some (Object n)
    else if k == 5 then Some (Block n)
    else if k == 6 then Some (Closure n)
    else None

-- a value is read back from its kind and its number field
abbrev pub ReadBack : Type 0
ReadBack = (v : Value) → value_of (kind_number v) (number_field v) ≡ Some v

-- true or false, as a value
abbrev pub truth : Bool → Value
truth true = True
truth false = False

-- a value for a person: its kind, and the number that it holds
abbrev pub value_text : Value → List ℕ
value_text Nil = codes "nil"
value_text True = codes "true"
value_text False = codes "false"
value_text (Integer s) = codes "integer " ++ signed_decimal s.value
value_text (Object n) = codes "object " ++ decimal n
value_text (Block n) = codes "block " ++ decimal n
value_text (Closure n) = codes "closure " ++ decimal n
