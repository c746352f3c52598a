-- The operators on small integers, by their selector numbers.
use Rattle.std.specs.Prelude.{ℕ, not, List, [], ◌∷◌, ℤ, pos, ◌+ℤ◌, ◌-ℤ◌, ◌*ℤ◌, Some, None, Option, ◌==◌, int_le, int_lt, find, option_map, option_and_then, if◌then◌else◌}
use Rattle.std.specs.Ordering.{int_eq}
use Rattle.values.specs.Kinds.{integer, truth}
use Rattle.values.specs.declared.kinds.Value.{Value}
use Rattle.arithmetic.specs.declared.operators.Operator.{Operator}
use Rattle.arithmetic.specs.declared.operators.Operator.TheVariants.{Add, Subtract, Less, Greater, AtMost, AtLeast, Equal, Unequal, Multiply, Remainder, Quotient}
use Rattle.arithmetic.specs.Division.{floor_quotient, floor_remainder}

-- the selector number of every operator
abbrev pub operator_table : List (ℕ × Operator)
operator_table =
    (0, Add)
    ∷ (1, Subtract)
    ∷ (2, Less)
    ∷ (3, Greater)
    ∷ (4, AtMost)
    ∷ (5, AtLeast)
    ∷ (6, Equal)
    ∷ (7, Unequal)
    ∷ (8, Multiply)
    ∷ (10, Remainder)
    ∷ (13, Quotient)
    ∷ []

-- the operator that a selector number stands for
abbrev pub operator_of : ℕ → Option Operator
operator_of s = option_map (λ e. e.1) (find (λ e. s == e.0) operator_table)

-- what an operator gives for x and y, if it gives a value
abbrev pub applied : Operator → ℤ → ℤ → Option Value
applied Add x y = integer (x +ℤ y)
applied Subtract x y = integer (x -ℤ y)
applied Less x y = Some (truth (int_lt x y))
applied Greater x y = Some (truth (int_lt y x))
applied AtMost x y = Some (truth (int_le x y))
applied AtLeast x y = Some (truth (int_le y x))
applied Equal x y = Some (truth (int_eq x y))
applied Unequal x y = Some (truth (not (int_eq x y)))
applied Multiply x y = integer (x *ℤ y)
applied Remainder x y = if int_eq y (pos 0) then None else integer (floor_remainder x y)
applied Quotient x y = if int_eq y (pos 0) then None else integer (floor_quotient x y)

-- what the message with selector s to x gives, with the argument y
abbrev pub between : ℕ → ℤ → ℤ → Option Value
between s x y = option_and_then (λ o. applied o x y) (operator_of s)
