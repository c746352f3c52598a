-- What is true of the arithmetic, in the words of the integers.
use Rattle.std.specs.Prelude.{◌≡◌, ℕ, ◌-◌, ◌^◌, ◌<◌, false, ◌≢◌, ◌⊎◌, [], ◌∷◌, map, ℤ, pos, negsuc, ◌+ℤ◌, ◌-ℤ◌, ◌*ℤ◌, ◌≤ℤ◌, ◌<ℤ◌, Some, None, unsigned_abs}
use Rattle.std.specs.List.{ContainsAt}
use Rattle.values.specs.Kinds.{integer}
use Rattle.values.specs.declared.small.SmallInteger.{SmallInteger}
use Rattle.values.specs.declared.kinds.Value.{Value}
use Rattle.values.specs.declared.kinds.Value.TheVariants.{True, False, Integer}
use Rattle.hosts.specs.Meaning.{Sent, message}
use Rattle.arithmetic.specs.Division.{floor_quotient, floor_remainder}
use Rattle.arithmetic.specs.Operators.{operator_table, between}
use Rattle.arithmetic.specs.Own.{own_answer}

-- the message with selector s to x, with the argument y
abbrev pub integer_message : ℕ → SmallInteger → SmallInteger → Sent
integer_message s x y = message false s (Integer x) (Integer y ∷ [])

-- r is 0 or has the sign of y
abbrev pub ZeroOrSignOf : ℤ → ℤ → Type 0
ZeroOrSignOf y r =
    (r ≡ pos 0) ⊎ ((pos 0 <ℤ y) × (pos 0 <ℤ r)) ⊎ ((y <ℤ pos 0) × (r <ℤ pos 0))

-- x divided by y is q, and r is left: r is smaller than y, and is 0 or has the sign of y
pub record Divided (x y q r : ℤ) : Type 0 where
  pub whole : x ≡ q *ℤ y +ℤ r
  pub smaller : unsigned_abs r < unsigned_abs y
  pub sign : ZeroOrSignOf y r

-- the quotient and the remainder by every divisor but 0
abbrev pub Divides : Type 0
Divides = (x y : ℤ) → y ≢ pos 0 → Divided x y (floor_quotient x y) (floor_remainder x y)

-- no other quotient and no other remainder do
abbrev pub DividesOnlySo : Type 0
DividesOnlySo =
    (x y q r : ℤ) → Divided x y q r → (q ≡ floor_quotient x y) × (r ≡ floor_remainder x y)

-- the least of the small integers, -2 ^ 30
abbrev pub least_small : ℤ
least_small = negsuc (2 ^ 30 - 1)

-- the greatest
abbrev pub greatest_small : ℤ
greatest_small = pos (2 ^ 30 - 1)

-- the range of the small integers
abbrev pub InRange : ℤ → Type 0
InRange z = (least_small ≤ℤ z) × (z ≤ℤ greatest_small)

-- the answer to m is z if z lies in the range, and else the layer has none
pub record AnswersInRange (m : Sent) (z : ℤ) : Type 0 where
  pub inside : InRange z → (s : SmallInteger) × (s.value ≡ z) × (own_answer m ≡ Some (Integer s))
  pub outside : (InRange z → ⊥) → own_answer m ≡ None

-- by that the answer is settled: whatever messages have the same result are answered alike
abbrev pub RangeSettlesAnswer : Type 0
RangeSettlesAnswer =
    (m n : Sent) (z : ℤ) → AnswersInRange m z → AnswersInRange n z → own_answer m ≡ own_answer n

-- sum, difference, product, remainder and quotient
pub record Computed (x y : SmallInteger) : Type 0 where
  pub sum : AnswersInRange (integer_message 0 x y) (x.value +ℤ y.value)
  pub difference : AnswersInRange (integer_message 1 x y) (x.value -ℤ y.value)
  pub product : AnswersInRange (integer_message 8 x y) (x.value *ℤ y.value)
  pub remainder : y.value ≢ pos 0
      → AnswersInRange (integer_message 10 x y) (floor_remainder x.value y.value)
  pub quotient : y.value ≢ pos 0
      → AnswersInRange (integer_message 13 x y) (floor_quotient x.value y.value)

-- every result is the integer that it should be
abbrev pub Computes : Type 0
Computes = (x y : SmallInteger) → Computed x y

-- a remainder is always in the range
abbrev pub AlwaysLeft : Type 0
AlwaysLeft = (x y : SmallInteger) → y.value ≢ pos 0 → InRange (floor_remainder x.value y.value)

-- by 0 there is neither a remainder nor a quotient
abbrev pub NeverByZero : Type 0
NeverByZero =
    (x y : SmallInteger) → y.value ≡ pos 0 →
    (own_answer (integer_message 10 x y) ≡ None) × (own_answer (integer_message 13 x y) ≡ None)

-- the answer to m is true and P holds, or it is false and P does not
abbrev pub Tells : Sent → Type 0 → Type 0
Tells m P = ((own_answer m ≡ Some True) × P) ⊎ ((own_answer m ≡ Some False) × (P → ⊥))

-- the six comparisons
pub record Compared (x y : SmallInteger) : Type 0 where
  pub less : Tells (integer_message 2 x y) (x.value <ℤ y.value)
  pub greater : Tells (integer_message 3 x y) (y.value <ℤ x.value)
  pub at_most : Tells (integer_message 4 x y) (x.value ≤ℤ y.value)
  pub at_least : Tells (integer_message 5 x y) (y.value ≤ℤ x.value)
  pub equal : Tells (integer_message 6 x y) (x.value ≡ y.value)
  pub unequal : Tells (integer_message 7 x y) (x.value ≢ y.value)

-- every comparison agrees with the order of the integers
abbrev pub Compares : Type 0
Compares = (x y : SmallInteger) → Compared x y

-- the layer answers no messages but these, between two small integers
abbrev pub OnlyThese : Type 0
OnlyThese =
    (m : Sent) (v : Value) → own_answer m ≡ Some v →
    ContainsAt (map (λ e. e.0) operator_table) m.selector
    × ((x : SmallInteger) × (y : SmallInteger) × (m ≡ integer_message m.selector x y))

-- some that were worked out by hand; `negsuc n` is -n - 1
pub record WorkedAnswers : Type 0 where
  pub down : between 13 (negsuc 6) (pos 2) ≡ integer (negsuc 3)
  pub down_too : between 13 (pos 7) (negsuc 1) ≡ integer (negsuc 3)
  pub up_to : between 13 (negsuc 6) (negsuc 1) ≡ integer (pos 3)
  pub left : between 10 (negsuc 6) (pos 2) ≡ integer (pos 1)
  pub left_negative : between 10 (pos 7) (negsuc 1) ≡ integer (negsuc 0)
  pub left_none : between 10 (negsuc 7) (pos 2) ≡ integer (pos 0)
  pub least_by_minus_one : between 13 least_small (negsuc 0) ≡ None
  pub least_left : between 10 least_small (negsuc 0) ≡ integer (pos 0)
  pub product_inside : between 8 (pos 32768) (pos 32767) ≡ integer (pos 1073709056)
  pub product_outside : between 8 (pos 32768) (pos 32768) ≡ None
  pub product_least : between 8 (pos 32768) (negsuc 32767) ≡ integer least_small
  pub sum_inside : between 0 (pos 1073741822) (pos 1) ≡ integer greatest_small
  pub sum_outside : between 0 greatest_small (pos 1) ≡ None
  pub difference_inside : between 1 (negsuc 1073741822) (pos 1) ≡ integer least_small
  pub difference_outside : between 1 least_small (pos 1) ≡ None
  pub by_zero : between 13 (pos 5) (pos 0) ≡ None
  pub by_zero_left : between 10 (pos 5) (pos 0) ≡ None
  pub less_equal : between 2 (pos 3) (pos 3) ≡ Some False
  pub at_most_equal : between 4 (pos 3) (pos 3) ≡ Some True
