-- What a host means.
use Rattle.std.specs.Prelude.{◌≡◌, ℕ, zero, suc, Bool, true, false, List, [], ◌∷◌, map, None, MatchBool, Option, Result, MatchOption}
use Rattle.std.specs.Option.{option_map, ok_or, unwrap_or}
use Rattle.std.specs.List.{slice_get}
use Rattle.values.specs.Faults.{fault}
use Rattle.values.specs.declared.kinds.Value.{Value}
use Rattle.values.specs.declared.kinds.Value.TheVariants.{Nil}
use Rattle.values.specs.declared.faults.Fault.{Fault}
use Rattle.values.specs.declared.faults.Rule.TheVariants.{CellMissing}
use Rattle.hosts.specs.declared.rows.Row.{Row}
use Rattle.hosts.specs.declared.rows.Row.TheVariants.{Variables, Bindings}

-- a variable or a binding: its mark, open or trusted, and its value
pub record Cell : Type 0 where
  pub trusted : Bool
  pub value : Value

-- a message, whoever holds its arguments
pub record Sent : Type 0 where
  pub super : Bool
  pub selector : ℕ
  pub receiver : Value
  pub arguments : List Value

-- a message out of its parts
abbrev pub message : Bool → ℕ → Value → List Value → Sent
message s n r xs = record { super = s; selector = n; receiver = r; arguments = xs }

-- a receiver, the two rows of cells, and the yes or no to every message
pub record Meaning : Type 0 where
  pub receiver : Value
  pub variables : List Cell
  pub bindings : List Cell
  pub understands : Sent → Bool

-- the cells of a row
abbrev pub row_of : Meaning → Row → List Cell
row_of m Variables = m.variables
row_of m Bindings = m.bindings

-- what f says of cell i, or the fault of a number that no cell has
abbrev pub asked : {X : Type 0} → (Cell → X) → List Cell → ℕ → Result X Fault
asked f cs i = ok_or (option_map f (slice_get cs i)) (fault CellMissing i)

-- whether cell i is trusted
abbrev pub mark_of : List Cell → ℕ → Result Bool Fault
mark_of cs i = asked (λ c. c.trusted) cs i

-- the value of cell i
abbrev pub value_at : List Cell → ℕ → Result Value Fault
value_at cs i = asked (λ c. c.value) cs i

-- that there is a cell i
abbrev pub place_of : List Cell → ℕ → Result (Unit {0}) Fault
place_of cs i = asked (λ _. tt) cs i

-- the value of cell i, nil where there is none
abbrev pub cell_value : List Cell → ℕ → Value
cell_value cs i = unwrap_or (option_map (λ c. c.value) (slice_get cs i)) Nil

-- the cells with v in cell i; they stay where there is no cell i
abbrev pub put : List Cell → ℕ → Value → List Cell
put [] i v = []
put (c ∷ cs) zero v = record { trusted = c.trusted; value = v } ∷ cs
put (c ∷ cs) (suc i) v = c ∷ put cs i v

-- the meaning with v in cell i of a row
abbrev pub with_cell : Meaning → Row → ℕ → Value → Meaning
with_cell m Variables i v = record m { variables = put m.variables i v }
with_cell m Bindings i v = record m { bindings = put m.bindings i v }

-- as many cells with the same marks, and the same values in the trusted ones
abbrev pub OpenOnly : List Cell → List Cell → Type 0
OpenOnly [] [] = Unit {0}
OpenOnly (c ∷ cs) (d ∷ ds) =
    (d.trusted ≡ c.trusted) × (c.trusted ≡ true → d.value ≡ c.value) × OpenOnly cs ds
OpenOnly _ _ = ⊥

-- what no message alters: all but the values of open cells
pub record Kept (m n : Meaning) : Type 0 where
  pub receiver : n.receiver ≡ m.receiver
  pub cells : (row : Row) → OpenOnly (row_of m row) (row_of n row)
  pub understands : n.understands ≡ m.understands

-- how a send ends: with what may come of the message if it is understood, else with no answer and
-- nothing altered
abbrev pub Answered : {S : Type 0} → (S → Meaning) → (S → Sent → Value → S → Type 0)
    → S → Sent → Option Value → S → Type 0
Answered means may s m r t =
    MatchBool ((means s).understands m)
    (MatchOption r ⊥ (λ v. may s m v t))
    ((r ≡ None) × (means t ≡ means s))

-- what a check asks of a host: the marks of its variables and bindings, and so their counts
pub record Marks : Type 0 where
  pub variables : List Bool
  pub bindings : List Bool

-- the marks of a row
abbrev pub marks_in : Marks → Row → List Bool
marks_in m Variables = m.variables
marks_in m Bindings = m.bindings

-- whether cell i is there and trusted
abbrev pub marked : List Bool → ℕ → Bool
marked ms i = unwrap_or (slice_get ms i) false

-- the mark of every cell
abbrev pub marks : List Cell → List Bool
marks cs = map (λ c. c.trusted) cs

-- the marks of a host
abbrev pub marks_of : Meaning → Marks
marks_of m = record { variables = marks m.variables; bindings = marks m.bindings }

-- what never changes of a host: its receiver, its yes or no to every message, its counts and marks
pub record Like (m n : Meaning) : Type 0 where
  pub receiver : n.receiver ≡ m.receiver
  pub understands : n.understands ≡ m.understands
  pub marks : marks_of n ≡ marks_of m
