-- One instruction as the accesses that it makes, in order; what they answer decides how it goes on.
use Rattle.std.specs.Prelude.{ℕ, ◌+◌, ◌-◌, ◌/◌, ◌%◌, Bool, false, List, [], if◌then◌else◌, pos, Some, None, Option, ◌==◌}
use Rattle.values.specs.Kinds.{integer as small_integer}
use Rattle.values.specs.declared.kinds.Value.{Value}
use Rattle.values.specs.declared.kinds.Value.TheVariants.{Nil, True, False, Block, Closure}
use Rattle.hosts.specs.Meaning.{Sent, message}
use Rattle.hosts.specs.declared.rows.Row.{Row}
use Rattle.hosts.specs.declared.rows.Row.TheVariants.{Variables, Bindings}
use Rattle.parcels.specs.Opcodes.{arity_of, landing_of}
use Rattle.parcels.specs.Literals.{binding_of, selector_of, constant_of}
use Rattle.parcels.specs.declared.literals.Literal.{Literal}
use Rattle.parcels.specs.declared.opcodes.Ending.{Ending}
use Rattle.parcels.specs.declared.opcodes.Direction.TheVariants.{Forward}
use Rattle.parcels.specs.declared.opcodes.Source.{Source}
use Rattle.parcels.specs.declared.opcodes.Source.TheVariants as source
use Rattle.parcels.specs.declared.opcodes.Target.{Target}
use Rattle.parcels.specs.declared.opcodes.Target.TheVariants as target
use Rattle.parcels.specs.declared.opcodes.Operation.{Operation}
use Rattle.parcels.specs.declared.opcodes.Operation.TheVariants.{Send, SendSelector, Push, Store, Jump, Branch, Pop, Duplicate, Close, End, Line}
use Rattle.parcels.specs.declared.reading.Instruction.{Instruction}
use Rattle.semantics.specs.declared.states.Stop.{Stop}
use Rattle.semantics.specs.declared.states.Stop.TheVariants.{NotUnderstood, NoBlock}

-- an access: to cells of the frame, a literal of the parcel, the host's receiver, a cell of one of
-- the host's rows, or to the host by a message
pub data Access : Type 0 where
  read_cell : ℕ → Access
  read_cells : (from count : ℕ) → Access
  write_cell : ℕ → Value → Access
  read_literal : ℕ → Access
  read_receiver : Access
  read_row : Row → ℕ → Access
  write_row : Row → ℕ → Value → Access
  send : Sent → Access

-- what an access answers; a message gets no answer if it is not understood
abbrev pub Answer : Access → Type 0
Answer (read_cells i n) = List Value
Answer (write_cell i v) = Unit {0}
Answer (read_literal i) = Option Literal
Answer (write_row r i v) = Unit {0}
Answer (send m) = Option Value
Answer _ = Value

-- how a step goes: on to a place at a height, to the run's end with a value, or to a stop
pub data Outcome : Type 0 where
  continues : (place height : ℕ) → Outcome
  ends : Ending → Value → Outcome
  stops : Stop → Outcome

-- where a script is at its end: it has come to an outcome, or lacks what a rule of the parcel
-- makes sure of
pub data Leaf : Type 0 where
  comes_to : Outcome → Leaf
  stuck : Leaf

-- a tree of accesses, with a way on for every answer
pub data Script : Type 0 where
  act : (a : Access) → (Answer a → Script) → Script
  done : Leaf → Script

-- on to a place at a height
abbrev pub continue_at : (place height : ℕ) → Script
continue_at p h = done (comes_to (continues p h))

-- the number of the message mustBeBoolean
abbrev pub must_be_boolean : ℕ
must_be_boolean = 25

-- on with the answer to a message; without one it was not understood, and the run stops
abbrev pub answered : Sent → (Value → Script) → Option Value → Script
answered m k None = done (comes_to (stops (NotUnderstood m.selector)))
answered m k (Some v) = k v

-- a message is sent, and on with its answer
abbrev pub sent_then : Sent → (Value → Script) → Script
sent_then m k = act (send m) (answered m k)

-- a part that a rule of the parcel makes sure of
abbrev pub given : {X : Type 0} → Option X → (X → Script) → Script
given None k = done stuck
given (Some x) k = k x

-- nil, true and false by number
abbrev pub special : ℕ → Option Value
special a =
    if a == 0 then Some Nil else if a == 1 then Some True else if a == 2 then Some False else None

-- a small integer by its number
abbrev pub integer : ℕ → Option Value
integer a = small_integer (pos a)

-- one way for true, one for false, and a third for any other value
abbrev pub choose : {X : Type 0} → Value → X → X → X → X
choose True t f o = t
choose False t f o = f
choose _ t f o = o

-- the closure of a block; where there is no block, the run stops
abbrev pub closed_over : Value → (Value → Script) → Script
closed_over (Block n) k = k (Closure n)
closed_over _ k = done (comes_to (stops NoBlock))

-- what the scripts of a parcel's instructions share: its code, and the cell of the frame where the
-- working cells begin
pub record CodeContext : Type 0 where
  pub code : List ℕ
  pub base : ℕ

module _ (c : CodeContext) (i : Instruction) (next h : ℕ) where
  -- the top of the working cells
  abbrev pub top : ℕ
  top = c.base + (h - 1)

  -- a value on top of the working cells, which are then one more
  abbrev pub pushing : Value → Script
  pushing v = act (write_cell (c.base + h) v) (λ _. continue_at next (h + 1))

  -- n arguments from the top and the receiver below them; the answer takes the receiver's place
  abbrev pub sending : (super : Bool) (selector n : ℕ) → Script
  sending super selector n =
      act (read_cell (c.base + (h - n - 1))) (λ r.
      act (read_cells (c.base + (h - n)) n) (λ xs.
      sent_then (message super selector r xs) (λ v.
      act (write_cell (c.base + (h - n - 1)) v) (λ _.
      continue_at next (h - n)))))

  -- the value of a source, and on with it
  abbrev pub from_source : Source → (Value → Script) → Script
  from_source source.Cell k = act (read_cell i.argument) k
  from_source source.Binding k =
      act (read_literal i.argument) (λ l. given (binding_of l) (λ n. act (read_row Bindings n) k))
  from_source source.Variable k = act (read_row Variables i.argument) k
  from_source source.Integer k = given (integer i.argument) k
  from_source source.Special k = given (special i.argument) k
  from_source source.Literal k = act (read_literal i.argument) (λ l. given (constant_of l) k)
  from_source source.Receiver k = act read_receiver k

  -- the top is stored to a target; after a store to a binding the top is nil
  abbrev pub storing : Target → Script
  storing target.Cell =
      act (read_cell top) (λ v. act (write_cell i.argument v) (λ _. continue_at next h))
  storing target.Binding =
      act (read_literal i.argument) (λ l. given (binding_of l) (λ n.
      act (read_cell top) (λ v.
      act (write_row Bindings n v) (λ _.
      act (write_cell top Nil) (λ _. continue_at next h)))))
  storing target.Variable =
      act (read_cell top) (λ v. act (write_row Variables i.argument v) (λ _. continue_at next h))

  -- a conditional jump by its top, to the landing place p: what is neither true nor false is told
  -- that it must be Boolean, and the jump is taken
  abbrev pub branching : (when : Bool) (p : ℕ) → Value → Script
  branching when p v =
      choose v
      (continue_at (if when then p else next) (h - 1))
      (continue_at (if when then next else p) (h - 1))
      (sent_then (message false must_be_boolean v []) (λ _. continue_at p (h - 1)))

  -- the script of an operation; the height after stands in it, by what the operation does
  abbrev pub script_of : Operation → Script
  script_of Send = sending false i.opcode (arity_of i.opcode)
  script_of (SendSelector super) =
      act (read_literal (i.argument / 256)) (λ l.
      given (selector_of l) (λ n. sending super n (i.argument % 256)))
  script_of (Push s) = from_source s pushing
  script_of (Store t) = storing t
  script_of (Jump d) = given (landing_of c.code d next i.argument) (λ p. continue_at p h)
  script_of (Branch when) =
      given (landing_of c.code Forward next i.argument) (λ p.
      act (read_cell top) (branching when p))
  script_of Pop = continue_at next (h - 1)
  script_of Duplicate = act (read_cell top) pushing
  script_of Close =
      act (read_cell top) (λ v.
      closed_over v (λ w. act (write_cell top w) (λ _. continue_at next h)))
  script_of (End e) = act (read_cell top) (λ v. done (comes_to (ends e v)))
  script_of Line = continue_at next h
