-- Lists of calls on one host, and what holds after every one of them.
use Rattle.std.specs.Prelude.{◌≡◌, ◌≢◌, ◌↔◌, ℕ, ◌+◌, ◌-◌, ◌%◌, ◌/◌, ◌<◌, ◌≤◌, Bool, true, false, List, [], ◌∷◌, ◌++◌, take, drop, length, is_ok, Some, None, Ok, Option, slice_index_or, slice_set}
use Rattle.values.specs.declared.kinds.Value.{Value}
use Rattle.values.specs.declared.kinds.Value.TheVariants.{Nil, True, False, Block}
use Rattle.hosts.specs.Meaning.{Meaning, Sent, Like, message, marks_of, marks_in, marked, row_of, with_cell, cell_value}
use Rattle.hosts.specs.declared.rows.Row.{Row}
use Rattle.hosts.specs.declared.rows.Row.TheVariants.{Variables, Bindings}
use Rattle.parcels.specs.Instructions.{InstructionAt, Among, successors}
use Rattle.parcels.specs.Literals.{literal}
use Rattle.parcels.specs.Opcodes.{arity_of, effect_of, after}
use Rattle.parcels.specs.Reading.{starts_at}
use Rattle.parcels.specs.declared.literals.Literal.TheVariants.{Selector, Binding}
use Rattle.parcels.specs.declared.opcodes.Operation.{Operation}
use Rattle.parcels.specs.declared.opcodes.Operation.TheVariants.{Send, SendSelector, Push, Store, Branch, Duplicate, Close}
use Rattle.parcels.specs.declared.opcodes.Target.TheVariants as target
use Rattle.parcels.specs.declared.reading.Instruction.{Instruction}
use Rattle.stages.specs.Check.{question_on}
use Rattle.soundness.specs.Paths.{Path}
use Rattle.semantics.specs.Scripts.{must_be_boolean}
use Rattle.semantics.specs.Steps.{RunView, CallAnswer, Step, frame_cells, working_base, next_script}
use Rattle.semantics.specs.Properties.{Counts, Within, Stack, UsesOnly, AgreeBelow}
use Rattle.semantics.specs.declared.states.State.TheVariants.{Live, Stopped}
use Rattle.semantics.specs.declared.states.Stop.TheVariants.{NotUnderstood, NoBlock}
use Rattle.semantics.specs.Opening.{opened, empty}

-- the runs that the callers hold, by number; one that is gone leaves its number empty
abbrev pub HeldRuns : Type 0
HeldRuns = List (Option RunView)

-- run number k
abbrev pub Holds : HeldRuns → ℕ → RunView → Type 0
Holds rs k run = slice_index_or rs k None ≡ Some run

-- what a run counts of its frame, its parcel and its host
abbrev pub counts_of : RunView → Counts
counts_of run = record {
  cells = frame_cells run.parts;
  literals = run.parts.layout.literal_count;
  variables = run.variable_count;
  bindings = run.binding_count;
}

-- the working cells of a run around the step of an instruction
abbrev pub stack_of : RunView → Instruction → Operation → Stack
stack_of run i o = record {
  base = working_base run.parts;
  before = run.height;
  takes = (effect_of o i).takes;
  after = after (effect_of o i) run.height;
}

-- the working cells of a frame, from number n on
abbrev pub working : RunView → List Value → ℕ → List Value
working run f n = drop (working_base run.parts + n) f

-- the top of the working cells
abbrev pub top_of : RunView → List Value → Value
top_of run f = slice_index_or f (working_base run.parts + (run.height - 1)) Nil

-- the cell of the receiver of a message with n arguments, which are on top of it
abbrev pub receiver_cell : RunView → ℕ → ℕ
receiver_cell run n = working_base run.parts + (run.height - n - 1)

-- the message to a selector with n arguments: these are on top, and the receiver is below them
abbrev pub message_on : RunView → List Value → (super : Bool) (selector n : ℕ) → Sent
message_on run f super selector n =
    message super selector (slice_index_or f (receiver_cell run n) Nil)
    (take n (working run f (run.height - n)))

-- the instruction at a run's place sends a message, whose answer goes to a cell of the frame or is
-- dropped: a short send its own; a send of a selector literal that literal's; and a conditional
-- jump whose top is neither true nor false mustBeBoolean
pub data Sends (run : RunView) (f : List Value) : Sent → Option ℕ → Type 0 where
  short : {i : Instruction} → InstructionAt run.parts.code run.place i Send
      → Sends run f (message_on run f false i.opcode (arity_of i.opcode))
      (Some (receiver_cell run (arity_of i.opcode)))
  selector : {i : Instruction} {super : Bool} {n : ℕ}
      → InstructionAt run.parts.code run.place i (SendSelector super)
      → literal run.parts.literals (i.argument / 256) ≡ Some (Selector n (i.argument % 256))
      → Sends run f (message_on run f super n (i.argument % 256))
      (Some (receiver_cell run (i.argument % 256)))
  branch : {i : Instruction} {when : Bool}
      → InstructionAt run.parts.code run.place i (Branch when)
      → top_of run f ≢ True → top_of run f ≢ False
      → Sends run f (message false must_be_boolean (top_of run f) []) None

-- the frame with an answer where it goes
abbrev pub with_answer : Option ℕ → Value → List Value → List Value
with_answer None v f = f
with_answer (Some k) v f = slice_set f k v

-- the instruction at a run's place stores the top to a cell of one of the host's rows
pub data Stores (run : RunView) : Row → ℕ → Type 0 where
  to_variable : {i : Instruction}
      → InstructionAt run.parts.code run.place i (Store target.Variable)
      → Stores run Variables i.argument
  to_binding : {i : Instruction} {n : ℕ}
      → InstructionAt run.parts.code run.place i (Store target.Binding)
      → literal run.parts.literals i.argument ≡ Some (Binding n) → Stores run Bindings n

-- the one cell of a frame that an instruction may write, where the working cells begin at base and
-- height of them are in use: a send writes the receiver's, a push and a copy the one above the top,
-- a store to an argument or a local that one, and a store to a binding and the making of a closure
-- the top; all others write none
abbrev pub WritesCell : (base height : ℕ) → Instruction → Operation → ℕ → Type 0
WritesCell b h i Send j = j ≡ b + (h - arity_of i.opcode - 1)
WritesCell b h i (SendSelector super) j = j ≡ b + (h - i.argument % 256 - 1)
WritesCell b h i (Push s) j = j ≡ b + h
WritesCell b h i Duplicate j = j ≡ b + h
WritesCell b h i (Store target.Cell) j = j ≡ i.argument
WritesCell b h i (Store target.Binding) j = j ≡ b + (h - 1)
WritesCell b h i Close j = j ≡ b + (h - 1)
WritesCell b h i _ j = ⊥

-- a closure is to be made, and no block is on top
pub record MeetsNoBlock (run : RunView) (f : List Value) : Type 0 where
  pub instruction : Instruction
  pub closes : InstructionAt run.parts.code run.place instruction Close
  pub none : (n : ℕ) → top_of run f ≢ Block n

-- a run is at the start of an instruction, at the height at which every path reaches that place;
-- its next step finds what it needs, uses nothing beyond the run's counts, and of the working cells
-- only those that are in use
pub record WellPlaced (run : RunView) : Type 0 where
  pub instruction : Instruction
  pub operation : Operation
  pub stands : InstructionAt run.parts.code run.place instruction operation
  pub starts : starts_at run.parts.code run.place ≡ true
  pub reached : Path run.parts.code run.place run.height
  pub only : (h : ℕ) → Path run.parts.code run.place h → h ≡ run.height
  pub need : (effect_of operation instruction).takes ≤ run.height
  pub within : Within run.parts.literals (counts_of run) (next_script run)
  pub in_use : UsesOnly run.parts.literals (stack_of run instruction operation) (next_script run)

module _ {S : Type 0} (means : S → Meaning) (may : S → Sent → Value → S → Type 0) where
  -- what the next step of a live run with the frame f on the host s comes to:
  pub record Progress (run : RunView) (f : List Value) (s : S) (a : CallAnswer)
      (run' : RunView) (f' : List Value) (s' : S) : Type 0 where
    -- it is not refused
    pub unrefused : a ≡ Ok tt
    -- a run that is live afterwards is at a successor of its instruction, at the table's height
    pub led : {i : Instruction} {o : Operation} → InstructionAt run.parts.code run.place i o
        → run'.state ≡ Live
        → Among run'.place (successors run.parts.code run.place i o)
        × (run'.height ≡ after (effect_of o i) run.height)
    -- it stops for one of two reasons alone, and exactly then
    pub not_understood : (n : ℕ)
        → (run'.state ≡ Stopped (NotUnderstood n))
        ↔ ((m : Sent) × (c : Option ℕ) × Sends run f m c
        × ((means s).understands m ≡ false) × (m.selector ≡ n))
    pub no_block : (run'.state ≡ Stopped NoBlock) ↔ MeetsNoBlock run f
    -- a message that is understood is sent once, and its answer goes where it belongs
    pub sent : {m : Sent} {c : Option ℕ} → Sends run f m c → (means s).understands m ≡ true
        → (v : Value) × may s m v s' × (f' ≡ with_answer c v f)
    -- a store sets that cell alone to the top
    pub stored : {row : Row} {k : ℕ} → Stores run row k
        → means s' ≡ with_cell (means s) row k (top_of run f)
    -- a step that neither sends nor stores leaves the host itself
    pub untouched : ((m : Sent) (c : Option ℕ) → Sends run f m c → ⊥)
        → ((row : Row) (k : ℕ) → Stores run row k → ⊥) → s' ≡ s
    -- the working cells below those that it takes, and what lies behind the counted cells, stay
    pub below : {i : Instruction} {o : Operation} → InstructionAt run.parts.code run.place i o
        → (j : ℕ) → working_base run.parts ≤ j
        → j < working_base run.parts + (run.height - (effect_of o i).takes)
        → slice_index_or f' j Nil ≡ slice_index_or f j Nil
    pub behind : (j : ℕ) → frame_cells run.parts ≤ j
        → slice_index_or f' j Nil ≡ slice_index_or f j Nil
    -- and so does every cell that the instruction does not write
    pub unwritten : {i : Instruction} {o : Operation} → InstructionAt run.parts.code run.place i o
        → (j : ℕ) → (WritesCell (working_base run.parts) run.height i o j → ⊥)
        → slice_index_or f' j Nil ≡ slice_index_or f j Nil

  -- from a frame and a host that agree below a run's counts with f and s a step comes to the same
  -- run, and, where it sends no message, leaves a frame and a host that agree again
  abbrev pub SameWithin : RunView → List Value → S → RunView → List Value → S → Type 0
  SameWithin run f s run' f' s' =
      (g g' : List Value) (t t' : S) (run'' : RunView)
      → AgreeBelow (counts_of run) f (means s) g (means t)
      → Step means may run g t (Ok tt) run'' g' t'
      → (run'' ≡ run')
      × (((m : Sent) (c : Option ℕ) → Sends run f m c → ⊥)
      → AgreeBelow (counts_of run) f' (means s') g' (means t'))

  -- one call takes the host and the runs that are held to the host and the runs afterwards
  pub data Call : S → HeldRuns → S → HeldRuns → Type 0 where
    takes : {s : S} {rs : HeldRuns} → Call s rs s (rs ++ (Some empty ∷ []))
    opens : {s : S} {rs : HeldRuns} (k : ℕ) (run : RunView) → Holds rs k run
        → (t : Bool) (b hs ws : List ℕ) (args f : List Value)
        → Call s rs s
        (slice_set rs k (Some (opened (question_on (means s) t b hs ws) args f run).run))
    steps : {s : S} {rs : HeldRuns} (k : ℕ) (run run' : RunView) → Holds rs k run
        → (s' : S) (f f' : List Value) (a : CallAnswer) → Step means may run f s a run' f' s'
        → Call s rs s' (slice_set rs k (Some run'))
    collects : {s : S} {rs : HeldRuns} (k : ℕ) (run : RunView) → Holds rs k run
        → Call s rs s (slice_set rs k None)

  -- a list of calls on a host that was handed over as s₀, and where it leads the host and the runs;
  -- only calls alter the host in an exact history, and in another its caller may alter it, too, as
  -- long as it means the same
  pub data History (exact : Bool) (s₀ : S) : S → HeldRuns → Type 0 where
    new : History exact s₀ s₀ []
    called : {s s' : S} {rs rs' : HeldRuns} → History exact s₀ s rs → Call s rs s' rs'
        → History exact s₀ s' rs'
    altered : {s s' : S} {rs : HeldRuns} → exact ≡ false → History exact s₀ s rs
        → means s' ≡ means s → History exact s₀ s' rs

  -- if the call opened a parcel and was not refused, the parcel was untrusted
  abbrev pub OpensUntrusted : {s s' : S} {rs rs' : HeldRuns} → Call s rs s' rs' → Type 0
  OpensUntrusted (opens {s} k run at t b hs ws args f) =
      is_ok (opened (question_on (means s) t b hs ws) args f run).answer ≡ true → t ≡ false
  OpensUntrusted _ = Unit {0}

  -- every parcel that was opened was untrusted
  abbrev pub Untrusted : {exact : Bool} {s₀ s : S} {rs : HeldRuns} → History exact s₀ s rs → Type 0
  Untrusted new = Unit {0}
  Untrusted (called past call) = OpensUntrusted call × Untrusted past
  Untrusted (altered e past q) = Untrusted past

  -- what holds after a history
  pub record Safe (exact : Bool) (s₀ s : S) (rs : HeldRuns) (past : History exact s₀ s rs)
      : Type 0 where
    pub well_placed : (k : ℕ) (run : RunView) → Holds rs k run → run.state ≡ Live → WellPlaced run
    pub progress : (k : ℕ) (run : RunView) → Holds rs k run → run.state ≡ Live
        → (f f' : List Value) (a : CallAnswer) (run' : RunView) (s' : S)
        → frame_cells run.parts ≤ length f → Step means may run f s a run' f' s'
        → Progress run f s a run' f' s' × SameWithin run f s run' f' s'
    pub unchanged : Like (means s₀) (means s)
    pub trusted : Untrusted past → (row : Row) (i : ℕ)
        → marked (marks_in (marks_of (means s₀)) row) i ≡ true
        → cell_value (row_of (means s) row) i ≡ cell_value (row_of (means s₀) row) i

  -- the theorem
  abbrev pub EveryHistoryIsSafe : Type 0
  EveryHistoryIsSafe =
      (exact : Bool) (s₀ s : S) (rs : HeldRuns) (past : History exact s₀ s rs)
      → Safe exact s₀ s rs past

  -- a call that takes the host from s to s', and one of its runs to what is left of it, extends
  -- every history
  abbrev pub ExtendsHistory : S → RunView → S → Option RunView → Type 0
  ExtendsHistory s run s' left =
      (exact : Bool) (s₀ : S) (rs : HeldRuns) (k : ℕ) → History exact s₀ s rs → Holds rs k run
      → History exact s₀ s' (slice_set rs k left)
