-- What callers of a step can rely on.
use Rattle.std.specs.Prelude.{[], ◌∷◌, ◌++◌, ◌≡◌, ◌≢◌, ◌↔◌, ℕ, ◌+◌, ◌-◌, ◌*◌, ◌<◌, ◌≤◌, true, false, Bool, List, length, take, Some, None, Ok, Err, IsOkAnd, Option, Result, slice_index_or, slice_set}
use Rattle.values.specs.declared.faults.Fault.{Fault}
use Rattle.values.specs.declared.kinds.Value.{Value}
use Rattle.values.specs.declared.kinds.Value.TheVariants.{Nil}
use Rattle.hosts.specs.Meaning.{Meaning, Sent, Like, with_cell}
use Rattle.hosts.specs.declared.rows.Row.{Row}
use Rattle.parcels.specs.Instructions.{InstructionAt}
use Rattle.parcels.specs.Opcodes.{effect_of, after}
use Rattle.parcels.specs.declared.opcodes.Operation.{Operation}
use Rattle.parcels.specs.declared.opcodes.Operation.TheVariants.{Store, Jump, Branch, Pop, End, Line}
use Rattle.parcels.specs.declared.opcodes.Target.TheVariants as target
use Rattle.parcels.specs.declared.reading.Instruction.{Instruction}
use Rattle.parcels.specs.Reading.{starts_at}
use Rattle.soundness.specs.Paths.{Path}
use Rattle.semantics.specs.Steps.{RunView, CallAnswer, Step, frame_cells, working_base}
use Rattle.semantics.specs.declared.states.State.TheVariants.{Live}
use Rattle.semantics.specs.declared.states.Stop.{Stop}
use Rattle.semantics.specs.declared.states.Stop.TheVariants.{NotUnderstood, NoBlock}
use Rattle.safety.specs.Histories.{HeldRuns, Holds, History, top_of, with_answer, Sends, Stores, WritesCell, MeetsNoBlock}
use Rattle.callers.specs.declared.relying.Seen.{Seen}

-- what a caller sees of a live run is the only height of the paths to its place, where an
-- instruction starts; it sees nothing of another
abbrev pub SeenRight : RunView → Option Seen → Type 0
SeenRight run None = run.state ≢ Live
SeenRight run (Some x) =
    (starts_at run.parts.code (2 * x.pair) ≡ true)
    × Path run.parts.code (2 * x.pair) x.height
    × ((h : ℕ) → Path run.parts.code (2 * x.pair) h → h ≡ x.height)

-- an instruction that writes no cell of a frame: a drop, a jump, a line number, a return, or a
-- store to a variable
abbrev pub WritesNone : Operation → Type 0
WritesNone Pop = Unit {0}
WritesNone (Jump direction) = Unit {0}
WritesNone (Branch when) = Unit {0}
WritesNone Line = Unit {0}
WritesNone (End how) = Unit {0}
WritesNone (Store target.Variable) = Unit {0}
WritesNone _ = ⊥

-- what a step came to whose caller answers more
abbrev pub called : {X : Type 0} → Result X Fault → CallAnswer
called (Ok x) = Ok tt
called (Err x) = Err x

module _ {S : Type 0} (means : S → Meaning) (may : S → Sent → Value → S → Type 0) where
  -- some history, exact or not, led to the host s and the run
  abbrev pub Reached : S → RunView → Type 0
  Reached s run =
      (exact : Bool) × (s₀ : S) × (rs : HeldRuns) × (k : ℕ)
      × History means may exact s₀ s rs × Holds rs k run

  -- a live run's step leaves the cells behind those that the run counts, the working cells below
  -- those that its instruction takes, every cell that its instruction does not write, and, where
  -- that writes none, the whole frame; a refused step leaves all
  pub record SheetStays (s : S) (run : RunView) (f f' : List Value) : Type 0 where
    pub behind : Reached s run → (n : ℕ) → frame_cells run.parts ≤ n
        → slice_index_or f' n Nil ≡ slice_index_or f n Nil
    pub below : Reached s run → (i : Instruction) (o : Operation)
        → InstructionAt run.parts.code run.place i o
        → (n : ℕ) → working_base run.parts ≤ n
        → n < working_base run.parts + (run.height - (effect_of o i).takes)
        → slice_index_or f' n Nil ≡ slice_index_or f n Nil
    pub unwritten : Reached s run → (i : Instruction) (o : Operation)
        → InstructionAt run.parts.code run.place i o
        → (n : ℕ) → (WritesCell (working_base run.parts) run.height i o n → ⊥)
        → slice_index_or f' n Nil ≡ slice_index_or f n Nil
    pub whole : Reached s run → (i : Instruction) (o : Operation)
        → InstructionAt run.parts.code run.place i o → WritesNone o
        → (n : ℕ) → slice_index_or f' n Nil ≡ slice_index_or f n Nil

  -- whatever stands behind the counted cells plays no part: a step of the same run on the same host
  -- with another sheet that has the same counted cells comes to the same run, and writes the same
  -- counted cells unless a message is sent
  abbrev pub Regardless : S → RunView → List Value → CallAnswer → RunView → List Value → Type 0
  Regardless s run f a run' f' =
      Reached s run → a ≡ Ok tt → (g g' : List Value) (t : S) (run'' : RunView)
      → frame_cells run.parts ≤ length g
      → take (frame_cells run.parts) g ≡ take (frame_cells run.parts) f
      → Step means may run g s (Ok tt) run'' g' t
      → (run'' ≡ run')
      × (((m : Sent) (c : Option ℕ) → Sends run f m c → ⊥)
      → take (frame_cells run.parts) g' ≡ take (frame_cells run.parts) f')

  -- the heights before and after a step that leaves the run live: what the instruction takes is
  -- there, and the height after is the table's; there are none exactly where it is live no more
  abbrev pub Measured : S → RunView → RunView → Result (Option (ℕ × ℕ)) Fault → Type 0
  Measured s run run' (Err x) = Unit {0}
  Measured s run run' (Ok None) = run'.state ≢ Live
  Measured s run run' (Ok (Some h)) =
      (run'.state ≡ Live) × (h ≡ (run.height, run'.height))
      × (Reached s run → (i : Instruction) (o : Operation)
      → InstructionAt run.parts.code run.place i o
      → ((effect_of o i).takes ≤ run.height) × (run'.height ≡ after (effect_of o i) run.height))

  -- a stop is made for its reason alone, and whenever there is the reason; and what was done to the
  -- host: it took a message and its answer is in the frame, or a cell was set, or nothing was done
  pub record MadeFor (s : S) (run : RunView) (f : List Value) (made : Option Stop)
      (f' : List Value) (s' : S) : Type 0 where
    pub not_understood : (n : ℕ)
        → (made ≡ Some (NotUnderstood n))
        ↔ ((m : Sent) × (c : Option ℕ) × Sends run f m c
        × ((means s).understands m ≡ false) × (m.selector ≡ n))
    pub no_block : (made ≡ Some NoBlock) ↔ MeetsNoBlock run f
    pub sent : {m : Sent} {c : Option ℕ} → Sends run f m c → (means s).understands m ≡ true
        → (v : Value) × may s m v s' × (f' ≡ with_answer c v f)
    pub stored : {row : Row} {k : ℕ} → Stores run row k
        → means s' ≡ with_cell (means s) row k (top_of run f)
    pub untouched : ((m : Sent) (c : Option ℕ) → Sends run f m c → ⊥)
        → ((row : Row) (k : ℕ) → Stores run row k → ⊥) → s' ≡ s

  -- a live run with a frame that is long enough is not refused, and the stop that is answered, if
  -- any, is the one that there is reason for
  abbrev pub Explained : S → RunView → List Value → Result (Option Stop) Fault
      → List Value → S → Type 0
  Explained s run f r f' s' =
      Reached s run → run.state ≡ Live → frame_cells run.parts ≤ length f
      → IsOkAnd r (λ made. MadeFor s run f made f' s')

  -- every history of the host goes on, with one run more, which is gone
  abbrev pub GoesOn : S → S → Type 0
  GoesOn s s' =
      (exact : Bool) (s₀ : S) (rs : HeldRuns) → History means may exact s₀ s rs
      → History means may exact s₀ s' (rs ++ (None ∷ []))

  -- whoever handed the host over finds the receiver, the yes or no to each message, the counts and
  -- the marks as they were
  abbrev pub StaysAlike : S → S → Type 0
  StaysAlike s s' =
      (exact : Bool) (s₀ : S) (rs : HeldRuns) → History means may exact s₀ s rs
      → Like (means s₀) (means s')

  -- every history that led to a host that means the same goes on by the step, and is not exact then
  abbrev pub GoesOnInPlace : S → RunView → S → RunView → Type 0
  GoesOnInPlace s run s' run' =
      (exact : Bool) (s₀ t : S) (rs : HeldRuns) (k : ℕ) → means t ≡ means s
      → History means may exact s₀ t rs → Holds rs k run
      → History means may false s₀ s' (slice_set rs k (Some run'))

  -- an exact history in which no run was taken yet has left the host itself
  abbrev pub LeavesUntouched : Type 0
  LeavesUntouched = (s₀ s : S) → History means may true s₀ s [] → s ≡ s₀
