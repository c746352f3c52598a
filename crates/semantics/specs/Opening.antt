-- What opening a parcel does.
use Rattle.std.specs.Prelude.{ℕ, not, List, [], ◌∷◌, ◌++◌, length, drop, replicate, Some, None, Ok, Err, Option, Result, ◌==◌, nat_lt}
use Rattle.values.specs.Order.{Test, test, first}
use Rattle.values.specs.declared.faults.Fault.{Fault}
use Rattle.values.specs.declared.faults.Rule.TheVariants.{ArgumentsDiffer, FrameShort}
use Rattle.values.specs.declared.kinds.Value.{Value}
use Rattle.values.specs.declared.kinds.Value.TheVariants.{Nil}
use Rattle.hosts.specs.Meaning.{Marks}
use Rattle.parcels.specs.Parts.{Parts}
use Rattle.parcels.specs.declared.layout.CodeKind.TheVariants.{Method}
use Rattle.parcels.specs.declared.opcodes.Ending.TheVariants.{Return}
use Rattle.stages.specs.Check.{Question, checked}
use Rattle.parcels.specs.Parts.{parcel}
use Rattle.semantics.specs.Steps.{RunView, frame_cells, working_base}
use Rattle.semantics.specs.declared.states.State.TheVariants.{Live, Ended}

-- why opening is refused once the check accepts, in order
abbrev pub open_tests : Parts → (args f : List Value) → List Test
open_tests p args f =
    test ArgumentsDiffer 0 (not (length args == p.layout.argument_count))
    ∷ test FrameShort 0 (nat_lt (length f) (frame_cells p))
    ∷ []

-- a run at its beginning: live, at place 0 with height 0; it notes the host's counts
abbrev pub begun : Parts → (variables bindings : ℕ) → RunView
begun p v b = record {
  parts = p;
  variable_count = v;
  binding_count = b;
  state = Live;
  place = 0;
  height = 0;
}

-- the frame at the beginning: the arguments, nil in the locals, and the other cells as they were
abbrev pub laid_out_frame : Parts → (args f : List Value) → List Value
laid_out_frame p args f = args ++ (replicate p.layout.local_count Nil ++ drop (working_base p) f)

-- what opening answers, and the run and the frame afterwards; a refusal leaves both
pub record Opened : Type 0 where
  pub answer : Result ℕ Fault
  pub run : RunView
  pub frame : List Value

-- a refusal, which leaves the run and the frame
abbrev pub not_opened : Fault → RunView → (f : List Value) → Opened
not_opened x run f = record { answer = Err x; run = run; frame = f }

-- a run of an accepted parcel of greatest height top, unless opening is refused
abbrev pub opened_unless : Option Fault → (top : ℕ) → Parts → Marks → (args f : List Value)
    → RunView → Opened
opened_unless (Some x) top p m args f run = not_opened x run f
opened_unless None top p m args f run =
    record {
      answer = Ok top;
      run = begun p (length m.variables) (length m.bindings);
      frame = laid_out_frame p args f;
    }

-- what comes of a parcel by the verdict on it
abbrev pub opened_by : Result ℕ Fault → Parts → Marks → (args f : List Value) → RunView → Opened
opened_by (Err x) p m args f run = not_opened x run f
opened_by (Ok top) p m args f run = opened_unless (first (open_tests p args f)) top p m args f run

-- opening what a check is asked about, with the arguments args and the frame f, in the place of run
abbrev pub opened : Question → (args f : List Value) → RunView → Opened
opened q args f run = opened_by (checked q).verdict (parcel q.bytes) q.marks args f run

-- a parcel of nothing, which an empty run has
abbrev pub empty_parts : Parts
empty_parts = record {
  layout = record {
    kind = Method;
    literal_count = 0;
    code_length = 0;
    argument_count = 0;
    slot_count = 0;
    local_count = 0;
  };
  literals = [];
  code = [];
}

-- an empty run: ended by return with nil, at place 0
abbrev pub empty : RunView
empty = record {
  parts = empty_parts;
  variable_count = 0;
  binding_count = 0;
  state = Ended Return Nil;
  place = 0;
  height = 0;
}
