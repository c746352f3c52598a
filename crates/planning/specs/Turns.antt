-- What parcels do to a host, one after the other.
use Rattle.std.specs.Prelude.{◌≡◌, ℕ, ◌+◌, List, replicate, None, IsSomeAnd, Ok, Err, Option, Result, vec_items}
use Rattle.values.specs.declared.faults.Fault.{Fault}
use Rattle.values.specs.declared.kinds.Value.{Value}
use Rattle.hosts.specs.Meaning.{Meaning, Sent}
use Rattle.stages.specs.Check.{Question, question_on, checked}
use Rattle.semantics.specs.Opening.{Opened, opened, empty}
use Rattle.stages.specs.declared.heights.TheConstants.{MAX_PAIRS}
use Rattle.planning.specs.Frames.{frame_of}
use Rattle.planning.specs.Keeping.{Played}
use Rattle.planning.specs.declared.options.Plan.{Plan}
use Rattle.planning.specs.declared.texts.Outcome.{Outcome}

-- what the check of a parcel is asked under a plan, with lists that suffice for every parcel
abbrev pub question_under : Plan → Meaning → List ℕ → Question
question_under p m b = question_on m p.trusted b (replicate MAX_PAIRS 0) (replicate MAX_PAIRS 0)

-- opening a parcel under a plan, with the frame f
abbrev pub opened_under : Plan → Meaning → List ℕ → (f : List Value) → Opened
opened_under p m b f = opened (question_under p m b) (vec_items p.arguments) f empty

module _ {S : Type 0} (means : S → Meaning) (may : S → Sent → Value → S → Type 0) (p : Plan) where
  -- a parcel that is refused is not played, and leaves the host as it was; one that is accepted is
  -- opened under the plan, with a frame of its own, and played with the outcome o
  abbrev pub HandledBy : Result ℕ Fault → List ℕ → S → (o : Option Outcome) → S → Type 0
  HandledBy (Err x) b s o s' = (o ≡ None) × (means s' ≡ means s)
  HandledBy (Ok top) b s o s' =
      IsSomeAnd o (λ out. (f' : List Value)
      × Played means may (opened_under p (means s) b (frame_of b)) p.steps s out s' f')

  -- what a parcel does to a host, with the outcome o, by the check's verdict on it
  abbrev pub Handled : List ℕ → S → (o : Option Outcome) → S → Type 0
  Handled b s o s' = HandledBy (checked (question_under p (means s) b)).verdict b s o s'

  -- so many parcels, whatever their bytes, lead in turn from one host to another
  pub data InTurn (s₀ : S) : ℕ → S → Type 0 where
    none : InTurn s₀ 0 s₀
    more : {k : ℕ} {s s' : S} → InTurn s₀ k s → (b : List ℕ) (o : Option Outcome)
        → Handled b s o s' → InTurn s₀ (k + 1) s'
