-- What becomes of a host while parcels run on it.
use Rattle.std.specs.Prelude.{◌≡◌, ℕ, ◌+◌, ◌≤◌, Bool, true, false, List, [], ◌∷◌, length, Some, IsOkAnd, Ok, Err, Result}
use Rattle.values.specs.declared.faults.Fault.{Fault}
use Rattle.values.specs.declared.kinds.Value.{Value}
use Rattle.hosts.specs.Meaning.{Meaning, Sent, marks_of, marks_in, marked, row_of, cell_value}
use Rattle.hosts.specs.declared.rows.Row.{Row}
use Rattle.semantics.specs.Steps.{RunView, Step, frame_cells}
use Rattle.semantics.specs.declared.states.State.TheVariants.{Live}
use Rattle.safety.specs.Histories.{History, Untrusted}
use Rattle.semantics.specs.Opening.{Opened}
use Rattle.planning.specs.declared.options.Plan.{Plan}
use Rattle.planning.specs.declared.texts.Outcome.{Outcome}
use Rattle.planning.specs.declared.texts.Ran.{Ran}

-- every trusted cell has the value that it had
abbrev pub KeepsTrusted : Meaning → Meaning → Type 0
KeepsTrusted m m' =
    (row : Row) (i : ℕ) → marked (marks_in (marks_of m) row) i ≡ true
    → cell_value (row_of m' row) i ≡ cell_value (row_of m row) i

-- what parcels run under a plan leave of a host: every mark, and where the plan is not trusted,
-- every trusted cell's value
pub record StaysWithin (p : Plan) (m m' : Meaning) : Type 0 where
  pub kept : p.trusted ≡ false → KeepsTrusted m m'
  pub marks : marks_of m' ≡ marks_of m

module _ {S : Type 0} (means : S → Meaning) (may : S → Sent → Value → S → Type 0) where
  -- calls on one run alone led from the host s₀ to the host s and the run; where t is false, no
  -- trusted parcel was opened
  pub record Led (t : Bool) (s₀ s : S) (run : RunView) : Type 0 where
    pub past : History means may true s₀ s (Some run ∷ [])
    pub untrusted : t ≡ false → Untrusted means may past

  -- what led to the host s and the run leads on to s' and run'
  abbrev pub LeadsOn : S → RunView → S → RunView → Type 0
  LeadsOn s run s' run' = (t : Bool) (s₀ : S) → Led t s₀ s run → Led t s₀ s' run'

  -- a run that was led to, with a frame that is long enough for it
  pub record Going (s : S) (run : RunView) (f : List Value) : Type 0 where
    pub trusted : Bool
    pub began : S
    pub led : Led trusted began s run
    pub long : frame_cells run.parts ≤ length f

  -- so many steps, each of a live run and none refused, lead from one host, run and frame to
  -- another
  pub data Stepped (s₀ : S) (run₀ : RunView) (f₀ : List Value)
      : ℕ → S → RunView → List Value → Type 0 where
    none : Stepped s₀ run₀ f₀ 0 s₀ run₀ f₀
    more : {k : ℕ} {s s' : S} {run run' : RunView} {f f' : List Value}
        → Stepped s₀ run₀ f₀ k s run f → run.state ≡ Live
        → Step means may run f s (Ok tt) run' f' s' → Stepped s₀ run₀ f₀ (k + 1) s' run' f'

  -- a run was stepped until it was live no more, or else as often as the budget says: its state and
  -- its place then, and how many steps were made
  pub record Followed (budget : ℕ) (s : S) (run : RunView) (f : List Value)
      (ran : Ran) (s' : S) (run' : RunView) (f' : List Value) : Type 0 where
    pub state : ran.state ≡ run'.state
    pub place : ran.place ≡ run'.place
    pub within : ran.steps ≤ budget
    pub spent : ran.state ≡ Live → ran.steps ≡ budget
    pub stepped : Stepped s run f ran.steps s' run' f'

  -- what comes of an accepted parcel by the answer of its opening: the refusal, or the run that
  -- began is followed
  abbrev pub PlayedBy : Result ℕ Fault → Opened → ℕ → S → Outcome → S → List Value → Type 0
  PlayedBy (Err x) o budget s out s' f' = (out.0 ≡ Err x) × (means s' ≡ means s)
  PlayedBy (Ok top) o budget s out s' f' =
      IsOkAnd out.0 (λ ran. (run' : RunView) × Followed budget s o.run o.frame ran s' run' f')

  -- what comes of an accepted parcel by its opening
  abbrev pub Played : Opened → ℕ → S → Outcome → S → List Value → Type 0
  Played o budget s out s' f' = PlayedBy o.answer o budget s out s' f'
