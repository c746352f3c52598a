-- What an accepted parcel does to a host.
use Rattle.std.proofs.Common.{◌≡◌, ℕ, false, List, Some, None, Ok, Err, Option, Result, is_err, vec_items, refl, ap, ◌∙◌, subst, arith}
use Rattle.values.specs.Order.{first}
use Rattle.values.specs.declared.faults.Fault.{Fault}
use Rattle.values.specs.declared.kinds.Value.{Value}
use Rattle.hosts.specs.Meaning.{Meaning, Marks, Sent, marks_of}
use Rattle.parcels.specs.Parts.{Parts, parcel}
use Rattle.stages.specs.Check.{checked}
use Rattle.semantics.specs.Steps.{RunView}
use Rattle.semantics.specs.Opening.{Opened, open_tests, opened_unless, opened_by, empty}
use Rattle.semantics.specs.declared.states.State.{State}
use Rattle.semantics.specs.declared.states.State.TheVariants.{Live}
use Rattle.planning.specs.Frames.{frame_of}
use Rattle.planning.specs.Keeping.{Played, PlayedBy, Stepped, none, more}
use Rattle.planning.specs.Relying.{unstepped}
use Rattle.planning.specs.Turns.{question_under, opened_under, Handled, HandledBy}
use Rattle.planning.specs.declared.options.Plan.{Plan}
use Rattle.planning.specs.declared.texts.Outcome.{Outcome}
use Rattle.planning.specs.declared.texts.Ran.{Ran}

-- what is left of no steps
pub rested : (st : State) (place steps : ℕ) → st ≡ Live → place ≡ 0 → steps ≡ 0 → record { state = st; place = place; steps = steps } ≡ unstepped
rested st place steps e d z = rw (e, d, z) refl

module _ {S : Type 0} (means : S → Meaning) (may : S → Sent → Value → S → Type 0) (p : Plan) (b : List ℕ) (s s' : S) where
  -- a parcel that is not refused is played with some frame
  accepted : (v : Result ℕ Fault) (out : Outcome) (f' : List Value) → is_err v ≡ false
      → Played means may (opened_under p (means s) b (frame_of b)) p.steps s out s' f' → HandledBy means may p v b s (Some out) s'
  accepted (Ok top) out f' e x = (f', x)
  accepted (Err f) out f' e x = absurd cc

  pub handled : (v : Result ℕ Fault) (f f' : List Value) (out : Outcome)
      → v ≡ (checked (question_under p (means s) b)).verdict → is_err v ≡ false → f ≡ frame_of b
      → Played means may (opened_under p (means s) b f) p.steps s out s' f' → Handled means may p b s (Some out) s'
  handled v f f' out judged e same x =
      subst (λ (y : Result ℕ Fault). HandledBy means may p y b s (Some out) s') judged
      (accepted v out f' e (subst (λ (g : List Value). Played means may (opened_under p (means s) b g) p.steps s out s' f') same x))

  -- where there is no run, the host is as it was
  unplayed : (a : Result ℕ Fault) (o : Opened) (budget : ℕ) (x : Fault) (f' : List Value) → PlayedBy means may a o budget s (record { 0 = Err x }) s' f' → means s' ≡ means s
  unplayed (Err y) o budget x f' q = q.1
  unplayed (Ok top) o budget x f' q = absurd q

  pub refused : (v : Result ℕ Fault) → HandledBy means may p v b s None s' → means s' ≡ means s
  refused (Err x) h = h.1
  refused (Ok top) h = absurd h

  pub unopened : (v : Result ℕ Fault) (x : Fault) → HandledBy means may p v b s (Some (record { 0 = Err x })) s' → means s' ≡ means s
  unopened (Err y) x h = absurd cc
  unopened (Ok top) x h = unplayed (opened_under p (means s) b (frame_of b)).answer (opened_under p (means s) b (frame_of b)) p.steps x h.0 h.1

  -- no steps lead nowhere
  nowhere : {k : ℕ} {s₀ t : S} {run₀ run : RunView} {f₀ f : List Value} → k ≡ 0 → Stepped means may s₀ run₀ f₀ k t run f → (t ≡ s₀) × (run ≡ run₀)
  nowhere e none = (refl, refl)
  nowhere e (more past live step) = absurd (omega (arith, e))

  -- a run that was opened is live at its beginning
  live_unless : (x : Option Fault) (top n : ℕ) (q : Parts) (m : Marks) (args f : List Value) (run : RunView) → (opened_unless x top q m args f run).answer ≡ Ok n
      → ((opened_unless x top q m args f run).run.state ≡ Live) × ((opened_unless x top q m args f run).run.place ≡ 0)
  live_unless (Some x) top n q m args f run e = absurd cc
  live_unless None top n q m args f run e = (refl, refl)

  live_by : (v : Result ℕ Fault) (n : ℕ) (q : Parts) (m : Marks) (args f : List Value) (run : RunView) → (opened_by v q m args f run).answer ≡ Ok n
      → ((opened_by v q m args f run).run.state ≡ Live) × ((opened_by v q m args f run).run.place ≡ 0)
  live_by (Err x) n q m args f run e = absurd cc
  live_by (Ok top) n q m args f run e = live_unless (first (open_tests q args f)) top n q m args f run e

  -- a run that may make no step stays where it began, and the host with it
  pub record Stays (ran : Ran) : Type 0 where
    pub state : ran.state ≡ Live
    pub place : ran.place ≡ 0
    pub host : means s' ≡ means s

  stays_by : (a : Result ℕ Fault) (ran : Ran) (f' : List Value) → p.steps ≡ 0 → (opened_under p (means s) b (frame_of b)).answer ≡ a
      → PlayedBy means may a (opened_under p (means s) b (frame_of b)) p.steps s (record { 0 = Ok ran }) s' f' → Stays ran
  stays_by (Err x) ran f' z e q = absurd cc
  stays_by (Ok top) ran f' z e q =
      let still = nowhere (omega (arith, z, q.1.within)) q.1.stepped in
      let begun = live_by (checked (question_under p (means s) b)).verdict top (parcel b) (marks_of (means s)) (vec_items p.arguments) (frame_of b) empty e in
      record {
        state = q.1.state ∙ ap (λ (r : RunView). r.state) still.1 ∙ begun.0;
        place = q.1.place ∙ ap (λ (r : RunView). r.place) still.1 ∙ begun.1;
        host = ap means still.0;
      }

  pub stays : (v : Result ℕ Fault) (ran : Ran) → p.steps ≡ 0 → HandledBy means may p v b s (Some (record { 0 = Ok ran })) s' → Stays ran
  stays (Err x) ran z h = absurd cc
  stays (Ok top) ran z h = stays_by (opened_under p (means s) b (frame_of b)).answer ran h.0 z refl h.1

  -- the same of a parcel that was handled, by what is known of its outcome
  as_outcome : (o : Option Outcome) (out : Outcome) (r : Result Ran Fault) → o ≡ Some out → out.0 ≡ r → Handled means may p b s o s' → Handled means may p b s (Some (record { 0 = r })) s'
  as_outcome o out r e d h = subst (λ (y : Option Outcome). Handled means may p b s y s') (e ∙ ap (λ (y : Result Ran Fault). Some (record { 0 = y })) d) h

  pub unopened_so : (o : Option Outcome) (out : Outcome) (x : Fault) → o ≡ Some out → out.0 ≡ Err x → Handled means may p b s o s' → means s' ≡ means s
  unopened_so o out x e d h = unopened (checked (question_under p (means s) b)).verdict x (as_outcome o out (Err x) e d h)

  pub stays_so : (o : Option Outcome) (out : Outcome) (ran : Ran) → o ≡ Some out → out.0 ≡ Ok ran → Handled means may p b s o s' → p.steps ≡ 0 → Stays ran
  stays_so o out ran e d h z = stays (checked (question_under p (means s) b)).verdict ran z (as_outcome o out (Ok ran) e d h)
