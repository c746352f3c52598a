-- Opening and stepping, call by call.
use Rattle.std.proofs.Common.{◌≡◌, ℕ, ◌≤◌, Bool, true, false, not, eqb, ltb, List, [], ◌∷◌, length, Some, None, Ok, Err, Option, Result, sym, refl, ap, ◌∙◌, ltb-false}
use mathlib.Core.Path.{subst⁻¹}
use Rattle.values.specs.Order.{test, first}
use Rattle.values.specs.declared.faults.Fault.{Fault}
use Rattle.values.specs.declared.faults.Rule.TheVariants.{ArgumentsDiffer, FrameShort}
use Rattle.parcels.specs.Parts.{Parts}
use Rattle.stages.specs.Check.{question_on, checked}
use Rattle.parcels.specs.Parts.{parcel}
use Rattle.semantics.specs.Scripts.{Outcome as Way, continues, ends, stops}
use Rattle.semantics.specs.declared.states.State.TheVariants.{Live}
use Rattle.values.specs.declared.kinds.Value.{Value}
use Rattle.hosts.specs.Meaning.{Meaning, Marks, Sent, Kept, Like, marks_of, marks_in, marked}
use Rattle.hosts.proofs.Cells.{like_same, like_trans}
use Rattle.semantics.specs.Steps.{RunView, CallAnswer, moved, StepUnless, Step, step_tests, frame_cells, next_script}
use Rattle.semantics.proofs.Executing.{like}
use Rattle.semantics.specs.Opening.{opened, opened_unless, opened_by, empty}
use Rattle.safety.specs.Histories.{HeldRuns, Call, takes, opens, steps, History, new, called, altered}
use Rattle.safety.proofs.Safety.{every_history_is_safe}
use Rattle.planning.specs.Keeping.{StaysWithin, Led, LeadsOn, Going}
use Rattle.planning.specs.declared.options.Plan.{Plan}

-- the law of a host on its messages
abbrev Lawful : {S : Type 0} → (S → Meaning) → (S → Sent → Value → S → Type 0) → Type 0
Lawful {S} means may = (s t : S) (m : Sent) (v : Value) → may s m v t → Kept (means s) (means t)

module _ {S : Type 0} (means : S → Meaning) (may : S → Sent → Value → S → Type 0) where
  -- a step leads on
  pub stepped : (run run' : RunView) (s s' : S) (f f' : List Value) (a : CallAnswer) → Step means may run f s a run' f' s' → LeadsOn means may s run s' run'
  stepped run run' s s' f f' a st t s₀ l = record {
    past = called l.past (steps 0 run run' refl s' f f' a st);
    untrusted = λ e. (tt, l.untrusted e);
  }

  -- an opening of an empty run is led to
  pub begun : (t : Bool) (s : S) (b : List ℕ) (args f : List Value) (hs ws : List ℕ) (run run' : RunView)
      → run ≡ empty → run' ≡ (opened (question_on (means s) t b hs ws) args f run).run → Led means may t s s run'
  begun t s b args f hs ws run run' e e' =
      subst⁻¹ (λ (r : RunView). Led means may t s s r) (e' ∙ ap (λ (r : RunView). (opened (question_on (means s) t b hs ws) args f r).run) e) (record {
        past = called (called new takes) (opens 0 empty refl t b hs ws args f);
        untrusted = λ q. ((λ _. q), (tt, tt));
      })

  -- what never changes of a host, over a step
  like_by : Lawful means may → (x : Option Fault) (run run' : RunView) (s s' : S) (f f' : List Value) (a : CallAnswer)
      → StepUnless means may x run f s a run' f' s' → Like (means s) (means s')
  like_by law (Some x) run run' s s' f f' a p = like_same (ap means p.3)
  like_by law None run run' s s' f f' a p = like run.parts.literals means may law (next_script run) f s p.0 f' s' p.3

  -- over a call
  like_call : Lawful means may → {s s' : S} {rs rs' : HeldRuns} → Call means may s rs s' rs' → Like (means s) (means s')
  like_call law (steps {s} k run run' at s' f f' a st) = like_by law (first (step_tests run f (means s))) run run' s s' f f' a st
  like_call law call = like_same refl

  -- and over a history
  alike : Lawful means may → {exact : Bool} {s₀ s : S} {rs : HeldRuns} → History means may exact s₀ s rs → Like (means s₀) (means s)
  alike law new = like_same refl
  alike law (called past call) = like_trans (alike law past) (like_call law call)
  alike law (altered x past e) = like_trans (alike law past) (like_same e)

  -- what was led to under a plan stays within it
  pub within : Lawful means may → (p : Plan) (s₀ s : S) (run : RunView) → Led means may p.trusted s₀ s run → StaysWithin p (means s₀) (means s)
  within law p s₀ s run l =
      let safe = every_history_is_safe means may law true s₀ s (Some run ∷ []) l.past in
      record {
        kept = λ e. safe.trusted (l.untrusted e);
        marks = (alike law l.past).marks;
      }

  -- a step leaves the parcel
  same_parcel : (run : RunView) (o : Way) → (moved run o).parts ≡ run.parts
  same_parcel run (continues p h) = refl
  same_parcel run (ends e v) = refl
  same_parcel run (stops x) = refl

  pub same_parts : (x : Option Fault) (run run' : RunView) (s s' : S) (f f' : List Value) (a : CallAnswer) → StepUnless means may x run f s a run' f' s' → run'.parts ≡ run.parts
  same_parts (Some x) run run' s s' f f' a p = ap (λ (r : RunView). r.parts) p.1
  same_parts None run run' s s' f f' a p = ap (λ (r : RunView). r.parts) p.2 ∙ same_parcel run p.0

  -- a live run that is going is not refused
  pub unrefused : Lawful means may
      → (run run' : RunView) (s s' : S) (f f' : List Value) (a : CallAnswer) → Going means may s run f → run.state ≡ Live → Step means may run f s a run' f' s' → a ≡ Ok tt
  unrefused law run run' s s' f f' a x l st =
      ((every_history_is_safe means may law true x.began s (Some run ∷ []) x.led.past).progress 0 run refl l f f' a run' s' x.long st).0.unrefused

  -- and goes on after a step, with a frame that is as long
  pub goes_further : (run run' : RunView) (s s' : S) (f f' : List Value) (a : CallAnswer) → length f' ≡ length f → Going means may s run f → Step means may run f s a run' f' s' → Going means may s' run' f'
  goes_further run run' s s' f f' a same x st = record {
    trusted = x.trusted;
    began = x.began;
    led = stepped run run' s s' f f' a st x.trusted x.began x.led;
    long =
        subst⁻¹ (λ n. frame_cells run'.parts ≤ n) same
        (subst⁻¹ (λ (p : Parts). frame_cells p ≤ length f) (same_parts (first (step_tests run f (means s))) run run' s s' f f' a st) x.long);
  }

-- an opening that is not refused has a frame that is long enough
module _ (p : Parts) (m : Marks) (args f : List Value) (run : RunView) (top : ℕ) where
  long_by : (a b : Bool) (n : ℕ) → (b ≡ false → frame_cells p ≤ length f)
      → (opened_unless (first (test ArgumentsDiffer 0 a ∷ test FrameShort 0 b ∷ [])) n p m args f run).answer ≡ Ok top
      → frame_cells (opened_unless (first (test ArgumentsDiffer 0 a ∷ test FrameShort 0 b ∷ [])) n p m args f run).run.parts ≤ length f
  long_by true b n k e = absurd cc
  long_by false true n k e = absurd cc
  long_by false false n k e = k refl

  pub long_enough : (v : Result ℕ Fault) → (opened_by v p m args f run).answer ≡ Ok top
      → frame_cells (opened_by v p m args f run).run.parts ≤ length f
  long_enough (Err x) e = absurd cc
  long_enough (Ok n) e = long_by (not (eqb (length args) p.layout.argument_count)) (ltb (length f) (frame_cells p)) n (ltb-false (length f) (frame_cells p)) e

module _ {S : Type 0} (means : S → Meaning) (may : S → Sent → Value → S → Type 0) where
  -- a run that an opening began is going
  pub going : (t : Bool) (s : S) (b : List ℕ) (args f f' : List Value) (hs ws : List ℕ) (run run' : RunView) (a : Result ℕ Fault) (top : ℕ)
      → run ≡ empty → a ≡ (opened (question_on (means s) t b hs ws) args f run).answer → a ≡ Ok top → run' ≡ (opened (question_on (means s) t b hs ws) args f run).run → length f' ≡ length f
      → Going means may s run' f'
  going t s b args f f' hs ws run run' a top e answer ok e' same = record {
    trusted = t;
    began = s;
    led = begun means may t s b args f hs ws run run' e e';
    long =
        subst⁻¹ (λ n. frame_cells run'.parts ≤ n) same
        (subst⁻¹ (λ (r : RunView). frame_cells r.parts ≤ length f) e'
        (long_enough (parcel b) (marks_of (means s)) args f run top (checked (question_on (means s) t b hs ws)).verdict (sym answer ∙ ok)));
  }

  -- what an opening began and was led on from there stays within the plan
  pub within_led : Lawful means may → (p : Plan) (s s' : S) (b : List ℕ) (args f : List Value) (hs ws : List ℕ) (run run' run'' : RunView)
      → run ≡ empty → run' ≡ (opened (question_on (means s) p.trusted b hs ws) args f run).run → LeadsOn means may s run' s' run'' → StaysWithin p (means s) (means s')
  within_led law p s s' b args f hs ws run run' run'' e e' on = within means may law p s s' run'' (on p.trusted s (begun means may p.trusted s b args f hs ws run run' e e'))

-- nothing happened
pub keeps_same : (p : Plan) (m : Meaning) → StaysWithin p m m
keeps_same p m = record { kept = λ e row i q. refl; marks = refl }

-- one after the other
pub keeps_on : {p : Plan} {m n o : Meaning} → StaysWithin p m n → StaysWithin p n o → StaysWithin p m o
keeps_on x y = record {
  kept = λ e row i q.
      y.kept e row i (ap (λ (k : Marks). marked (marks_in k row) i) x.marks ∙ q) ∙ x.kept e row i q;
  marks = y.marks ∙ x.marks;
}
