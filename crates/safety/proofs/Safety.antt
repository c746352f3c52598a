-- Every history is safe.
use Rattle.std.proofs.Common.{◌≡◌, ℕ, zero, suc, ◌<◌, ◌≤◌, Bool, true, false, cond, not, ◌&&◌, eqb, ltb, ◌⊎◌, List, [], ◌∷◌, ◌++◌, length, get_or, set, is_ok, Some, None, Ok, Err, Option, Result, sym, refl, ap, ◌∙◌, subst, inl, inr}
use Rattle.std.proofs.lemmas.List.{get_or-set_same, get_or-set_other, get_or_past}
use Rattle.std.proofs.lemmas.Bool.{cases_eq, cases_lt, eq-eqb, le-ltb}
use Rattle.std.proofs.lemmas.Option.{none-some, same_Some}
use Rattle.values.specs.Order.{first}
use Rattle.values.specs.declared.faults.Fault.{Fault}
use Rattle.values.specs.declared.kinds.Value.{Value}
use Rattle.hosts.specs.Meaning.{Meaning, Sent, Marks, Kept, Like, marks_of, marked, row_of}
use Rattle.hosts.proofs.Cells.{row_marks, open_trusted, kept_same, kept_trans, like_trans, like_same}
use Rattle.stages.specs.Check.{Question, question_on, checked}
use Rattle.stages.proofs.Trust.{marks_length}
use Rattle.parcels.specs.Parts.{parcel}
use Rattle.soundness.specs.Verdicts.{IsValid}
use Rattle.soundness.proofs.Orders.{first_none}
use Rattle.soundness.proofs.Verdict.{every_verdict_means}
use Rattle.semantics.specs.Steps.{RunView, StepUnless, step_tests, is_live, frame_cells, next_script}
use Rattle.semantics.specs.declared.states.State.{State}
use Rattle.semantics.specs.declared.states.State.TheVariants.{Live, Ended, Stopped}
use Rattle.semantics.proofs.Executing.{like}
use Rattle.semantics.specs.Opening.{Opened, open_tests, opened_unless, opened_by, opened, begun, empty}
use Rattle.safety.specs.Histories.{HeldRuns, Holds, Call, takes, opens, steps, collects, History, new, called, altered, OpensUntrusted, Untrusted, Safe, EveryHistoryIsSafe}
use Rattle.safety.proofs.Readiness.{accepted_ready, accepted_open}
use Rattle.safety.proofs.Stepping.{Sound, placed, made, still_sound, progress, same_within, keeps}

-- the runs that are held after one of them changed
pub held_length : (rs : HeldRuns) (k : ℕ) (run : RunView) → Holds rs k run → k < length rs
held_length rs k run e = elim (cases_lt k (length rs)) [ inl l ↦ l | inr l ↦ absurd (none-some run (sym (get_or_past rs k None l) ∙ e)) ]

after_set : (rs : HeldRuns) (k : ℕ) (old : RunView) (x : Option RunView) (j : ℕ) (run : RunView) → Holds rs k old → Holds (set rs k x) j run → ((j ≡ k) × (x ≡ Some run)) ⊎ Holds rs j run
after_set rs k old x j run at e = elim (cases_eq j k) [
  | inl i ↦ inl (i, sym (get_or-set_same rs k x None (held_length rs k old at)) ∙ ap (λ (y : ℕ). get_or (set rs k x) y None) (sym i) ∙ e)
  | inr ne ↦ inr (sym (get_or-set_other rs k j x None ne) ∙ e)
]

after_taken : (rs : HeldRuns) (j : ℕ) (run : RunView) → Holds (rs ++ (Some empty ∷ [])) j run → (run ≡ empty) ⊎ Holds rs j run
after_taken [] zero run e = inl (sym (same_Some _ _ e))
after_taken [] (suc j) run e = absurd cc
after_taken (r ∷ rs) zero run e = inr e
after_taken (r ∷ rs) (suc j) run e = after_taken rs j run e

-- a state that is live is neither ended nor stopped
never_live : (x : State) → is_live x ≡ false → x ≡ Live → ⊥
never_live Live e q = absurd cc
never_live (Ended w v) e q = absurd cc
never_live (Stopped w) e q = absurd cc

-- a step that is not refused is of a live run
was_live : (run : RunView) (f : List Value) (m : Meaning) → first (step_tests run f m) ≡ None → run.state ≡ Live
was_live run f m e = by run.state (first_none (step_tests run f m) e).0
  where
    by : (x : State) → not (is_live x) ≡ false → x ≡ Live
    by Live q = refl
    by (Ended w v) q = absurd cc
    by (Stopped w) q = absurd cc

-- no refusal applies to a live run with its counts and a frame that is long enough
none_applies : (run : RunView) (f : List Value) (m : Meaning) → run.state ≡ Live
    → length m.variables ≡ run.variable_count → length m.bindings ≡ run.binding_count
    → frame_cells run.parts ≤ length f → first (step_tests run f m) ≡ None
none_applies run f m l v b c =
    all (is_live run.state) (eqb (length m.variables) run.variable_count) (eqb (length m.bindings) run.binding_count) (ltb (length f) (frame_cells run.parts))
    (ap is_live l) (eq-eqb _ _ v) (eq-eqb _ _ b) (le-ltb _ _ c) _ _ _
  where
    all : (x y z w : Bool) → x ≡ true → y ≡ true → z ≡ true → w ≡ false → (a b c : Fault)
        → cond (not x) (Some a) (cond (not (y && z)) (Some b) (cond w (Some c) None)) ≡ None
    all true true true true p q r t a b c = absurd cc
    all true true true false p q r t a b c = refl
    all true true false w p q r t a b c = absurd cc
    all true false z w p q r t a b c = absurd cc
    all false y z w p q r t a b c = absurd cc

-- the run after an opening: the old one, or a new one that came from an acceptance
data AfterOpening (q : Question) (run : RunView) : Opened → Type 0 where
  stays : {x : Opened} → x.run ≡ run → AfterOpening q run x
  begins : {x : Opened} → is_ok x.answer ≡ true → Sound q.marks q.trusted x.run → AfterOpening q run x

after_opening : (q : Question) (args f : List Value) (run : RunView) → AfterOpening q run (opened q args f run)
after_opening q args f run = by (checked q).verdict refl
  where
    begun_sound : IsValid q.marks q.trusted q.bytes → Sound q.marks q.trusted (begun (parcel q.bytes) (length q.marks.variables) (length q.marks.bindings))
    begun_sound k = record {
      ready = accepted_ready q.marks q.trusted q.bytes k;
      variables = refl;
      bindings = refl;
      stores = λ u. accepted_open q.marks q.bytes (subst (λ (x : Bool). IsValid q.marks x q.bytes) u k);
    }

    accepted : (top : ℕ) → (checked q).verdict ≡ Ok top → (o : Option Fault)
        → AfterOpening q run (opened_unless o top (parcel q.bytes) q.marks args f run)
    accepted top e (Some x) = stays refl
    accepted top e None = begins refl (begun_sound ((every_verdict_means q).keeps top e).0)

    by : (r : Result ℕ Fault) → (checked q).verdict ≡ r
        → AfterOpening q run (opened_by r (parcel q.bytes) q.marks args f run)
    by (Err x) e = stays refl
    by (Ok top) e = accepted top e (first (open_tests (parcel q.bytes) args f))

module _ {S : Type 0} (means : S → Meaning) (may : S → Sent → Value → S → Type 0)
    (lawful : (s t : S) (m : Sent) (v : Value) → may s m v t → Kept (means s) (means t)) where
  -- the live runs that are held came from acceptances, of untrusted parcels if u
  abbrev AllSound : (u : Type 0) → Marks → HeldRuns → Type 0
  AllSound u m rs =
      (k : ℕ) (run : RunView) → Holds rs k run → run.state ≡ Live
      → (t : Bool) × (u → t ≡ false) × Sound m t run

  -- what holds along a history: what never changes of the host; where the live runs came from; and,
  -- if u, that every parcel was untrusted, the trusted cells
  record KeptUp (u : Type 0) (s₀ s : S) (rs : HeldRuns) : Type 0 where
    same : Like (means s₀) (means s)
    runs : AllSound u (marks_of (means s₀)) rs
    cells : u → Kept (means s₀) (means s)

  -- one call keeps it up
  kept_up_by : {s₀ s s' : S} {rs rs' : HeldRuns} {u : Type 0} (call : Call means may s rs s' rs')
      → KeptUp u s₀ s rs → KeptUp (OpensUntrusted means may call × u) s₀ s' rs'
  kept_up_by {rs = rs} takes x = record {
    same = x.same;
    runs = λ k run e l. elim (after_taken rs k run e) [
      | inl q ↦ absurd (never_live (Ended _ _) refl (sym (ap (λ (r : RunView). r.state) q) ∙ l))
      | inr q ↦ (let y = x.runs k run q l in (y.0, (λ u. y.1 u.1), y.2))
    ];
    cells = λ u. x.cells u.1;
  }
  kept_up_by {s₀} {s} {rs = rs} {u = u} (opens k run at t b hs ws args f) x = record {
    same = x.same;
    runs = λ j r e l. elim (after_set rs k run (Some (opened (question_on (means s) t b hs ws) args f run).run) j r at e) [
      | inl p ↦ changed r (same_Some _ _ p.1) l (after_opening (question_on (means s) t b hs ws) args f run)
      | inr p ↦ (let y = x.runs j r p l in (y.0, (λ v. y.1 v.1), y.2))
    ];
    cells = λ v. x.cells v.1;
  }
    where
      changed : (r : RunView) → (opened (question_on (means s) t b hs ws) args f run).run ≡ r → r.state ≡ Live → AfterOpening (question_on (means s) t b hs ws) run (opened (question_on (means s) t b hs ws) args f run)
          → (v : Bool) × (OpensUntrusted means may (opens {s = s} {rs = rs} k run at t b hs ws args f) × u → v ≡ false)
          × Sound (marks_of (means s₀)) v r
      changed r e l (stays p) =
          let y = x.runs k run at (ap (λ (z : RunView). z.state) (sym p ∙ e) ∙ l) in
          (y.0, (λ v. y.1 v.1), subst (λ (z : RunView). Sound (marks_of (means s₀)) y.0 z) (sym p ∙ e) y.2)
      changed r e l (begins ok sound) = (
        t,
        (λ v. v.0 ok),
        subst (λ (z : RunView). Sound (marks_of (means s₀)) t z) e
            (subst (λ (n : Marks). Sound n t (opened (question_on (means s) t b hs ws) args f run).run) x.same.marks sound),
      )
  kept_up_by {s₀} {s} {rs = rs} {u = u} (steps k run run' at s' f f' a st) x = by (first (step_tests run f (means s))) refl
    where
      by : (o : Option Fault) → first (step_tests run f (means s)) ≡ o → KeptUp (Unit {0} × u) s₀ s' (set rs k (Some run'))
      by (Some y) e =
          let r = subst (λ (o : Option Fault). StepUnless means may o run f s a run' f' s') e st in
          record {
            same = like_trans x.same (like_same (ap means r.3));
            runs = λ j w q l. elim (after_set rs k run (Some run') j w at q) [
              | inl p ↦ (let same : run ≡ w = sym r.1 ∙ same_Some _ _ p.1 in
                  let z = x.runs k run at (ap (λ (v : RunView). v.state) same ∙ l) in
                  (z.0, (λ v. z.1 v.1), subst (λ (v : RunView). Sound (marks_of (means s₀)) z.0 v) same z.2))
              | inr p ↦ (let z = x.runs j w p l in (z.0, (λ v. z.1 v.1), z.2))
            ];
            cells = λ v. kept_trans (x.cells v.1) (kept_same (means s) (means s') (ap means r.3));
          }
      by None e =
          let d = made means may run f s a run' f' s' e st in
          let z = x.runs k run at (was_live run f (means s) e) in
          record {
            same = like_trans x.same (like run.parts.literals means may lawful (next_script run) f s d.outcome f' s' d.came);
            runs = λ j w q l. elim (after_set rs k run (Some run') j w at q) [
              | inl p ↦ (
                z.0,
                (λ v. z.1 v.1),
                subst (λ (v : RunView). Sound (marks_of (means s₀)) z.0 v) (same_Some _ _ p.1)
                    (still_sound means may run (marks_of (means s₀)) z.0 z.2 f s a run' f' s' d (ap (λ (v : RunView). v.state) (same_Some _ _ p.1) ∙ l)),
              )
              | inr p ↦ (let y = x.runs j w p l in (y.0, (λ v. y.1 v.1), y.2))
            ];
            cells = λ v. kept_trans (x.cells v.1)
                (keeps means may run (marks_of (means s₀)) z.0 z.2 f s a run' f' s' d lawful (z.1 v.1) x.same.marks);
          }
  kept_up_by {rs = rs} (collects k run at) x = record {
    same = x.same;
    runs = λ j r e l. elim (after_set rs k run None j r at e) [
      | inl q ↦ absurd (none-some r q.1)
      | inr q ↦ (let y = x.runs j r q l in (y.0, (λ v. y.1 v.1), y.2))
    ];
    cells = λ v. x.cells v.1;
  }

  kept_up : {exact : Bool} {s₀ s : S} {rs : HeldRuns} (past : History means may exact s₀ s rs) → KeptUp (Untrusted means may past) s₀ s rs
  kept_up {s₀} new = record {
    same = like_same refl;
    runs = λ k run e l. absurd (none-some run e);
    cells = λ u. kept_same (means s₀) (means s₀) refl;
  }
  kept_up (called past call) = kept_up_by call (kept_up past)
  kept_up (altered {s} {s'} x past e) =
      let y = kept_up past in
      record {
        same = like_trans y.same (like_same e);
        runs = y.runs;
        cells = λ u. kept_trans (y.cells u) (kept_same (means s) (means s') e);
      }

  safe_by : {exact : Bool} {s₀ s : S} {rs : HeldRuns} (past : History means may exact s₀ s rs)
      → KeptUp (Untrusted means may past) s₀ s rs → Safe means may exact s₀ s rs past
  safe_by {s₀ = s₀} {s = s} past x = record {
    well_placed = λ k run e l. placed (x.runs k run e l).2;
    progress = λ k run e l f f' a run' s' c st.
        let sound = (x.runs k run e l).2 in
        let v : length (means s).variables ≡ run.variable_count =
        marks_length (means s).variables ∙ ap (λ (n : Marks). length n.variables) x.same.marks ∙ sym sound.variables in
        let b : length (means s).bindings ≡ run.binding_count =
        marks_length (means s).bindings ∙ ap (λ (n : Marks). length n.bindings) x.same.marks ∙ sym sound.bindings in
        let d = made means may run f s a run' f' s' (none_applies run f (means s) l v b c) st in (
          progress means may run (marks_of (means s₀)) (x.runs k run e l).0 sound f s a run' f' s' d l,
          same_within means may run (marks_of (means s₀)) (x.runs k run e l).0 sound f s a run' f' s' d,
        );
    unchanged = x.same;
    trusted = λ u row i e.
        open_trusted (row_of (means s₀) row) (row_of (means s) row) i ((x.cells u).cells row)
        (subst (λ (n : List Bool). marked n i ≡ true) (row_marks (means s₀) row) e);
  }

  pub every_history_is_safe : EveryHistoryIsSafe means may
  every_history_is_safe exact s₀ s rs past = safe_by past (kept_up past)
