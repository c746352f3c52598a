-- A run over a host whose answers are known is worked out by computing it.
use Rattle.std.proofs.Common.{◌≡◌, ℕ, zero, suc, List, [], ◌∷◌, map, Some, None, Option, Ok, sym, refl, ap, ◌∙◌, subst}
use Rattle.values.specs.Order.{first}
use Rattle.values.specs.declared.faults.Fault.{Fault}
use Rattle.values.specs.declared.kinds.Value.{Value}
use Rattle.hosts.specs.Meaning.{Meaning, Sent, Answered, with_cell}
use Rattle.hosts.specs.declared.rows.Row.{Row}
use Rattle.semantics.specs.Scripts.{Access, write_row, send, Outcome, comes_to, stuck, Script, act, done}
use Rattle.semantics.specs.Execution.{answer_of, frame_after, Exec}
use Rattle.semantics.specs.Steps.{RunView, CallAnswer, step_tests, next_script, moved, StepUnless}
use Rattle.worked.specs.Running.{MayStep, AfterSteps, RunRow, opening, RowHolds, EveryRow}

-- what comes of a script or of a step: an outcome or a run, the frame, and what the host means
abbrev pub Reached : Type 0 → Type 0
Reached X = X × List Value × Meaning

-- on with what is there
abbrev pub on_with : {X Y : Type 0} → Option X → (X → Option Y) → Option Y
on_with None k = None
on_with (Some x) k = k x

abbrev IsNone : {X : Type 0} → Option X → Type 0
IsNone None = Unit {0}
IsNone (Some x) = ⊥

none-some : {X : Type 0} {x : X} → None ≡ Some x → ⊥
none-some e = subst IsNone e tt

-- the part of what is there
abbrev some-of : {X : Type 0} → X → Option X → X
some-of d None = d
some-of d (Some x) = x

some-inj : {X : Type 0} (x y : X) → Some x ≡ Some y → x ≡ y
some-inj x y e = ap (some-of x) e

-- what follows from what comes of some steps
pub after_more : {S : Type 0} (means : S → Meaning) (may : S → Sent → Value → S → Type 0)
    (n : ℕ) (run : RunView) (f : List Value) (s : S) (P Q : RunView → List Value → S → Type 0)
    → ((run' : RunView) (f' : List Value) (s' : S) → P run' f' s' → Q run' f' s')
    → AfterSteps means may n run f s P → AfterSteps means may n run f s Q
after_more means may zero run f s P Q h p = h run f s p
after_more means may (suc n) run f s P Q h p = (
  p.0,
  λ a run' f' s' d.
      let x = p.1 a run' f' s' d in (x.0, after_more means may n run' f' s' P Q h x.1),
)

-- what a host means after an access that is no message
abbrev meaning_after : Access → Meaning → Meaning
meaning_after (write_row r i v) m = with_cell m r i v
meaning_after _ m = m

module _ (reply : Sent → Option Value) where
  module _ (literals : List ℕ) where
    -- a script over a host that means n and answers a message by reply
    abbrev pub played : Script → List Value → Meaning → Option (Reached Outcome)
    played (act (send m) k) f n = played (k (reply m)) f n
    played (act a k) f n =
        played (k (answer_of literals a f n)) (frame_after a f) (meaning_after a n)
    played (done (comes_to o)) f n = Some (o, f, n)
    played (done stuck) f n = None

  -- a step of a run
  abbrev pub stepped_unless : Option Fault → RunView → List Value → Meaning → Option (Reached RunView)
  stepped_unless (Some x) run f n = None
  stepped_unless None run f n =
      on_with (played run.parts.literals (next_script run) f n)
      (λ w. Some (moved run w.0, w.1, w.2))

  abbrev pub stepped : RunView → List Value → Meaning → Option (Reached RunView)
  stepped run f n = stepped_unless (first (step_tests run f n)) run f n

  -- n steps
  abbrev pub steps_of : ℕ → RunView → List Value → Meaning → Option (Reached RunView)
  steps_of zero run f n = Some (run, f, n)
  steps_of (suc k) run f n = on_with (stepped run f n) (λ w. steps_of k w.0 w.1 w.2)

  module _ {S : Type 0} (means : S → Meaning) (may : S → Sent → Value → S → Type 0) where
    -- the host answers by reply, and stays as it is
    pub record Replies : Type 0 where
      pub known : (s : S) (m : Sent) (r : Option Value) (t : S) → Answered means may s m r t
          → (r ≡ reply m) × (means t ≡ means s)
      pub comes : (s : S) (m : Sent) → Answered means may s m (reply m) s
      pub writes : (s : S) (row : Row) (i : ℕ) (v : Value)
          → (t : S) × (means t ≡ with_cell (means s) row i v)

    module _ (laws : Replies) where
      module _ (literals : List ℕ) where
        -- whatever may come of a script is what is computed
        only : (c : Script) (f : List Value) (s : S) (o : Outcome) (f' : List Value) (s' : S)
            → Exec literals means may c f s o f' s'
            → played literals c f (means s) ≡ Some (o, f', means s')
        only (act (write_row r i v) k) f s o f' s' d =
            ap (λ n. played literals (k tt) f n) (sym d.1) ∙ only (k tt) f d.0 o f' s' d.2
        only (act (send m) k) f s o f' s' d =
            let h = laws.known s m d.0 d.1 d.2 in
            ap (λ r. played literals (k r) f (means s)) (sym h.0)
            ∙ ap (λ n. played literals (k d.0) f n) (sym h.1)
            ∙ only (k d.0) f d.1 o f' s' d.3
        only (act a k) f s o f' s' d =
            only (k (answer_of literals a f (means s))) (frame_after a f) s o f' s' d
        only (done (comes_to q)) f s o f' s' d =
            ap (λ (p : Outcome). Some (p, f, means s)) (sym d.0)
            ∙ ap (λ (g : List Value). Some (o, g, means s)) (sym d.1)
            ∙ ap (λ (t : S). Some (o, f', means t)) (sym d.2)
        only (done stuck) f s o f' s' d = absurd d

        -- what is computed may come
        comes : (c : Script) (f : List Value) (s : S) (w : Reached Outcome)
            → played literals c f (means s) ≡ Some w
            → (o : Outcome) × (f' : List Value) × (s' : S) × Exec literals means may c f s o f' s'
        comes (act (write_row r i v) k) f s w e =
            let t = laws.writes s r i v in
            let x = comes (k tt) f t.0 w (ap (λ n. played literals (k tt) f n) t.1 ∙ e) in
            (x.0, x.1, x.2, (t.0, t.1, x.3))
        comes (act (send m) k) f s w e =
            let x = comes (k (reply m)) f s w e in
            (x.0, x.1, x.2, (reply m, s, laws.comes s m, x.3))
        comes (act a k) f s w e =
            comes (k (answer_of literals a f (means s))) (frame_after a f) s w e
        comes (done (comes_to q)) f s w e = (q, f, s, (refl, refl, refl))
        comes (done stuck) f s w e = absurd (none-some e)

      module _ (run : RunView) (f : List Value) (s : S) where
        -- something may come of a step that is computed
        step_comes_by : (x : Option Fault) (p : Option (Reached Outcome)) (w : Reached RunView)
            → played run.parts.literals (next_script run) f (means s) ≡ p
            → stepped_unless x run f (means s) ≡ Some w
            → (a : CallAnswer) × (run' : RunView) × (f' : List Value) × (s' : S)
            × StepUnless means may x run f s a run' f' s'
        step_comes_by (Some x) p w q e = absurd (none-some e)
        step_comes_by None None w q e =
            absurd (none-some
            (sym (ap (λ p. on_with p (λ (w : Reached Outcome). Some (moved run w.0, w.1, w.2))) q) ∙ e))
        step_comes_by None (Some u) w q e =
            let x = comes run.parts.literals (next_script run) f s u q in
            (Ok tt, moved run x.0, x.1, x.2, (x.0, refl, refl, x.3))

        step_comes : (w : Reached RunView) → stepped run f (means s) ≡ Some w
            → MayStep means may run f s
        step_comes w e =
            step_comes_by (first (step_tests run f (means s)))
            (played run.parts.literals (next_script run) f (means s)) w refl e

        -- whatever may come of a step is what is computed
        step_only : (x : Option Fault) (w : Reached RunView) (a : CallAnswer) (run' : RunView)
            (f' : List Value) (s' : S)
            → stepped_unless x run f (means s) ≡ Some w
            → StepUnless means may x run f s a run' f' s'
            → (a ≡ Ok tt) × ((run', f', means s') ≡ w)
        step_only (Some x) w a run' f' s' e d = absurd (none-some e)
        step_only None w a run' f' s' e d =
            let x = only run.parts.literals (next_script run) f s d.0 f' s' d.3 in
            let y : Some (moved run d.0, f', means s') ≡ Some w =
            sym (ap (λ p. on_with p (λ (w : Reached Outcome). Some (moved run w.0, w.1, w.2))) x) ∙ e in (
              d.1,
              ap (λ (r : RunView). (r, f', means s')) d.2
                  ∙ some-inj (moved run d.0, f', means s') w y,
            )

      -- what is reached is w
      abbrev pub Comes : Reached RunView → RunView → List Value → S → Type 0
      Comes w run' f' s' = (run' ≡ w.0) × (f' ≡ w.1) × (means s' ≡ w.2)

      mutual-steps : (k : ℕ) (run : RunView) (f : List Value) (s : S) (w : Reached RunView)
          (q : Option (Reached RunView)) → stepped run f (means s) ≡ q
          → on_with q (λ u. steps_of k u.0 u.1 u.2) ≡ Some w
          → ((run' : RunView) (f' : List Value) (s' : S)
          → steps_of k run' f' (means s') ≡ Some w → AfterSteps means may k run' f' s' (Comes w))
          → AfterSteps means may (suc k) run f s (Comes w)
      mutual-steps k run f s w None p e more = absurd (none-some e)
      mutual-steps k run f s w (Some u) p e more = (
        step_comes run f s u p,
        λ a run' f' s' d.
            let x = step_only run f s (first (step_tests run f (means s))) u a run' f' s' p d in
            (x.0, more run' f' s' (ap (λ (z : Reached RunView). steps_of k z.0 z.1 z.2) x.1 ∙ e)),
      )

      pub after_steps : (k : ℕ) (run : RunView) (f : List Value) (s : S) (w : Reached RunView)
          → steps_of k run f (means s) ≡ Some w → AfterSteps means may k run f s (Comes w)
      after_steps zero run f s w e =
          let x = some-inj (run, f, means s) w e in
          (ap (λ z. z.0) x, ap (λ z. z.1) x, ap (λ z. z.2) x)
      after_steps (suc k) run f s w e =
          mutual-steps k run f s w (stepped run f (means s)) refl e (λ run' f' s' h.
          after_steps k run' f' s' w h)

      module _ (s : S) (x : Value) (f : List Value) where
        -- what a row's run is computed to, and what the row says
        abbrev pub computed : RunRow → Option (Reached RunView)
        computed r =
            let o = opening (means s) r.parcel x f in steps_of r.steps o.run o.frame (means s)

        abbrev pub expected : RunRow → Option (Reached RunView)
        expected r =
            let o = opening (means s) r.parcel x f in
            Some (
              record o.run { state = r.state; place = r.place; height = r.height },
              r.frame,
              r.host,
            )

        holds : (r : RunRow) → computed r ≡ expected r → RowHolds means may s x f r
        holds r e =
            let o = opening (means s) r.parcel x f in
            after_steps r.steps o.run o.frame s
            (record o.run { state = r.state; place = r.place; height = r.height }, r.frame, r.host) e

        abbrev head-or : {X : Type 0} → X → List X → X
        head-or d [] = d
        head-or d (y ∷ ys) = y

        abbrev tail-of : {X : Type 0} → List X → List X
        tail-of [] = []
        tail-of (y ∷ ys) = ys

        -- rows that are computed to what they say hold
        pub rows_hold : (rs : List RunRow) → map computed rs ≡ map expected rs
            → EveryRow means may s x f rs
        rows_hold [] e = tt
        rows_hold (r ∷ rs) e =
            (holds r (ap (head-or None) e), rows_hold rs (ap tail-of e))
