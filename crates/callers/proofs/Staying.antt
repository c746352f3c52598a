-- A week file that a step stores nothing in stays as it is.
use Rattle.std.proofs.Common.{◌≡◌, ℕ, true, false, Bool, List, Some, None, Option, ap, ◌∙◌}
use Rattle.std.specs.Prelude.{IsTrue, MatchBool, MatchOption}
use Rattle.values.specs.Order.{first}
use Rattle.values.specs.declared.faults.Fault.{Fault}
use Rattle.values.specs.declared.kinds.Value.{Value}
use Rattle.hosts.specs.Meaning.{Meaning, Sent, Answered}
use Rattle.parcels.specs.Literals.{literal}
use Rattle.semantics.specs.Execution.{answer_of, frame_after, Exec, Everywhere}
use Rattle.semantics.specs.Scripts.{Script, act, done, comes_to, stuck, Outcome, read_literal, write_row, send}
use Rattle.semantics.specs.Steps.{RunView, CallAnswer, StepUnless, Step, step_tests, next_script}
use Rattle.week_file.specs.Files.{accepted, week_meaning, Replied}
use Rattle.week_file.specs.Laws.{MeaningSettlesBytes}
use Rattle.week_file.specs.declared.file.WeekFile.{WeekFile}
use Rattle.callers.specs.Files.{NoStore, StoresInNoRow}

-- what a file means as a host, and what may come of a message to it
abbrev means : WeekFile → Meaning
means s = week_meaning s.bytes.items

abbrev may : WeekFile → Sent → Value → WeekFile → Type 0
may s m v t = Replied s.bytes.items m v t.bytes.items

module _ (settles : MeaningSettlesBytes) where
  -- a message leaves an accepted file
  sent_stays : (s t : WeekFile) (m : Sent) (r : Option Value) → IsTrue (accepted s.bytes.items)
      → Answered means may s m r t → t.bytes.items ≡ s.bytes.items
  sent_stays s t m r a h = by ((means s).understands m) r h
    where
      by : (u : Bool) (r : Option Value)
          → MatchBool u (MatchOption r ⊥ (λ v. may s m v t)) ((r ≡ None) × (means t ≡ means s))
          → t.bytes.items ≡ s.bytes.items
      by true (Some v) h = h.1
      by true None h = absurd h
      by false r h = settles s.bytes.items t.bytes.items s.fit t.fit a h.1

  -- and so does a script that stores in no row
  stays : (l : List ℕ) (x : Script) → Everywhere l NoStore (λ _. Unit {0}) x
      → (f f' : List Value) (s s' : WeekFile) (o : Outcome) → IsTrue (accepted s.bytes.items)
      → Exec l means may x f s o f' s' → s'.bytes.items ≡ s.bytes.items
  stays l (act (write_row r i v) k) w f f' s s' o a e = absurd w.0
  stays l (act (send m) k) w f f' s s' o a e =
      let same = sent_stays s e.1 m e.0 a e.2 in
      let still : IsTrue (accepted e.1.bytes.items) = ap accepted same ∙ a in
      stays l (k e.0) (w.1 e.0) f f' e.1 s' o still e.3 ∙ same
  stays l (act (read_literal i) k) w f f' s s' o a e =
      stays l (k (literal l i)) w.1 f f' s s' o a e
  stays l (act c k) w f f' s s' o a e =
      let x = answer_of l c f (means s) in
      stays l (k x) (w.1 x) (frame_after c f) f' s s' o a e
  stays l (done (comes_to q)) w f f' s s' o a e = ap (λ (t : WeekFile). t.bytes.items) e.2
  stays l (done stuck) w f f' s s' o a e = absurd e

  pub step_stays : (run run' : RunView) (f f' : List Value) (s s' : WeekFile) (c : CallAnswer)
      → Step means may run f s c run' f' s' → IsTrue (accepted s.bytes.items)
      → StoresInNoRow run → s'.bytes.items ≡ s.bytes.items
  step_stays run run' f f' s s' c st a w = by (first (step_tests run f (means s))) st
    where
      by : (t : Option Fault) → StepUnless means may t run f s c run' f' s'
          → s'.bytes.items ≡ s.bytes.items
      by (Some t) p = ap (λ (t : WeekFile). t.bytes.items) p.3
      by None p = stays run.parts.literals (next_script run) w f f' s s' p.0 a p.3
