-- What sets an exact history apart.
use Rattle.std.proofs.Common.{◌≡◌, ℕ, zero, suc, Bool, true, false, [], ◌∷◌, ◌++◌, slice_set, Option, refl}
use Rattle.std.proofs.lemmas.Option.{none-some}
use Rattle.hosts.specs.Meaning.{Meaning, Sent}
use Rattle.values.specs.declared.kinds.Value.{Value}
use Rattle.semantics.specs.Steps.{RunView}
use Rattle.safety.specs.Histories.{HeldRuns, Holds, takes, opens, steps, collects, History, new, called, altered}

-- where a run is held, it is held in some place
held_somewhere : (rs : HeldRuns) (k : ℕ) (run : RunView) (x : Option RunView) → Holds rs k run → slice_set rs k x ≡ [] → ⊥
held_somewhere [] k run x at e = none-some run at
held_somewhere (y ∷ rs) zero run x at e = absurd cc
held_somewhere (y ∷ rs) (suc k) run x at e = absurd cc

taken_somewhere : (rs : HeldRuns) (x : Option RunView) → rs ++ (x ∷ []) ≡ [] → ⊥
taken_somewhere [] x e = absurd cc
taken_somewhere (y ∷ rs) x e = absurd cc

module _ {S : Type 0} (means : S → Meaning) (may : S → Sent → Value → S → Type 0) where
  -- what an exact history may be, any may be
  pub inexact : {exact : Bool} {s₀ s : S} {rs : HeldRuns} → History means may exact s₀ s rs → History means may false s₀ s rs
  inexact new = new
  inexact (called past call) = called (inexact past) call
  inexact (altered x past e) = altered refl (inexact past) e

  -- where no run is held, there was no call
  pub untouched : (s₀ s : S) (rs : HeldRuns) → rs ≡ [] → History means may true s₀ s rs → s ≡ s₀
  untouched s₀ s rs e new = refl
  untouched s₀ s rs e (called {rs = qs} past takes) = absurd (taken_somewhere qs _ e)
  untouched s₀ s rs e (called {rs = qs} past (opens k run at t b hs ws args f)) = absurd (held_somewhere qs k run _ at e)
  untouched s₀ s rs e (called {rs = qs} past (steps k run run' at s' f f' a st)) = absurd (held_somewhere qs k run _ at e)
  untouched s₀ s rs e (called {rs = qs} past (collects k run at)) = absurd (held_somewhere qs k run _ at e)
  untouched s₀ s rs e (altered x past q) = absurd cc
