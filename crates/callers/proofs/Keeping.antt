-- A call after another extends every history.
use Rattle.std.proofs.Common.{◌≡◌, Bool, List, [], ◌∷◌, ◌++◌, length, slice_set, Some, None, Option, refl, sym, ap, subst}
use Rattle.hosts.specs.Meaning.{Meaning, Sent}
use Rattle.values.specs.declared.kinds.Value.{Value}
use Rattle.semantics.specs.Opening.{empty}
use Rattle.semantics.specs.Steps.{RunView}
use Rattle.safety.specs.Histories.{HeldRuns, Holds, takes, History, called, ExtendsHistory, EveryHistoryIsSafe}
use Rattle.callers.specs.Relying.{GoesOn, StaysAlike}

-- the last of a list is set
last_set : {X : Type 0} (xs : List X) (a b : X) → slice_set (xs ++ (a ∷ [])) (length xs) b ≡ xs ++ (b ∷ [])
last_set [] a b = refl
last_set (x ∷ xs) a b = ap (λ ys. x ∷ ys) (last_set xs a b)

-- and read
last_held : (rs : HeldRuns) (run : RunView) → Holds (rs ++ (Some run ∷ [])) (length rs) run
last_held [] run = refl
last_held (x ∷ rs) run = last_held rs run

module _ {S : Type 0} (means : S → Meaning) (may : S → Sent → Value → S → Type 0) where
  -- a call on the last of the runs that are held
  extended : (exact : Bool) (s₀ s s' : S) (rs : HeldRuns) (run : RunView) (left : Option RunView)
      → ExtendsHistory means may s run s' left → History means may exact s₀ s (rs ++ (Some run ∷ []))
      → History means may exact s₀ s' (rs ++ (left ∷ []))
  extended exact s₀ s s' rs run left on past =
      subst (λ (qs : HeldRuns). History means may exact s₀ s' qs) (last_set rs (Some run) left)
      (on exact s₀ (rs ++ (Some run ∷ [])) (length rs) past (last_held rs run))

  -- a new run is opened, stepped and collected
  pub goes_on : (s s' : S) (run opened stepped : RunView) → run ≡ empty
      → ExtendsHistory means may s run s (Some opened) → ExtendsHistory means may s opened s' (Some stepped)
      → ExtendsHistory means may s' stepped s' None → GoesOn means may s s'
  goes_on s s' run opened stepped e opens steps collects exact s₀ rs past =
      let taken = subst (λ (r : RunView). History means may exact s₀ s (rs ++ (Some r ∷ []))) (sym e) (called past takes) in
      extended exact s₀ s' s' rs stepped None collects
      (extended exact s₀ s s' rs opened (Some stepped) steps (extended exact s₀ s s rs run (Some opened) opens taken))

  pub stays_alike : (s s' : S) → EveryHistoryIsSafe means may → GoesOn means may s s' → StaysAlike means may s s'
  stays_alike s s' safe on exact s₀ rs past = (safe exact s₀ s' (rs ++ (None ∷ [])) (on exact s₀ rs past)).unchanged
