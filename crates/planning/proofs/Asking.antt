-- What one more word adds to a draft.
use Rattle.std.proofs.Common.{◌≡◌, ℕ, true, false, List, [], ◌∷◌, ◌++◌, ℤ, IfOk, Ok, Err, Some, None, vec_items, string_bytes, codes, Result, String, refl, ap, ◌∙◌, append_assoc}
use Rattle.values.specs.declared.kinds.Value.{Value}
use Rattle.planning.specs.Words.{Is, Count, Number, ArgumentOf}
use Rattle.planning.specs.Commands.{texts_of, Asks, GoesOnWith}
use Rattle.planning.specs.Commands as asks
use Rattle.planning.specs.declared.options.Awaited.TheVariants.{Steps, Argument}
use Rattle.planning.specs.declared.options.Draft.{Draft}
use Rattle.planning.specs.declared.options.Word.TheVariants.{Path}

-- the bytes of one text more
texts_push : {Z : Type 0} (ss : List (String Z)) (s : String Z) → texts_of (ss ++ (s ∷ [])) ≡ texts_of ss ++ (string_bytes s ∷ [])
texts_push [] s = refl
texts_push (x ∷ ss) s = ap (λ ws. string_bytes x ∷ ws) (texts_push ss s)

-- the same of what a push leaves
pub texts_pushed : {Z : Type 0} (ss ss' : List (String Z)) (s : String Z) (w : List ℕ) → ss' ≡ ss ++ (s ∷ []) → string_bytes s ≡ w → texts_of ss' ≡ texts_of ss ++ (w ∷ [])
texts_pushed ss ss' s w e q = ap texts_of e ∙ texts_push ss s ∙ ap (λ (y : List ℕ). texts_of ss ++ (y ∷ [])) q

-- what holds anyway holds where an answer is made
pub made_anyway : {X E P : Type 0} (r : Result X E) → P → IfOk r (λ _. P)
made_anyway (Ok x) p = p
made_anyway (Err e) p = tt

-- a draft with nothing in it
pub nothing_said : (vs : List Value) (ps : List (List ℕ)) → vs ≡ [] → ps ≡ [] → Asks [] false false 1000000 vs ps
nothing_said vs ps e q = rw (e, q) asks.none

-- an option and its number are two words
two : (ws before : List (List ℕ)) (o w : List ℕ) → ws ≡ before ++ (o ∷ []) → ws ++ (w ∷ []) ≡ before ++ (o ∷ w ∷ [])
two ws before o w e = ap (λ y. y ++ (w ∷ [])) e ∙ append_assoc before (o ∷ []) (w ∷ [])

module _ (w : List ℕ) (d : Draft) where
  pub traced : d.awaited ≡ None → w ≡ codes "--trace" → GoesOnWith w d (record d { plan = record d.plan { trace = true } })
  traced e i ws x = rw (e, i) (asks.trace (rw e at x))

  pub trusting : d.awaited ≡ None → w ≡ codes "--trusted" → GoesOnWith w d (record d { plan = record d.plan { trusted = true } })
  trusting e i ws x = rw (e, i) (asks.trusted (rw e at x))

  pub pathed : (paths : _) → d.awaited ≡ None → Is w Path → texts_of (vec_items paths) ≡ texts_of (vec_items d.paths) ++ (w ∷ []) → GoesOnWith w d (record d { paths = paths })
  pathed paths e i q ws x = rw (e, q) (asks.path (rw e at x) w i)

  pub counted : (k : ℕ) → d.awaited ≡ Some Steps → Count w k → GoesOnWith w d (record d { plan = record d.plan { steps = k }; awaited = None })
  counted k e i ws y = let x = rw e at y in rw (two ws x.0 (codes "--steps") w x.1) (asks.steps x.2 w k i)

  pub argued : (n : ℤ) (v : Value) (vs : _) → d.awaited ≡ Some Argument → Number w n → ArgumentOf n v → vec_items vs ≡ vec_items d.plan.arguments ++ (v ∷ [])
      → GoesOnWith w d (record d { plan = record d.plan { arguments = vs }; awaited = None })
  argued n v vs e i j q ws y = let x = rw e at y in rw (two ws x.0 (codes "--argument") w x.1, q) (asks.argument x.2 w n v i j)
