-- What the words of a command line ask for.
use Rattle.std.specs.Prelude.{◌≡◌, ℕ, ◌<◌, Bool, true, false, List, [], ◌∷◌, ◌++◌, map, ℤ, Some, None, Option, vec_items, vec_len, string_bytes, codes, String}
use Rattle.values.specs.declared.kinds.Value.{Value}
use Rattle.planning.specs.Words.{Is, Count, Number, ArgumentOf}
use Rattle.planning.specs.declared.options.Awaited.{Awaited}
use Rattle.planning.specs.declared.options.Awaited.TheVariants.{Steps, Argument}
use Rattle.planning.specs.declared.options.Draft.{Draft}
use Rattle.planning.specs.declared.options.Options.{Options}
use Rattle.planning.specs.declared.options.Plan.{Plan}
use Rattle.planning.specs.declared.options.Word.TheVariants.{Path}

-- the bytes of each text
abbrev pub texts_of : {Z : Type 0} → List (String Z) → List (List ℕ)
texts_of ss = map string_bytes ss

-- the words ask for a trace or not, for trust or not, for so many steps, and for arguments and
-- paths in order
pub data Asks : List (List ℕ) → Bool → Bool → ℕ → List Value → List (List ℕ) → Type 0 where
  none : Asks [] false false 1000000 [] []
  trace : {ws ps : List (List ℕ)} {t u : Bool} {n : ℕ} {vs : List Value} → Asks ws t u n vs ps
      → Asks (ws ++ (codes "--trace" ∷ [])) true u n vs ps
  trusted : {ws ps : List (List ℕ)} {t u : Bool} {n : ℕ} {vs : List Value} → Asks ws t u n vs ps
      → Asks (ws ++ (codes "--trusted" ∷ [])) t true n vs ps
  steps : {ws ps : List (List ℕ)} {t u : Bool} {n : ℕ} {vs : List Value} → Asks ws t u n vs ps
      → (w : List ℕ) (k : ℕ) → Count w k → Asks (ws ++ (codes "--steps" ∷ w ∷ [])) t u k vs ps
  argument : {ws ps : List (List ℕ)} {t u : Bool} {n : ℕ} {vs : List Value} → Asks ws t u n vs ps
      → (w : List ℕ) (z : ℤ) (v : Value) → Number w z → ArgumentOf z v
      → Asks (ws ++ (codes "--argument" ∷ w ∷ [])) t u n (vs ++ (v ∷ [])) ps
  path : {ws ps : List (List ℕ)} {t u : Bool} {n : ℕ} {vs : List Value} → Asks ws t u n vs ps
      → (w : List ℕ) → Is w Path → Asks (ws ++ (w ∷ [])) t u n vs (ps ++ (w ∷ []))

-- the words ask for a plan and paths
abbrev pub AsksFor : List (List ℕ) → Plan → List (List ℕ) → Type 0
AsksFor ws p ps = Asks ws p.trace p.trusted p.steps (vec_items p.arguments) ps

-- the same, where an option that awaits its number may stand last
abbrev pub AsksSoFar : Option Awaited → List (List ℕ) → Plan → List (List ℕ) → Type 0
AsksSoFar None ws p ps = AsksFor ws p ps
AsksSoFar (Some Steps) ws p ps =
    (before : List (List ℕ)) × (ws ≡ before ++ (codes "--steps" ∷ [])) × AsksFor before p ps
AsksSoFar (Some Argument) ws p ps =
    (before : List (List ℕ)) × (ws ≡ before ++ (codes "--argument" ∷ [])) × AsksFor before p ps

-- a draft is what the words so far ask for
abbrev pub Drafted : Draft → List (List ℕ) → Type 0
Drafted d ws = AsksSoFar d.awaited ws d.plan (texts_of (vec_items d.paths))

-- a draft goes on with a word
abbrev pub GoesOnWith : List ℕ → Draft → Draft → Type 0
GoesOnWith w d d' = (ws : List (List ℕ)) → Drafted d ws → Drafted d' (ws ++ (w ∷ []))

-- the words give options: the first path is the week file, and the others are parcels, one at least
pub record Gives (ws : List (List ℕ)) (o : Options) : Type 0 where
  pub asked : AsksFor ws o.plan (string_bytes o.week ∷ texts_of (vec_items o.parcels))
  pub some : 0 < vec_len o.parcels

-- the words give options
abbrev pub Sensible : List (List ℕ) → Type 0
Sensible ws = (o : Options) × Gives ws o
