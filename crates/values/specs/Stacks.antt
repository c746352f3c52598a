-- What stands on top of a stack.
use Rattle.std.specs.Prelude.{◌≡◌, ℕ, ◌-◌, ◌<◌, ◌≤◌, ◌⊎◌, List, length, Some, None, Option, slice_index_or}

-- r is the top of the first h cells; there is none where h is 0 or above the number of cells
abbrev pub OnTop : {X : Type 0} → List X → ℕ → Option X → Type 0
OnTop xs h None = (h ≡ 0) ⊎ (length xs < h)
OnTop xs h (Some x) = (0 < h) × (h ≤ length xs) × (x ≡ slice_index_or xs (h - 1) x)
