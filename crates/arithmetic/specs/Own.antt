-- What the layer answers itself.
use Rattle.std.specs.Prelude.{ℕ, List, [], ◌∷◌, None, Option, if◌then◌else◌}
use Rattle.values.specs.declared.kinds.Value.{Value}
use Rattle.values.specs.declared.kinds.Value.TheVariants.{Integer}
use Rattle.hosts.specs.Meaning.{Sent}
use Rattle.arithmetic.specs.Operators.{between}

-- between two small integers and no other values
abbrev pub by_values : ℕ → Value → Value → Option Value
by_values s (Integer x) (Integer y) = between s x.value y.value
by_values s _ _ = None

-- with exactly one argument
abbrev pub by_arguments : ℕ → Value → List Value → Option Value
by_arguments s v (w ∷ []) = by_values s v w
by_arguments s v _ = None

-- the answer of the layer itself, if it has one; it has none to what is sent to super
abbrev pub own_answer : Sent → Option Value
own_answer m = if m.super then None else by_arguments m.selector m.receiver m.arguments
