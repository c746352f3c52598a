-- What a week file answers to a message.
use Rattle.std.specs.Prelude.{ℕ, Bool, not, ◌&&◌, List, [], ◌∷◌, Some, None, Option, ◌==◌, if◌then◌else◌}
use Rattle.values.specs.Kinds.{kind_number, number_field, truth}
use Rattle.values.specs.declared.kinds.Value.{Value}
use Rattle.values.specs.declared.kinds.Value.TheVariants.{Nil}
use Rattle.hosts.specs.Meaning.{Sent}

-- two values have one kind and one number
abbrev pub same_value : Value → Value → Bool
same_value v w = kind_number v == kind_number w && number_field v == number_field w

-- to selector s without arguments: 20 is nil, 21 is not nil, 25 answers nil
abbrev pub reply_to_none : ℕ → Value → Option Value
reply_to_none s v =
    if s == 20 then Some (truth (same_value v Nil))
    else if s == 21 then Some (truth (not (same_value v Nil)))
    else if s == 25 then Some Nil
    else None

-- to selector s with one argument: 24 is the same
abbrev pub reply_to_one : ℕ → Value → Value → Option Value
reply_to_one s v w = if s == 24 then Some (truth (same_value v w)) else None

-- by the number of arguments
abbrev pub reply_to : ℕ → Value → List Value → Option Value
reply_to s v [] = reply_to_none s v
reply_to s v (w ∷ []) = reply_to_one s v w
reply_to s v _ = None

-- the answer to a message, if it is understood; none is that is sent to super
abbrev pub replies : Sent → Option Value
replies m = if m.super then None else reply_to m.selector m.receiver m.arguments
