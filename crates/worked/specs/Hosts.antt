-- The hosts that runs are worked out over.
use Rattle.std.specs.Prelude.{◌≡◌, true, false, []}
use Rattle.values.specs.declared.kinds.Value.{Value}
use Rattle.values.specs.declared.kinds.Value.TheVariants.{Object}
use Rattle.hosts.specs.Meaning.{Meaning, Sent}
use Rattle.week_file.specs.Files.{week_meaning}
use Rattle.listing.specs.Listed.{fixed_week}

-- what the fixed week file means
abbrev pub fixed_meaning : Meaning
fixed_meaning = week_meaning fixed_week

-- a host without cells that understands nothing
abbrev pub deaf : Meaning
deaf = record { receiver = Object 0; variables = []; bindings = []; understands = λ _. false }

-- of no message anything may come
abbrev pub no_answer : Unit {0} → Sent → Value → Unit {0} → Type 0
no_answer _ _ _ _ = ⊥

-- a host without cells that understands everything
abbrev pub willing : Meaning
willing = record deaf { understands = λ _. true }

-- it answers each message by what tell says of it
abbrev pub told : (Sent → Value) → Unit {0} → Sent → Value → Unit {0} → Type 0
told tell _ m v _ = v ≡ tell m
