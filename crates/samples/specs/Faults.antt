-- Faults in the numbers of their table.
use Rattle.std.specs.Prelude.{ℕ, Ok, Err, Result}
use Rattle.values.specs.Faults.{rule_number}
use Rattle.values.specs.declared.faults.Fault.{Fault}

-- an answer, with a fault as its number and its place
abbrev pub numbered : {X : Type 0} → Result X Fault → Result X (ℕ × ℕ)
numbered (Ok x) = Ok x
numbered (Err f) = Err (rule_number f.rule, f.place)
