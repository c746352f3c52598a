-- What callers of a step over a week file can rely on.
use Rattle.semantics.specs.Execution.{Everywhere}
use Rattle.semantics.specs.Scripts.{Access, write_row}
use Rattle.semantics.specs.Steps.{RunView, next_script}

-- an access is no store in a row of the host
abbrev pub NoStore : Access → Type 0
NoStore (write_row r i v) = ⊥
NoStore _ = Unit {0}

-- the next step of a run stores in no row of the host
abbrev pub StoresInNoRow : RunView → Type 0
StoresInNoRow run = Everywhere run.parts.literals NoStore (λ _. Unit {0}) (next_script run)
