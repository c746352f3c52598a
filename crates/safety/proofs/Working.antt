-- The worked runs, by computation.
use Rattle.std.proofs.Common.{refl, None}
use Rattle.parcels.specs.declared.opcodes.Ending.TheVariants.{Return}
use Rattle.semantics.specs.Scripts.{continues, ends, stops}
use Rattle.semantics.specs.declared.states.Stop.TheVariants.{NotUnderstood}
use Rattle.safety.specs.Histories.{short}
use Rattle.safety.specs.Worked.{WorkedRuns, value_1000}

pub worked_runs : WorkedRuns
worked_runs a b c d = (
  (refl, (continues 0 0, refl, refl, (refl, refl, refl))),
  (
    refl,
    (continues 4 1, refl, refl, (refl, refl, refl)),
    (ends Return value_1000, refl, refl, (refl, refl, refl)),
  ),
  (
    refl,
    short (record { rest = _; read = refl; known = refl }),
    (stops (NotUnderstood 17), refl, refl, (None, tt, (refl, refl), (refl, refl, refl))),
  ),
)
