use Rattle.planning.proofs.Asking.{made_anyway}
use Rattle.planning.proofs.program.run.Goals as goal

pub returns : goal.returns
returns c = made_anyway c.run_planned.result (c.in_ok-options.options, c.in_ok-options.ensures)
