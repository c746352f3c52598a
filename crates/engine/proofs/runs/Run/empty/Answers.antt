use Rattle.safety.proofs.Working.{worked_runs}
use Rattle.engine.proofs.runs.Run.empty.Goals as goal

pub returns-clause-worked : goal.returns-clause-worked
returns-clause-worked c = worked_runs
