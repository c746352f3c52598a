use Rattle.worked.proofs.Working.{worked_examples}
use Rattle.worked.proofs.examples.worked_examples.Goals as goal

pub returns-clause-hold : goal.returns-clause-hold
returns-clause-hold c = worked_examples
