use Rattle.values.proofs.Parts.{read_back}
use Rattle.values.proofs.kinds.Value.from_parts.Goals as goal

pub returns : goal.returns
returns c = record { made = c.of_kind.ensures; back = read_back }
