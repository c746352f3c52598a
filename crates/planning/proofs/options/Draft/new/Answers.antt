use Rattle.std.proofs.Common.{ap}
use Rattle.planning.specs.Commands.{texts_of}
use Rattle.planning.proofs.Asking.{nothing_said}
use Rattle.planning.proofs.options.Draft.new.Goals as goal

pub returns : goal.returns
returns c = nothing_said _ _ c.new.ensures.items (ap texts_of c.new-2.ensures.items)
