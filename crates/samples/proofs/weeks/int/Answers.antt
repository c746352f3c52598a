use Rattle.std.proofs.Common.{refl, ap, ◌∙◌, w32}
use Rattle.std.proofs.lemmas.Int.{to_z-of_z}
use Rattle.values.specs.Low.{low31}
use Rattle.samples.proofs.weeks.int.Goals as goal

pub returns : goal.returns
returns c = (c.new.result, refl, c.new.ensures ∙ ap low31 (to_z-of_z w32 c.args.n c.ranges.n))
