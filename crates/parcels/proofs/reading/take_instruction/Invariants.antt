use Rattle.std.proofs.Common.{◌-◌}
use Rattle.parcels.proofs.Pairs.{ReadSofar}
use Rattle.parcels.specs.declared.reading.TheConstants.{MAX_EXTENSIONS}
use Rattle.parcels.proofs.reading.take_instruction.Given as goal

abbrev pub invariant-loop-rest : goal.invariant-loop-rest
invariant-loop-rest l = ReadSofar l.code l.rest l.argument l.pairs

abbrev pub decreases-loop-rest : goal.decreases-loop-rest
decreases-loop-rest l = MAX_EXTENSIONS - l.pairs
