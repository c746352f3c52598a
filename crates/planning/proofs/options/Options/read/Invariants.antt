use Rattle.std.proofs.Common.{take}
use Rattle.planning.specs.Commands.{texts_of, Drafted}
use Rattle.planning.proofs.options.Options.read.Given as goal

abbrev pub invariant-loop-word : goal.invariant-loop-word
invariant-loop-word l = Drafted l.draft (texts_of (take l.word-index l.words))
