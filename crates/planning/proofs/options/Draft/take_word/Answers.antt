use Rattle.planning.proofs.Asking.{traced, trusting}
use Rattle.planning.proofs.options.Draft.take_word.Goals as goal

pub returns-in-Trace : goal.returns-in-Trace
returns-in-Trace c = traced c.args.word.now c.args.self.now c.requires c.in-Trace.ensures

pub returns-in-Trusted : goal.returns-in-Trusted
returns-in-Trusted c = trusting c.args.word.now c.args.self.now c.requires c.in-Trusted.ensures
