use Rattle.stages.specs.Check.{question_on}
use Rattle.callers.proofs.JudgingVerdicts.{refusal_told}
use Rattle.callers.proofs.judging.refusal_of.Goals as goal

pub returns-clause-told : goal.returns-clause-told
returns-clause-told g c =
    let q = question_on (g.H.Host.means c.args.host.now) c.args.trusted c.args.bytes.now c.args.heights.now c.args.waiting.now in
    refusal_told q _ c.check.ensures.means c.err.result c.err.ensures.value
