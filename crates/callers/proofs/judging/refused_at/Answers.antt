use Rattle.std.proofs.Common.{sym, ◌∙◌, subst}
use Rattle.values.specs.declared.faults.Stage.{Stage}
use Rattle.stages.specs.Check.{question_on}
use Rattle.callers.specs.Judging.{KeptBefore}
use Rattle.callers.proofs.JudgingVerdicts.{kept_before_refusal, refused}
use Rattle.callers.proofs.judging.refused_at.Goals as goal

pub returns-clause-before : goal.returns-clause-before
returns-clause-before g c =
    let q = question_on (g.H.Host.means c.args.host.now) c.args.trusted c.args.bytes.now c.args.heights.now c.args.waiting.now in
    let e = refused c.check.result c.in_ok-err.field-0 (sym c.err.ensures.value ∙ c.in_ok-err.was) in
    subst (λ (s : Stage). KeptBefore q s) (sym c.stage.ensures)
    (kept_before_refusal q _ c.check.ensures.means c.in_ok-err.field-0 e)
