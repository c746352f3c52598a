use Rattle.std.proofs.Common.{sym, ap, ◌∙◌}
use Rattle.stages.specs.Check.{question_on}
use Rattle.callers.specs.Judging.{height_of_start}
use Rattle.callers.proofs.Starting.{starts_low, accepted}
use Rattle.callers.proofs.judging.first_height.Goals as goal

pub returns : goal.returns
returns g c =
    let q = question_on (g.H.Host.means c.args.host.now) c.args.trusted c.args.bytes.now c.args.heights.now c.args.waiting.now in
    let e = accepted c.check.result c.in_ok-ok.field-0 (sym c.ok.ensures.value ∙ c.in_ok-ok.was) in
    c.copied.ensures ∙ c.first.ensures.value
    ∙ starts_low q _ c.check.ensures.means _ e c.check.auto.heights
    ∙ ap height_of_start c.check.ensures.verdict
