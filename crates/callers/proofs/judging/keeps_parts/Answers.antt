use Rattle.std.proofs.Common.{refl, ap, ◌∙◌}
use Rattle.callers.specs.Judging.{before_lists}
use Rattle.callers.proofs.JudgingVerdicts.{keeps_by_stage}
use Rattle.callers.proofs.judging.keeps_parts.Goals as goal

pub returns-in-Ok : goal.returns-in-Ok
returns-in-Ok g c =
    let k = c.check.ensures.means.keeps c.in-Ok.field-0 c.in-Ok.is in
    ((λ e. (k.0.in_header, k.0.in_flags, k.0.in_literals)), (λ x. refl))

pub returns-in-Err : goal.returns-in-Err
returns-in-Err g c =
    keeps_by_stage _ _ c.check.ensures.means refl refl c.in-Err.fault c.in-Err.is c.is_before_lists.result
    (c.is_before_lists.ensures ∙ ap before_lists c.stage.ensures)
