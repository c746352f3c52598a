use Rattle.std.proofs.Common.{vec_items, ap, ◌∙◌}
use Rattle.std.specs.Prelude.{IsTrue}
use Rattle.engine.specs.View.{view}
use Rattle.week_file.specs.Files.{accepted}
use Rattle.callers.proofs.Staying.{step_stays}
use Rattle.callers.proofs.files.stepped_file.Goals as goal

pub returns : goal.returns
returns c = λ a w.
    let opened = ap vec_items c.open-file.ensures.holds in
    let good : IsTrue (accepted (vec_items c.open-file.result.bytes)) = ap accepted opened ∙ a in
    let stays = step_stays c.open-file.ensures.settles (view c.args.run.now) (view c.step.new.self)
    c.args.frame.now c.step.new.frame c.open-file.result c.step.new.host c.step.result c.step.ensures.steps good w in
    ap vec_items c.into_bytes.ensures ∙ stays ∙ opened
