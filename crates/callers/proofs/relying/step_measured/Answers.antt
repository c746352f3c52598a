use Rattle.std.proofs.Common.{rules, sym, ◌∙◌}
use Rattle.engine.specs.View.{view}
use Rattle.callers.proofs.Leaning.{measured}
use Rattle.callers.proofs.relying.step_measured.Goals as goal

pub returns-clause-measured : goal.returns-clause-measured
returns-clause-measured g c =
    let m = measured g.H.Host.means g.H.Host.may c.step.ensures.safe c.args.host.now c.step.new.host (view c.args.run.now)
    (view c.step.new.self) c.args.frame.now c.step.new.frame c.step.result c.step.ensures.steps
    (sym c.state.ensures ∙ c.in-Live.is) (search rules) in
    (m.0, (λ j. (c.height-before.ensures j, c.height.ensures j)), m.2)
