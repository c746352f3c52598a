use Rattle.std.proofs.Common.{sym, ◌∙◌, rules}
use Rattle.engine.specs.View.{view}
use Rattle.callers.proofs.Leaning.{seen_right}
use Rattle.callers.proofs.relying.step_and_look.Goals as goal

pub returns-clause-seen : goal.returns-clause-seen
returns-clause-seen g c = λ x.
    let right = seen_right g.H.Host.means g.H.Host.may c.step.ensures.safe c.args.host.now c.step.new.host (view c.args.run.now) (view c.step.new.self) c.step.ensures.extends x (sym c.state.ensures ∙ c.in-Live.is) in
    search rules
