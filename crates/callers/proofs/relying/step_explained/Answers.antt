use Rattle.std.proofs.Common.{rules}
use Rattle.engine.specs.View.{view}
use Rattle.callers.proofs.Leaning.{not_refused, explained}
use Rattle.callers.proofs.relying.step_explained.Goals as goal

pub returns-in_err-step-clause-explained : goal.returns-in_err-step-clause-explained
returns-in_err-step-clause-explained g c =
    not_refused g.H.Host.means g.H.Host.may c.step.ensures.safe c.args.host.now c.step.new.host (view c.args.run.now) (view c.step.new.self)
    c.args.frame.now c.step.new.frame c.step.result c.step.ensures.steps c.in_err-step.field-0.0 c.in_err-step.was c.from_residual.result

pub returns-in-Stopped-clause-explained : goal.returns-in-Stopped-clause-explained
returns-in-Stopped-clause-explained g c =
    explained g.H.Host.means g.H.Host.may c.step.ensures.safe c.args.host.now c.step.new.host (view c.args.run.now) (view c.step.new.self)
    c.args.frame.now c.step.new.frame c.step.result c.step.ensures.steps _ (search rules)

pub returns-in-Live : goal.returns-in-Live
returns-in-Live g c = record {
  stepped = c.in_ok-step.ensures.steps;
  explained =
      explained g.H.Host.means g.H.Host.may c.step.ensures.safe c.args.host.now c.step.new.host (view c.args.run.now) (view c.step.new.self)
      c.args.frame.now c.step.new.frame c.step.result c.step.ensures.steps _ (search rules);
}
