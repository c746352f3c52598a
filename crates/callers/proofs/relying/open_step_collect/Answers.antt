use Rattle.engine.specs.View.{view}
use Rattle.callers.specs.Relying.{GoesOn}
use Rattle.callers.proofs.Keeping.{goes_on, stays_alike}
use Rattle.callers.proofs.relying.open_step_collect.Given.{Over}
use Rattle.callers.proofs.relying.open_step_collect.Goals as goal
use Rattle.callers.proofs.relying.open_step_collect.Goals.{After-collect}

-- the four calls, one after the other
on : (g : Over) (c : After-collect g) → GoesOn g.H.Host.means g.H.Host.may c.args.host.now c.step.new.host
on g c =
    goes_on g.H.Host.means g.H.Host.may c.args.host.now c.step.new.host (view c.empty-run.result) (view c.open.new.self)
    (view c.step.new.self) c.empty-run.ensures.run c.open.ensures.extends c.step.ensures.extends c.collect.ensures.extends

pub returns-clause-goes_on : goal.returns-clause-goes_on
returns-clause-goes_on g c = on g c

pub returns-clause-alike : goal.returns-clause-alike
returns-clause-alike g c = stays_alike g.H.Host.means g.H.Host.may c.args.host.now c.step.new.host c.step.ensures.safe (on g c)
