use Rattle.engine.specs.View.{view}
use Rattle.callers.proofs.Leaning.{sheet_stays, regardless}
use Rattle.callers.proofs.relying.step_beside_totals.Goals as goal

pub returns-clause-stays : goal.returns-clause-stays
returns-clause-stays g c =
    sheet_stays g.H.Host.means g.H.Host.may c.step.ensures.safe c.args.host.now c.step.new.host (view c.args.run.now) (view c.step.new.self)
    c.args.sheet.now c.step.new.frame c.step.result c.step.ensures.steps

pub returns-clause-regardless : goal.returns-clause-regardless
returns-clause-regardless g c =
    regardless g.H.Host.means g.H.Host.may c.step.ensures.safe c.args.host.now c.step.new.host (view c.args.run.now) (view c.step.new.self)
    c.args.sheet.now c.step.new.frame c.step.result c.step.ensures.steps
