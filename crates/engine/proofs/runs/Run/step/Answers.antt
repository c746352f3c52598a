use Rattle.safety.specs.Histories.{called, steps}
use Rattle.safety.proofs.Safety.{every_history_is_safe}
use Rattle.engine.specs.View.{view}
use Rattle.engine.proofs.runs.Run.step.Goals as goal

pub returns-clause-extends : goal.returns-clause-extends
returns-clause-extends g c =
    λ exact s₀ rs k past held. called past (steps k (view c.args.self.now) (view c.step_once.new.self) held
    c.step_once.new.host c.args.frame.now c.step_once.new.frame c.step_once.result c.step_once.ensures)

pub returns-clause-safe : goal.returns-clause-safe
returns-clause-safe g c = every_history_is_safe g.H.Host.means g.H.Host.may g.met.H.Host.kept
