use Rattle.std.proofs.Common.{sym, subst}
use Rattle.semantics.specs.Steps.{RunView}
use Rattle.engine.specs.Decoding.{ContinuesReady}
use Rattle.engine.specs.View.{view}
use Rattle.engine.proofs.Leading.{led}
use Rattle.engine.proofs.runs.Run.step_once.Goals as goal

pub settle-requires-clause-ready : goal.settle-requires-clause-ready
settle-requires-clause-ready g c =
    subst (λ (r : RunView). ContinuesReady r c.in_ok-performed.performed) (sym c.in_ok-performed.ensures.run)
    (led g.H.Host.means g.H.Host.may (view c.args.self.now) c.peek-next.result c.args.frame.now c.args.host.now c.in_ok-performed.performed c.perform.new.frame c.perform.new.host
    c.peek-next.ensures c.args.self.now.ready c.in_ok-performed.ensures.result)
