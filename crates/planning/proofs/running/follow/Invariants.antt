use Rattle.engine.specs.View.{view}
use Rattle.planning.specs.Keeping.{LeadsOn, Going, Stepped}
use Rattle.planning.proofs.running.follow.Given as goal

abbrev pub invariant-loop-k : goal.invariant-loop-k
invariant-loop-k g l =
    LeadsOn g.H.Host.means g.H.Host.may l.initial.host (view l.initial.run) l.host (view l.run)
    × Going g.H.Host.means g.H.Host.may l.host (view l.run) l.frame
    × Stepped g.H.Host.means g.H.Host.may l.initial.host (view l.initial.run) l.initial.frame l.k l.host (view l.run) l.frame
