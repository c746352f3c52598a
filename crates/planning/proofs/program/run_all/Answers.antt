use Rattle.planning.specs.Turns.{none, more}
use Rattle.planning.proofs.Leading.{keeps_same, keeps_on}
use Rattle.planning.proofs.program.run_all.Goals as goal

pub loop-path-init : goal.loop-path-init
loop-path-init g c = (keeps_same c.args.plan.now (g.H.Host.means c.args.host.now), none)

pub loop-path-preserved : goal.loop-path-preserved
loop-path-preserved g c = (
  keeps_on c.loop-path.invariant.0 c.run_parcel.ensures.within,
  more c.loop-path.invariant.1 c.deref-in-loop-path-2.result.now _ c.in_ok-run_parcel.ensures.handled,
)
