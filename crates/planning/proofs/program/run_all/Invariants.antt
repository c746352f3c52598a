use Rattle.planning.specs.Keeping.{StaysWithin}
use Rattle.planning.specs.Turns.{InTurn}
use Rattle.planning.proofs.program.run_all.Given as goal

abbrev pub invariant-loop-path : goal.invariant-loop-path
invariant-loop-path g l =
    StaysWithin l.plan (g.H.Host.means l.initial.host) (g.H.Host.means l.host)
    × InTurn g.H.Host.means g.H.Host.may l.plan l.initial.host l.path-index l.host
