use Rattle.std.proofs.Common.{◌≡◌, ◌-◌, length}
use Rattle.stages.specs.Contexts.{context_of}
use Rattle.stages.proofs.SweepSteps.{SweptSofar}
use Rattle.stages.proofs.contexts.Context.sweep.Given as goal

abbrev pub invariant-loop-reader : goal.invariant-loop-reader
invariant-loop-reader g l =
    SweptSofar (context_of g.H.Host.means l.self) l.after_block l.reader.place
    × (l.reader.code.now ≡ l.self.parcel.code.now)

abbrev pub decreases-loop-reader : goal.decreases-loop-reader
decreases-loop-reader g l = length l.self.parcel.code.now - l.reader.place
