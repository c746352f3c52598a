use Rattle.std.proofs.Common.{◌+◌, length}
use Rattle.stages.specs.Examination.{examined}
use Rattle.stages.proofs.Worklist.{blanks, work, ExaminedSofar, ReachedSofar}
use Rattle.stages.proofs.heights.examine.Given as goal

abbrev pub invariant-examine : goal.invariant-examine
invariant-examine l =
    ExaminedSofar l.code l.limit (examined l.code l.limit l.fn.heights)
    l.heights l.stack.cells.now l.stack.height

abbrev pub invariant-loop-to : goal.invariant-loop-to
invariant-loop-to l =
    ReachedSofar (length l.code) l.place l.height l.to-items l.to-index
    (work l.initial.heights l.initial.stack.cells.now l.initial.stack.height)
    (l.initial.stack.height + blanks l.initial.heights)
    l.heights l.stack.cells.now l.stack.height

abbrev pub decreases-examine : goal.decreases-examine
decreases-examine l = l.stack.height + blanks l.heights
