-- The line of a verdict.
use Rattle.std.specs.Prelude.{ℕ, List, ◌++◌, Ok, Err, Result, codes, decimal}
use Rattle.values.specs.Faults.{fault_text}
use Rattle.values.specs.declared.faults.Fault.{Fault}
use Rattle.listing.specs.declared.verdicts.Verdict.{Verdict}

-- `accepted H`, or `refused N at P`, in bytes
abbrev pub line_of : Result ℕ Fault → List ℕ
line_of (Ok h) = codes "accepted " ++ decimal h
line_of (Err f) = fault_text f

-- the line of a verdict
abbrev pub line : Verdict → List ℕ
line v = line_of v.0
