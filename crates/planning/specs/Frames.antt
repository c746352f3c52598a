-- The frame of a parcel.
use Rattle.std.specs.Prelude.{ℕ, List, replicate, Ok, Err, Result}
use Rattle.values.specs.declared.faults.Fault.{Fault}
use Rattle.values.specs.declared.kinds.Value.{Value}
use Rattle.values.specs.declared.kinds.Value.TheVariants.{Nil}
use Rattle.parcels.specs.Parts.{Parts, parts_of}
use Rattle.semantics.specs.Steps.{frame_cells}

-- how many cells a parcel's frame has, none where the header or the flags are refused
abbrev pub cells_in : Result Parts Fault → ℕ
cells_in (Ok p) = frame_cells p
cells_in (Err f) = 0

-- as many cells as the arguments and the slots take, and all nil
abbrev pub frame_of : List ℕ → List Value
frame_of b = replicate (cells_in (parts_of b)) Nil
