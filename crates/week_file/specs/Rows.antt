-- A cell of a row of a week file.
use Rattle.std.specs.Prelude.{ℕ, ◌+◌, ◌*◌, List, Ok, Err, Result, nat_lt, if◌then◌else◌}
use Rattle.values.specs.declared.faults.Fault.{Fault}
use Rattle.values.specs.declared.kinds.Value.{Value}
use Rattle.hosts.specs.declared.rows.Row.{Row}
use Rattle.week_file.specs.Cells.{raw_at, filed, written}
use Rattle.week_file.specs.Files.{row_start, row_count, place_in}
use Rattle.week_file.specs.declared.cells.FileCell.{FileCell}
use Rattle.week_file.specs.declared.cells.TheConstants.{CELL_BYTES}

-- where cell i of a row begins, if there is one
abbrev pub place_at : List ℕ → Row → ℕ → Result ℕ Fault
place_at b row i = place_in (row_start b row) (row_count b row) i

-- the cell at a place
abbrev pub filed_by : List ℕ → Result ℕ Fault → Result FileCell Fault
filed_by b (Ok p) = Ok (filed (raw_at b p))
filed_by b (Err f) = Err f

-- cell i of a row, if there is one
abbrev pub filed_in : List ℕ → Row → ℕ → Result FileCell Fault
filed_in b row i = filed_by b (place_at b row i)

-- the bytes with v in cell i of a row; they stay where there is no such cell
abbrev pub cell_written : List ℕ → Row → ℕ → Value → List ℕ
cell_written b row i v =
    if nat_lt i (row_count b row) then written b (row_start b row + CELL_BYTES * i) v else b
