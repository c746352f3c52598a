-- The numbers of a week file.
use Rattle.std.specs.Prelude.{◌≡◌}
use Rattle.hosts.specs.declared.rows.TheConstants.{MAX_CELLS}
use Rattle.week_file.specs.declared.cells.TheConstants.{CELL_BYTES}
use Rattle.week_file.specs.declared.headers.TheConstants.{HEADER_BYTES}

-- what each number of a week file is, by the name that it has in the code
pub record FileNumbers : Type 0 where
  -- the bytes of a header and of a cell
  pub header_bytes : HEADER_BYTES ≡ 8
  pub cell_bytes : CELL_BYTES ≡ 6
  -- the most cells of a row
  pub max_cells : MAX_CELLS ≡ 1024
