-- The first eight bytes of a week file, and where they say that cells lie.
use Rattle.std.specs.Prelude.{ℕ, ◌+◌, ◌*◌, List}
use Rattle.values.specs.Bytes.{be16, be32}
use Rattle.hosts.specs.declared.rows.Row.{Row}
use Rattle.hosts.specs.declared.rows.Row.TheVariants.{Variables, Bindings}
use Rattle.week_file.specs.declared.cells.TheConstants.{CELL_BYTES}
use Rattle.week_file.specs.declared.headers.FileHeader.{FileHeader}
use Rattle.week_file.specs.declared.headers.TheConstants.{HEADER_BYTES}

-- the count of variables, the count of bindings and the object number of the receiver
abbrev pub file_header : List ℕ → FileHeader
file_header b = record { variables = be16 b 0; bindings = be16 b 2; receiver = be32 b 4 }

-- how many cells a row has
abbrev pub header_count : FileHeader → Row → ℕ
header_count h Variables = h.variables
header_count h Bindings = h.bindings

-- where cell k of the file begins, variables and bindings together
abbrev pub cell_start : ℕ → ℕ
cell_start k = HEADER_BYTES + CELL_BYTES * k

-- where a row begins: the variables after the header, the bindings after the variables
abbrev pub header_start : FileHeader → Row → ℕ
header_start h Variables = HEADER_BYTES
header_start h Bindings = cell_start h.variables

-- how many cells there are in all
abbrev pub cell_count : FileHeader → ℕ
cell_count h = h.variables + h.bindings
