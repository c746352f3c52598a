-- What a whole week file means.
use Rattle.std.specs.Prelude.{◌≡◌, ℕ, zero, suc, ◌+◌, ◌*◌, ◌<◌, Bool, true, not, List, [], ◌∷◌, length, is_some, Some, Ok, Err, Option, Result, ◌==◌, nat_lt, if◌then◌else◌}
use Rattle.values.specs.Faults.{fault}
use Rattle.values.specs.Order.{Test, test, first, unless}
use Rattle.values.specs.declared.faults.Fault.{Fault}
use Rattle.values.specs.declared.faults.Rule.TheVariants.{CellMissing, FileShort, CellsTooMany, FileLength, CellWrong}
use Rattle.values.specs.declared.kinds.Value.{Value}
use Rattle.values.specs.declared.kinds.Value.TheVariants.{Nil, Object}
use Rattle.hosts.specs.Meaning.{Cell, Sent, Meaning}
use Rattle.hosts.specs.declared.rows.Row.{Row}
use Rattle.hosts.specs.declared.rows.Row.TheVariants.{Variables, Bindings}
use Rattle.hosts.specs.declared.rows.TheConstants.{MAX_CELLS}
use Rattle.week_file.specs.Cells.{raw_at, keeps_rules, cell_of}
use Rattle.week_file.specs.Headers.{file_header, header_count, header_start, cell_start, cell_count}
use Rattle.week_file.specs.Replies.{replies}
use Rattle.week_file.specs.declared.cells.TheConstants.{CELL_BYTES}
use Rattle.week_file.specs.declared.headers.FileHeader.{FileHeader}
use Rattle.week_file.specs.declared.headers.TheConstants.{HEADER_BYTES}

-- a test for each of n cells from o on
abbrev pub cell_tests : List ℕ → ℕ → ℕ → List Test
cell_tests b o zero = []
cell_tests b o (suc n) =
    test CellWrong o (not (keeps_rules (raw_at b o))) ∷ cell_tests b (o + CELL_BYTES) n

-- the rules of a file as tests, in order
abbrev pub file_tests : List ℕ → List Test
file_tests b =
    test FileShort 0 (nat_lt (length b) HEADER_BYTES)
    ∷ test CellsTooMany 0 (nat_lt MAX_CELLS (file_header b).variables)
    ∷ test CellsTooMany 2 (nat_lt MAX_CELLS (file_header b).bindings)
    ∷ test FileLength 0 (not (length b == cell_start (cell_count (file_header b))))
    ∷ cell_tests b HEADER_BYTES (cell_count (file_header b))

-- the first rule that a file breaks, if it breaks one
abbrev pub why_refused : List ℕ → Option Fault
why_refused b = first (file_tests b)

-- a file is accepted where it breaks none
abbrev pub accepted : List ℕ → Bool
accepted b = not (is_some (why_refused b))

-- the header of a file that is accepted, or why it is refused
abbrev pub judged_header : List ℕ → Result FileHeader Fault
judged_header b = unless (why_refused b) (file_header b)

-- where a row begins
abbrev pub row_start : List ℕ → Row → ℕ
row_start b row = header_start (file_header b) row

-- how many cells it has; in a refused file, none
abbrev pub row_count : List ℕ → Row → ℕ
row_count b row = if accepted b then header_count (file_header b) row else 0

-- n cells from o on
abbrev pub cells_from : List ℕ → ℕ → ℕ → List Cell
cells_from b o zero = []
cells_from b o (suc n) = cell_of (raw_at b o) ∷ cells_from b (o + CELL_BYTES) n

-- the cells of a row
abbrev pub row_cells : List ℕ → Row → List Cell
row_cells b row = cells_from b (row_start b row) (row_count b row)

-- the host over a file: the receiver, the cells and what is understood; a refused file has receiver
-- nil and no cells
abbrev pub week_meaning : List ℕ → Meaning
week_meaning b = record {
  receiver = if accepted b then Object (file_header b).receiver else Nil;
  variables = row_cells b Variables;
  bindings = row_cells b Bindings;
  understands = λ m. is_some (replies m);
}

-- the answer that comes of a message; nothing is altered
abbrev pub Replied : List ℕ → Sent → Value → List ℕ → Type 0
Replied b m v c = (replies m ≡ Some v) × (c ≡ b)

-- where cell i of n cells from s on begins, if there is one
abbrev pub place_in : ℕ → ℕ → ℕ → Result ℕ Fault
place_in s n i = if nat_lt i n then Ok (s + CELL_BYTES * i) else Err (fault CellMissing i)

-- a cell of an accepted file begins at o
pub record CellAt (b : List ℕ) (o : ℕ) : Type 0 where
  pub accepts : accepted b ≡ true
  pub number : ℕ
  pub below : number < cell_count (file_header b)
  pub begins : o ≡ cell_start number
