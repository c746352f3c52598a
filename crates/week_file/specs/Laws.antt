-- What is true of every week file.
use Rattle.std.specs.Prelude.{◌≡◌, ℕ, ◌<◌, ◌≤◌, ◌≢◌, ◌⊎◌, ◌↔◌, IsTrue, List, length, Some, Ok}
use Rattle.std.specs.List.{slice_get}
use Rattle.values.specs.declared.kinds.Value.{Value}
use Rattle.hosts.specs.Meaning.{Cell, mark_of, value_at, row_of}
use Rattle.hosts.specs.declared.rows.Row.{Row}
use Rattle.hosts.specs.declared.rows.TheConstants.{MAX_CELLS}
use Rattle.week_file.specs.Cells.{AreBytes, RawCell, raw_at, raw_value}
use Rattle.week_file.specs.Headers.{file_header, header_count, cell_start, cell_count}
use Rattle.week_file.specs.Files.{why_refused, accepted, row_count, week_meaning}
use Rattle.week_file.specs.Rows.{cell_written}
use Rattle.week_file.specs.declared.headers.TheConstants.{HEADER_BYTES}

-- a cell is marked open or trusted, and a value has its kind and its number field
abbrev pub Sound : RawCell → Type 0
Sound c = ((c.mark ≡ 0) ⊎ (c.mark ≡ 1)) × ((v : Value) × (raw_value c ≡ Some v))

-- a week file, rule by rule
pub record IsWeekFile (b : List ℕ) : Type 0 where
  pub header : HEADER_BYTES ≤ length b
  pub few : (row : Row) → header_count (file_header b) row ≤ MAX_CELLS
  pub ends : length b ≡ cell_start (cell_count (file_header b))
  pub sound : (k : ℕ) → k < cell_count (file_header b) → Sound (raw_at b (cell_start k))

-- a file is accepted exactly if it keeps every rule
abbrev pub AcceptsExactly : Type 0
AcceptsExactly = (b : List ℕ) → IsTrue (accepted b) ↔ IsWeekFile b

-- from the cells cs to the cells ds: v is read from cell i, whose mark stays, and every other cell
-- stays
pub record ReadsBack (cs ds : List Cell) (i : ℕ) (v : Value) : Type 0 where
  pub value : value_at ds i ≡ Ok v
  pub mark : mark_of ds i ≡ mark_of cs i
  pub others : (j : ℕ) → j ≢ i → slice_get ds j ≡ slice_get cs j

-- from the file b to the file c: v is read back from cell i of a row, and the other row and the
-- receiver stay
pub record ReadsBackInRow (b c : List ℕ) (row : Row) (i : ℕ) (v : Value) : Type 0 where
  pub receiver : (week_meaning c).receiver ≡ (week_meaning b).receiver
  pub back : ReadsBack (row_of (week_meaning b) row) (row_of (week_meaning c) row) i v
  pub other : (r : Row) → r ≢ row → row_of (week_meaning c) r ≡ row_of (week_meaning b) r

-- what is written into a cell is read back, and no other cell is altered
abbrev pub WritesReadBack : Type 0
WritesReadBack =
    (b : List ℕ) (row : Row) (i : ℕ) (v : Value) → i < row_count b row →
    ReadsBackInRow b (cell_written b row i v) row i v

-- files that the same is read back from, as from one file, mean the same
abbrev pub OneReadsBack : Type 0
OneReadsBack =
    (b c d : List ℕ) (row : Row) (i : ℕ) (v : Value) →
    ReadsBackInRow b c row i v → ReadsBackInRow b d row i v → week_meaning d ≡ week_meaning c

-- a write leaves why a file is refused, if it is
abbrev pub RefusalStays : Type 0
RefusalStays =
    (b : List ℕ) (row : Row) (i : ℕ) (v : Value) →
    why_refused (cell_written b row i v) ≡ why_refused b

-- a file that means the same as an accepted one is the same, from the first byte to the last
abbrev pub MeaningSettlesBytes : Type 0
MeaningSettlesBytes =
    (b c : List ℕ) → AreBytes b → AreBytes c → IsTrue (accepted b) →
    week_meaning c ≡ week_meaning b → c ≡ b
