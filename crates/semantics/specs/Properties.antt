-- What a script reads and writes.
use Rattle.std.specs.Prelude.{◌≡◌, ℕ, ◌+◌, ◌-◌, ◌<◌, ◌≤◌, ◌⊎◌, List, length, take}
use Rattle.values.specs.declared.kinds.Value.{Value}
use Rattle.hosts.specs.Meaning.{Meaning, row_of, cell_value}
use Rattle.hosts.specs.declared.rows.Row.{Row}
use Rattle.hosts.specs.declared.rows.Row.TheVariants.{Variables, Bindings}
use Rattle.semantics.specs.Scripts.{Access, read_cell, read_cells, write_cell, read_literal, read_row, write_row, Leaf, comes_to, stuck, Script}
use Rattle.semantics.specs.Execution.{Everywhere}

-- how much there is of what a script reads and writes
pub record Counts : Type 0 where
  pub cells : ℕ
  pub literals : ℕ
  pub variables : ℕ
  pub bindings : ℕ

-- the cells of a row
abbrev pub row_count : Counts → Row → ℕ
row_count n Variables = n.variables
row_count n Bindings = n.bindings

-- an access lies below its count
abbrev pub InBounds : Counts → Access → Type 0
InBounds n (read_cell i) = i < n.cells
InBounds n (read_cells i c) = i + c ≤ n.cells
InBounds n (write_cell i v) = i < n.cells
InBounds n (read_literal i) = i < n.literals
InBounds n (read_row r i) = i < row_count n r
InBounds n (write_row r i v) = i < row_count n r
InBounds n _ = Unit {0}

-- the working cells of a frame around one step: where they begin, how many are in use before it
-- and after it, and how many of these it takes
pub record Stack : Type 0 where
  pub base : ℕ
  pub before : ℕ
  pub takes : ℕ
  pub after : ℕ

-- an access reads an argument, a local or a working cell that is in use; it writes an argument, a
-- local, or a working cell that is in use before or after, and none below those that the step takes
abbrev pub InUse : Stack → Access → Type 0
InUse k (read_cell i) = i < k.base + k.before
InUse k (read_cells i c) = i + c ≤ k.base + k.before
InUse k (write_cell i v) =
    (i < k.base)
    ⊎ (k.base + (k.before - k.takes) ≤ i) × ((i < k.base + k.before) ⊎ (i < k.base + k.after))
InUse k _ = Unit {0}

-- two frames and two hosts agree on all that lies below the counts, on the receiver and on what is
-- understood; there is as much as is counted
pub record AgreeBelow (n : Counts) (f : List Value) (m : Meaning) (g : List Value) (k : Meaning)
    : Type 0 where
  pub frames : take n.cells g ≡ take n.cells f
  pub rows : (row : Row) (i : ℕ) → i < row_count n row
      → cell_value (row_of k row) i ≡ cell_value (row_of m row) i
  pub receiver : k.receiver ≡ m.receiver
  pub understands : k.understands ≡ m.understands
  pub long : (n.cells ≤ length f) × (n.cells ≤ length g)
  pub counted : (row : Row)
      → (row_count n row ≤ length (row_of m row)) × (row_count n row ≤ length (row_of k row))

-- a script comes to an outcome
abbrev pub NotStuck : Leaf → Type 0
NotStuck stuck = ⊥
NotStuck (comes_to o) = Unit {0}

module _ (literals : List ℕ) where
  -- every access lies below its count, and the script comes to an outcome
  abbrev pub Within : Counts → Script → Type 0
  Within n = Everywhere literals (InBounds n) NotStuck

  -- every access of the frame is of what is in use, and the script comes to an outcome
  abbrev pub UsesOnly : Stack → Script → Type 0
  UsesOnly k = Everywhere literals (InUse k) NotStuck
