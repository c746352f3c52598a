-- Cells of either row: what is read from them, and what a write makes of them.
use Rattle.std.proofs.Common.{◌≡◌, ℕ, List, length, length-drop, ◌-◌, take, drop, Some, Ok, Err, Result, sym, refl, ap, ◌∙◌, arith}
use Rattle.std.proofs.lemmas.List.{take_all}
use Rattle.values.specs.declared.faults.Fault.{Fault}
use Rattle.values.specs.declared.kinds.Value.{Value}
use Rattle.hosts.specs.Meaning.{Cell, asked, mark_of, value_at, place_of, row_of, with_cell}
use Rattle.hosts.specs.declared.rows.Row.{Row}
use Rattle.hosts.specs.declared.rows.Row.TheVariants.{Variables, Bindings}
use Rattle.week_file.specs.Cells.{raw_at, stored, filed, written}
use Rattle.week_file.specs.Files.{row_start, row_count, row_cells, week_meaning, CellAt}
use Rattle.week_file.specs.Rows.{place_at, filed_by, filed_in}
use Rattle.week_file.specs.declared.cells.FileCell.{FileCell}
use Rattle.week_file.specs.Laws.{Sound}
use Rattle.week_file.specs.Accepting.{kept}
use Rattle.week_file.specs.RowsLemmas.{place_found, place_missing, asked_found, asked_missing}
use Rattle.week_file.proofs.Searching.{six_raw, sound_stored}
use Rattle.week_file.proofs.Writes.{cell_in, put_in, past_in}

-- a row's cells lie one after the other
row_is : (b : List ℕ) (row : Row) → row_of (week_meaning b) row ≡ row_cells b row
row_is b Variables = refl
row_is b Bindings = refl

-- a row's cell that begins at p, or that is missing, and what a write makes of the file
module _ (b : List ℕ) (row : Row) (i : ℕ) where
  pub cell_at : (p : ℕ) → Ok p ≡ place_at b row i → CellAt b p
  cell_at p e = cell_in b i p row (place_found (row_start b row) (row_count b row) i p e)

  pub put_at : (p : ℕ) (v : Value) → Ok p ≡ place_at b row i
      → with_cell (week_meaning b) row i v ≡ week_meaning (written b p v)
  put_at p v e =
      sym (put_in b i p v row (place_found (row_start b row) (row_count b row) i p e))

  pub put_past : (y : Fault) (v : Value) → Err y ≡ place_at b row i
      → with_cell (week_meaning b) row i v ≡ week_meaning b
  put_past y v e =
      sym (past_in b row i v (place_missing (row_start b row) (row_count b row) i y e).past)

  -- the six bytes of a cell that is there keep its rules
  stored_at : (p : ℕ) → Ok p ≡ place_at b row i
      → stored (raw_at (take 6 (drop p b)) 0) ≡ Some (filed (raw_at b p))
  stored_at p e =
      let x = cell_at p e in
      let s : Sound (raw_at b p) = rw x.begins ((kept b x.accepts).sound x.number x.below) in
      ap stored (six_raw b p) ∙ sound_stored (raw_at b p) s

  -- as they are cut out of the bytes d
  pub read_at : (p : ℕ) (d s : List ℕ) → Ok p ≡ place_at b row i → d ≡ b
      → s ≡ take 6 (take (length d - p) (drop p d))
      → stored (raw_at s 0) ≡ Some (filed (raw_at b p))
  read_at p d s e f g =
      let whole : take (length b - p) (drop p b) ≡ drop p b =
      take_all (length b - p) (drop p b) (omega (arith, length-drop p b)) in
      let cut : s ≡ take 6 (drop p b) =
      g ∙ ap (λ l. take 6 (take (length l - p) (drop p l))) f ∙ ap (take 6) whole in
      ap (λ l. stored (raw_at l 0)) cut ∙ stored_at p e

-- what is asked of a cell of the file
abbrev by_filed : {X : Type 0} → (Cell → X) → Result FileCell Fault → Result X Fault
by_filed f (Ok c) = Ok (f (record { trusted = c.trusted; value = c.value }))
by_filed f (Err e) = Err e

module _ {X : Type 0} (f : Cell → X) (b : List ℕ) (row : Row) (i : ℕ) where
  asked_by : (q : Result ℕ Fault) → q ≡ place_at b row i
      → asked f (row_of (week_meaning b) row) i ≡ by_filed f (filed_by b q)
  asked_by (Ok p) e =
      ap (λ (cs : List Cell). asked f cs i) (row_is b row)
      ∙ sym (asked_found (row_start b row) (row_count b row) i f b p e)
  asked_by (Err y) e =
      ap (λ (cs : List Cell). asked f cs i) (row_is b row)
      ∙ sym (asked_missing (row_start b row) (row_count b row) i f b y e)

  asked_filed : asked f (row_of (week_meaning b) row) i ≡ by_filed f (filed_in b row i)
  asked_filed = asked_by (place_at b row i) refl

-- the mark and the value of a cell, and whether it is there
module _ (b : List ℕ) (row : Row) (i : ℕ) where
  pub mark_filed : mark_of (row_of (week_meaning b) row) i
      ≡ by_filed (λ c. c.trusted) (filed_in b row i)
  mark_filed = asked_filed (λ (x : Cell). x.trusted) b row i

  pub value_filed : value_at (row_of (week_meaning b) row) i
      ≡ by_filed (λ c. c.value) (filed_in b row i)
  value_filed = asked_filed (λ (x : Cell). x.value) b row i

  pub place_filed : place_of (row_of (week_meaning b) row) i
      ≡ by_filed (λ _. tt) (filed_in b row i)
  place_filed = asked_filed (λ (x : Cell). tt) b row i
