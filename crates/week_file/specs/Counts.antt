-- How many cells a file has.
use Rattle.std.specs.Prelude.{◌≡◌, ℕ, ◌≤◌, Bool, true, false, not, List, length, is_some, Some, None, Ok, Option, refl, if◌then◌else◌}
use Rattle.std.proofs.Common.{sym, ap, ◌∙◌, arith}
use Rattle.hosts.specs.Meaning.{row_of}
use Rattle.hosts.specs.declared.rows.Row.{Row}
use Rattle.hosts.specs.declared.rows.Row.TheVariants.{Variables, Bindings}
use Rattle.hosts.specs.declared.rows.TheConstants.{MAX_CELLS}
use Rattle.week_file.specs.declared.headers.FileHeader.{FileHeader}
use Rattle.week_file.specs.Headers.{file_header, header_count}
use Rattle.week_file.specs.Files.{accepted, why_refused, judged_header, row_start, row_count, week_meaning}
use Rattle.values.specs.Order.{unless}
use Rattle.values.specs.declared.faults.Fault.{Fault}
use Rattle.week_file.specs.Accepting.{kept}
use Rattle.week_file.specs.RowsLemmas.{length_cells}

module _ (b : List ℕ) where
  -- the header of an accepted file has the counts
  good_by : (o : Option Fault) (h : FileHeader) → Ok h ≡ unless o (file_header b)
      → (not (is_some o) ≡ true) × (h ≡ file_header b)
  good_by None h e = (refl, cc)
  good_by (Some f) h e = absurd cc

  good_count : (h : FileHeader) (row : Row) → Ok h ≡ judged_header b
      → header_count h row ≡ row_count b row
  good_count h row e =
      let p = good_by (why_refused b) h e in
      ap (λ (x : FileHeader). header_count x row) p.1
      ∙ sym (ap (λ t. if t then header_count (file_header b) row else 0) p.0)

  -- they are at most 1,024
  few_by : (row : Row) (t : Bool) → accepted b ≡ t
      → (if t then header_count (file_header b) row else 0) ≤ MAX_CELLS
  few_by row true e = (kept b e).few row
  few_by row false e = omega arith

  pub length_row : (row : Row) → length (row_of (week_meaning b) row) ≡ row_count b row
  length_row Variables = length_cells b (row_start b Variables) (row_count b Variables)
  length_row Bindings = length_cells b (row_start b Bindings) (row_count b Bindings)

  -- a row has as many cells as the header says
  pub length_good : (h : FileHeader) (row : Row) → Ok h ≡ judged_header b
      → length (row_of (week_meaning b) row) ≡ header_count h row
  length_good h row e = length_row row ∙ sym (good_count h row e)

  -- a row has no more cells than a host may have
  pub few_rows : (row : Row) → length (row_of (week_meaning b) row) ≤ MAX_CELLS
  few_rows row = omega (arith, length_row row, few_by row (accepted b) refl)
