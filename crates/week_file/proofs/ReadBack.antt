-- What was written is read back.
use Rattle.std.proofs.Common.{◌≡◌, ℕ, suc, ◌+◌, ◌*◌, ◌<◌, ltb, ◌≢◌, Bool, true, false, ◌⊎◌, inl, inr, List, [], ◌∷◌, Some, None, Ok, Option, sym, refl, ap, ◌∙◌, subst, arith}
use Rattle.std.specs.Prelude.{if◌then◌else◌}
use Rattle.std.specs.Option.{option_map, ok_or}
use Rattle.std.specs.List.{slice_get}
use Rattle.std.proofs.lemmas.Bool.{cond-true, lt-ltb, ltb-true, cases_order}
use Rattle.std.proofs.lemmas.Option.{none-some, same_Some}
use Rattle.values.specs.Faults.{fault}
use Rattle.values.specs.declared.faults.Rule.TheVariants.{CellMissing}
use Rattle.values.specs.declared.kinds.Value.{Value}
use Rattle.hosts.specs.declared.rows.Row.{Row}
use Rattle.hosts.specs.declared.rows.Row.TheVariants.{Variables, Bindings}
use Rattle.hosts.specs.Meaning.{Cell, Meaning, put, row_of, with_cell}
use Rattle.week_file.specs.Cells.{raw_at, cell_of, written}
use Rattle.week_file.specs.Files.{why_refused, row_start, row_count, week_meaning}
use Rattle.week_file.specs.Laws.{ReadsBack, ReadsBackInRow, WritesReadBack, OneReadsBack, RefusalStays}
use Rattle.week_file.specs.RowsLemmas.{PlaceFound, nth_cells, nth_put, nth_put_other}
use Rattle.week_file.specs.Rows.{cell_written}
use Rattle.week_file.proofs.Writes.{cell_in, put_in, refusal_written}

put_back : (cs : List Cell) (i : ℕ) (v : Value) (c : Cell) → slice_get cs i ≡ Some c
    → ReadsBack cs (put cs i v) i v
put_back cs i v c e =
    let mark = λ (o : Option Cell). ok_or (option_map (λ d. d.trusted) o) (fault CellMissing i) in
    let value = λ (o : Option Cell). ok_or (option_map (λ d. d.value) o) (fault CellMissing i) in
    record {
      value = ap value (nth_put cs i v c e);
      mark = ap mark (nth_put cs i v c e) ∙ sym (ap mark e);
      others = λ j h. nth_put_other cs i j v h;
    }

-- what a write to a cell that is there makes of the file
written_in : (b : List ℕ) (row : Row) (i : ℕ) (v : Value) → i < row_count b row
    → week_meaning (cell_written b row i v) ≡ with_cell (week_meaning b) row i v
written_in b row i v h =
    let o = row_start b row + 6 * i in
    ap week_meaning
    (cond-true (ltb i (row_count b row)) (written b o v) b (lt-ltb i (row_count b row) h))
    ∙ put_in b i o v row (record { below = h; begins = refl })

-- the row that is written, and the other
own_row : (m : Meaning) (row : Row) (i : ℕ) (v : Value)
    → row_of (with_cell m row i v) row ≡ put (row_of m row) i v
own_row m Variables i v = refl
own_row m Bindings i v = refl

other_row : (m : Meaning) (row r : Row) (i : ℕ) (v : Value) → r ≢ row
    → row_of (with_cell m row i v) r ≡ row_of m r
other_row m Variables Variables i v n = absurd (n refl)
other_row m Variables Bindings i v n = refl
other_row m Bindings Variables i v n = refl
other_row m Bindings Bindings i v n = absurd (n refl)

own_receiver : (m : Meaning) (row : Row) (i : ℕ) (v : Value)
    → (with_cell m row i v).receiver ≡ m.receiver
own_receiver m Variables i v = refl
own_receiver m Bindings i v = refl

-- cell i of a row is there
pub there : (b : List ℕ) (row : Row) (i : ℕ) → i < row_count b row
    → slice_get (row_of (week_meaning b) row) i
    ≡ Some (cell_of (raw_at b (row_start b row + 6 * i)))
there b Variables i h = nth_cells b (row_start b Variables) (row_count b Variables) i h
there b Bindings i h = nth_cells b (row_start b Bindings) (row_count b Bindings) i h

pub writes_read_back : WritesReadBack
writes_read_back b row i v h =
    let m = week_meaning b in
    let e = written_in b row i v h in
    let back : ReadsBack (row_of m row) (row_of (with_cell m row i v) row) i v =
    subst (λ (cs : List Cell). ReadsBack (row_of m row) cs i v) (sym (own_row m row i v))
    (put_back (row_of m row) i v _ (there b row i h)) in
    record {
      receiver = ap (λ (n : Meaning). n.receiver) e ∙ own_receiver m row i v;
      back = subst (λ (n : Meaning). ReadsBack (row_of m row) (row_of n row) i v) (sym e) back;
      other = λ r n. ap (λ k. row_of k r) e ∙ other_row m row r i v n;
    }

-- the cell that v is read from, with its mark
cell_one : (o p : Option Cell) (i : ℕ) (v : Value)
    → ok_or (option_map (λ c. c.value) o) (fault CellMissing i) ≡ Ok v
    → ok_or (option_map (λ c. c.value) p) (fault CellMissing i) ≡ Ok v
    → ok_or (option_map (λ c. c.trusted) o) (fault CellMissing i)
    ≡ ok_or (option_map (λ c. c.trusted) p) (fault CellMissing i)
    → o ≡ p
cell_one (Some c) (Some d) i v e f g =
    let value : c.value ≡ d.value = cc in
    let mark : c.trusted ≡ d.trusted = cc in
    λ j. Some (record { trusted = mark j; value = value j })
cell_one None p i v e f g = absurd cc
cell_one (Some c) None i v e f g = absurd cc

same_list : (cs ds : List Cell) → ((j : ℕ) → slice_get cs j ≡ slice_get ds j) → cs ≡ ds
same_list [] [] h = refl
same_list [] (d ∷ ds) h = absurd (none-some d (h 0))
same_list (c ∷ cs) [] h = absurd (none-some c (sym (h 0)))
same_list (c ∷ cs) (d ∷ ds) h =
    let head : c ≡ d = same_Some c d (h 0) in
    let rest = same_list cs ds (λ j. h (suc j)) in
    λ i. head i ∷ rest i

-- the cells that v is read back from are settled
cells_one : (cs ds es : List Cell) (i : ℕ) (v : Value) → ReadsBack cs ds i v → ReadsBack cs es i v
    → es ≡ ds
cells_one cs ds es i v x y = same_list es ds (λ j. by j (cases_order j i))
  where
    apart : (j : ℕ) → j ≢ i → slice_get es j ≡ slice_get ds j
    apart j n = y.others j n ∙ sym (x.others j n)

    by : (j : ℕ) → (j ≡ i) ⊎ ((j < i) ⊎ (i < j)) → slice_get es j ≡ slice_get ds j
    by j (inl e) =
        let here : slice_get es i ≡ slice_get ds i =
        cell_one (slice_get es i) (slice_get ds i) i v y.value x.value (y.mark ∙ sym x.mark) in
        subst (λ (k : ℕ). slice_get es k ≡ slice_get ds k) (sym e) here
    by j (inr (inl h)) = apart j (λ e. absurd (omega (arith, e, h)))
    by j (inr (inr h)) = apart j (λ e. absurd (omega (arith, e, h)))

module _ (b c d : List ℕ) (i : ℕ) (v : Value) where
  rows_one : (row r : Row) → ReadsBackInRow b c row i v → ReadsBackInRow b d row i v
      → row_of (week_meaning d) r ≡ row_of (week_meaning c) r
  rows_one Variables Variables x y = cells_one _ _ _ i v x.back y.back
  rows_one Bindings Bindings x y = cells_one _ _ _ i v x.back y.back
  rows_one Variables Bindings x y =
      y.other Bindings (λ e. absurd cc) ∙ sym (x.other Bindings (λ e. absurd cc))
  rows_one Bindings Variables x y =
      y.other Variables (λ e. absurd cc) ∙ sym (x.other Variables (λ e. absurd cc))

pub one_reads_back : OneReadsBack
one_reads_back b c d row i v x y =
    let receiver = y.receiver ∙ sym x.receiver in
    let variables = rows_one b c d i v row Variables x y in
    let bindings = rows_one b c d i v row Bindings x y in
    λ j. record {
      receiver = receiver j;
      variables = variables j;
      bindings = bindings j;
      understands = (week_meaning c).understands;
    }

-- a write is to a cell of an accepted file, or alters nothing
pub refusal_stays : RefusalStays
refusal_stays b row i v = by (ltb i (row_count b row)) refl
  where
    by : (t : Bool) → ltb i (row_count b row) ≡ t
        → why_refused (if t then written b (row_start b row + 6 * i) v else b) ≡ why_refused b
    by true e =
        let o = row_start b row + 6 * i in
        let found : PlaceFound (row_start b row) (row_count b row) i o =
        record { below = ltb-true i (row_count b row) e; begins = refl } in
        refusal_written b o v (cell_in b i o row found)
    by false e = refl
