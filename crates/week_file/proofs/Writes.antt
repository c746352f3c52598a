-- What a write of one cell leaves.
use Rattle.std.proofs.Common.{◌≡◌, ℕ, zero, suc, ◌+◌, ◌-◌, ◌*◌, ◌/◌, ◌%◌, ◌^◌, ◌<◌, ◌≤◌, Bool, true, false, ◌⊎◌, List, ◌∷◌, ◌++◌, length, take, drop, not, is_some, Some, None, Option, unwrap_or, sym, refl, ap, ◌∙◌, subst, inl, inr, le_of_suc-le-suc, not-suc-le-zero, arith, length-append, length-drop}
use Rattle.std.specs.Prelude.{if◌then◌else◌}
use Rattle.std.proofs.lemmas.List.{length-take-le, get_or_append_left, get_or-append_right, get_or-take, get_or-drop}
use Rattle.std.proofs.lemmas.Bool.{cases_order}
use Rattle.values.specs.Bytes.{at, be16, be32}
use Rattle.values.specs.Kinds.{kind_number, number_field}
use Rattle.values.specs.Order.{unless}
use Rattle.values.specs.declared.faults.Fault.{Fault}
use Rattle.values.specs.declared.kinds.Value.{Value}
use Rattle.values.specs.declared.kinds.Value.TheVariants.{Nil, Object}
use Rattle.values.proofs.Parts.{read_back}
use Rattle.hosts.specs.declared.rows.Row.{Row}
use Rattle.hosts.specs.declared.rows.Row.TheVariants.{Variables, Bindings}
use Rattle.hosts.specs.declared.rows.TheConstants.{MAX_CELLS}
use Rattle.hosts.specs.Meaning.{put, with_cell}
use Rattle.hosts.proofs.Cells.{put_past}
use Rattle.week_file.specs.Cells.{raw_at, cell_of, five_bytes, written}
use Rattle.week_file.specs.Headers.{file_header, header_count, header_start, cell_start, cell_count}
use Rattle.week_file.specs.Files.{why_refused, accepted, judged_header, row_start, row_count, cells_from, row_cells, week_meaning, CellAt}
use Rattle.week_file.specs.Laws.{Sound, IsWeekFile}
use Rattle.week_file.specs.declared.headers.FileHeader.{FileHeader}
use Rattle.week_file.proofs.Pieces.{raw, same_raw}
use Rattle.week_file.specs.Accepting.{kept, accept}
use Rattle.week_file.specs.RowsLemmas.{PlaceFound, length_cells}

-- bytes that agree from p on for n places
abbrev Agree : List ℕ → List ℕ → ℕ → ℕ → Type 0
Agree b c p n = (k : ℕ) → p ≤ k → k < p + n → at c k ≡ at b k

module _ (b c : List ℕ) where
  same_16 : (p : ℕ) → Agree b c p 2 → be16 c p ≡ be16 b p
  same_16 p a =
      let first = a p (omega arith) (omega arith) in
      omega (arith, first, a (p + 1) (omega arith) (omega arith))

  same_32 : (p : ℕ) → Agree b c p 4 → be32 c p ≡ be32 b p
  same_32 p a =
      let first = a p (omega arith) (omega arith) in
      let second = a (p + 1) (omega arith) (omega arith) in
      let third = a (p + 2) (omega arith) (omega arith) in
      omega (arith, first, second, third, a (p + 3) (omega arith) (omega arith))

  same_cell : (p : ℕ) → Agree b c p 6 → raw_at c p ≡ raw_at b p
  same_cell p a =
      same_raw _ _ _ _ _ _ (a p (omega arith) (omega arith)) (a (p + 1) (omega arith) (omega arith))
      (same_32 (p + 2) (λ k l m. a k (omega arith) (omega arith)))

  same_cells : (p n : ℕ) → Agree b c p (6 * n) → cells_from c p n ≡ cells_from b p n
  same_cells p zero a = refl
  same_cells p (suc n) a =
      ap (λ x. cell_of x ∷ cells_from c (p + 6) n) (same_cell p (λ k l m. a k l (omega arith)))
      ∙ ap (λ xs. cell_of (raw_at b p) ∷ xs)
      (same_cells (p + 6) n (λ k l m. a k (omega arith) (omega arith)))

-- the bytes with v in the cell at o
module _ (b : List ℕ) (o : ℕ) (v : Value) (h : o + 6 ≤ length b) where
  front : length (take (o + 1) b) ≡ o + 1
  front = length-take-le (o + 1) b (omega arith)

  length_written : length (written b o v) ≡ length b
  length_written =
      let parts = length-append (take (o + 1) b) (five_bytes v ++ drop (o + 6) b) in
      omega (arith, parts, front, length-drop (o + 6) b)

  before : (k : ℕ) → k < o + 1 → at (written b o v) k ≡ at b k
  before k l =
      let below : k < length (take (o + 1) b) = omega (arith, front) in
      get_or_append_left (take (o + 1) b) (five_bytes v ++ drop (o + 6) b) 0 k below
      ∙ get_or-take (o + 1) b k 0 l

  past : (k : ℕ) → o + 1 ≤ k
      → at (written b o v) k ≡ at (five_bytes v ++ drop (o + 6) b) (k - (o + 1))
  past k l =
      get_or-append_right (take (o + 1) b) (five_bytes v ++ drop (o + 6) b) (o + 1) k 0 front l

  after : (k : ℕ) → o + 6 ≤ k → at (written b o v) k ≡ at b k
  after k l =
      past k (omega arith)
      ∙ get_or-append_right (five_bytes v) (drop (o + 6) b) 5 (k - (o + 1)) 0 refl (omega arith)
      ∙ get_or-drop (o + 6) b (k - (o + 1) - 5) 0
      ∙ ap (at b) (omega arith)

  inside : (j k : ℕ) → k ≡ o + 1 + j → at (written b o v) k ≡ at (five_bytes v ++ drop (o + 6) b) j
  inside j k e =
      let q : k - (o + 1) ≡ j = omega arith in
      past k (omega arith) ∙ ap (at (five_bytes v ++ drop (o + 6) b)) q

  number_here : be32 (written b o v) (o + 2) ≡ number_field v
  number_here =
      let n = number_field v in
      let p₀ : at (written b o v) (o + 2) ≡ n / 2 ^ 24 = inside 1 (o + 2) (omega arith) in
      let p₁ : at (written b o v) (o + 2 + 1) ≡ n / 2 ^ 16 % 256 =
      inside 2 (o + 2 + 1) (omega arith) in
      let p₂ : at (written b o v) (o + 2 + 2) ≡ n / 2 ^ 8 % 256 =
      inside 3 (o + 2 + 2) (omega arith) in
      let p₃ : at (written b o v) (o + 2 + 3) ≡ n % 256 = inside 4 (o + 2 + 3) (omega arith) in
      omega arith

  cell_here : raw_at (written b o v) o ≡ raw (at b o) (kind_number v) (number_field v)
  cell_here =
      same_raw _ _ _ _ _ _ (before o (omega arith)) (inside 0 (o + 1) (omega arith)) number_here

  -- v is put into the cell number i of n that begin at p
  cells_put : (p n i : ℕ) → i < n → o ≡ p + 6 * i
      → cells_from (written b o v) p n ≡ put (cells_from b p n) i v
  cells_put p zero i l e = absurd (not-suc-le-zero l)
  cells_put p (suc n) zero l e =
      let q : o ≡ p = omega arith in
      let rest = same_cells b (written b o v) (p + 6) n (λ k m _. after k (omega arith)) in
      let here : (z : ℕ) → Type 0 =
      λ z. raw_at (written b o v) z ≡ raw (at b z) (kind_number v) (number_field v) in
      let t = (cell_of (raw_at b p)).trusted in
      let after_it = cells_from (written b o v) (p + 6) n in
      ap (λ x. cell_of x ∷ after_it) (subst here q cell_here)
      ∙ ap (λ x. record { trusted = t; value = unwrap_or x Nil } ∷ after_it) (read_back v)
      ∙ ap (λ xs. record { trusted = t; value = v } ∷ xs) rest
  cells_put p (suc n) (suc i) l e =
      ap (λ x. cell_of x ∷ cells_from (written b o v) (p + 6) n)
      (same_cell b (written b o v) p (λ k m r. before k (omega arith)))
      ∙ ap (λ xs. cell_of (raw_at b p) ∷ xs)
      (cells_put (p + 6) n i (le_of_suc-le-suc l) (omega arith))

  -- a cell that was sound is sound still
  sound_here : Sound (raw_at b o) → Sound (raw_at (written b o v) o)
  sound_here s = subst Sound (sym cell_here) (s.0, (v, read_back v))

  module _ (n : ℕ) (e : o ≡ cell_start n) where
    sound_by : (k : ℕ) → (k ≡ n) ⊎ ((k < n) ⊎ (n < k)) → Sound (raw_at b (cell_start k))
        → Sound (raw_at (written b o v) (cell_start k))
    sound_by k (inl q) s =
        let p : o ≡ cell_start k = omega arith in
        subst (λ (z : ℕ). Sound (raw_at b z) → Sound (raw_at (written b o v) z)) p sound_here s
    sound_by k (inr (inl q)) s =
        let same = same_cell b (written b o v) (cell_start k) (λ j l m. before j (omega arith)) in
        subst Sound (sym same) s
    sound_by k (inr (inr q)) s =
        let same = same_cell b (written b o v) (cell_start k) (λ j l m. after j (omega arith)) in
        subst Sound (sym same) s

    header_same : file_header (written b o v) ≡ file_header b
    header_same =
        let p = same_16 b (written b o v) 0 (λ k l m. before k (omega arith)) in
        let q = same_16 b (written b o v) 2 (λ k l m. before k (omega arith)) in
        let r = same_32 b (written b o v) 4 (λ k l m. before k (omega arith)) in
        λ i. record { variables = p i; bindings = q i; receiver = r i }

    -- the file keeps its rules still
    still : IsWeekFile b → IsWeekFile (written b o v)
    still w =
        let same : cell_count (file_header (written b o v)) ≡ cell_count (file_header b) =
        ap cell_count header_same in
        record {
          header = omega (arith, length_written, w.header);
          few = λ row. subst (λ (h : FileHeader). header_count h row ≤ MAX_CELLS) (sym header_same)
              (w.few row);
          ends = length_written ∙ w.ends ∙ sym (ap cell_start same);
          sound = λ k l. sound_by k (cases_order k n) (w.sound k (omega (arith, l, same)));
        }

pub fits : (b : List ℕ) (o : ℕ) → CellAt b o → o + 6 ≤ length b
fits b o x = omega (arith, (kept b x.accepts).ends)

none_by : (o : Option Fault) → not (is_some o) ≡ true → o ≡ None
none_by None e = refl
none_by (Some f) e = absurd cc

none_refused : (b : List ℕ) → accepted b ≡ true → why_refused b ≡ None
none_refused b e = none_by (why_refused b) e

-- what a write leaves as it was
module _ (b : List ℕ) (o : ℕ) (v : Value) (x : CellAt b o) where
  header_stays : file_header (written b o v) ≡ file_header b
  header_stays = header_same b o v (fits b o x) x.number x.begins

  accepted_written : accepted (written b o v) ≡ accepted b
  accepted_written =
      accept (written b o v) (still b o v (fits b o x) x.number x.begins (kept b x.accepts))
      ∙ sym x.accepts

  -- and it is refused no more than before
  pub refusal_written : why_refused (written b o v) ≡ why_refused b
  refusal_written =
      none_refused (written b o v) (accepted_written ∙ x.accepts)
      ∙ sym (none_refused b x.accepts)

  pub header_written : judged_header (written b o v) ≡ judged_header b
  header_written =
      ap (λ f. unless f (file_header (written b o v))) refusal_written
      ∙ ap (unless (why_refused b)) header_stays

  pub receiver_same : (week_meaning (written b o v)).receiver ≡ (week_meaning b).receiver
  receiver_same =
      ap (λ t. if t then Object (file_header (written b o v)).receiver else Nil) accepted_written
      ∙ ap (λ (h : FileHeader). if accepted b then Object h.receiver else Nil) header_stays

  -- a row lies where it lay
  laid : (row : Row) → row_cells (written b o v) row
      ≡ cells_from (written b o v) (row_start b row) (row_count b row)
  laid row =
      ap (λ t. cells_from (written b o v) (row_start (written b o v) row)
      (if t then header_count (file_header (written b o v)) row else 0)) accepted_written
      ∙ ap (λ (h : FileHeader). cells_from (written b o v) (header_start h row)
      (if accepted b then header_count h row else 0)) header_stays

-- a count that is not 0 is that of an accepted file
counted : (t : Bool) (n i : ℕ) → i < (if t then n else 0) → (t ≡ true) × (i < n)
counted true n i h = (refl, h)
counted false n i h = absurd (not-suc-le-zero h)

-- cell i of a row, which begins at o
module _ (b : List ℕ) (i o : ℕ) where
  pub cell_in : (row : Row) → PlaceFound (row_start b row) (row_count b row) i o → CellAt b o
  cell_in Variables f =
      let p = counted (accepted b) (file_header b).variables i f.below in
      record { accepts = p.0; number = i; below = omega (arith, p.1); begins = f.begins }
  cell_in Bindings f =
      let p = counted (accepted b) (file_header b).bindings i f.below in
      record {
        accepts = p.0;
        number = (file_header b).variables + i;
        below = omega (arith, p.1);
        begins = omega (arith, f.begins);
      }

-- a number that no cell of a row has
pub past_in : (b : List ℕ) (row : Row) (i : ℕ) (v : Value) → row_count b row ≤ i
    → week_meaning b ≡ with_cell (week_meaning b) row i v
past_in b Variables i v h =
    let cs = row_cells b Variables in
    let same = put_past cs i v (omega (arith, h, length_cells b 8 (row_count b Variables))) in
    ap (λ xs. record (week_meaning b) { variables = xs }) (sym same)
past_in b Bindings i v h =
    let cs = row_cells b Bindings in
    let l = length_cells b (row_start b Bindings) (row_count b Bindings) in
    let same = put_past cs i v (omega (arith, h, l)) in
    ap (λ xs. record (week_meaning b) { bindings = xs }) (sym same)

-- a write to cell i of a row, in the file's meaning
module _ (b : List ℕ) (i o : ℕ) (v : Value) where
  -- the cells of that row
  row_put : (row : Row) → PlaceFound (row_start b row) (row_count b row) i o
      → row_cells (written b o v) row ≡ put (row_cells b row) i v
  row_put row f =
      let x = cell_in b i o row f in
      laid b o v x row
      ∙ cells_put b o v (fits b o x) (row_start b row) (row_count b row) i f.below f.begins

  formed : (row : Row) → CellAt b o
      → row_cells (written b o v) Variables ≡ (with_cell (week_meaning b) row i v).variables
      → row_cells (written b o v) Bindings ≡ (with_cell (week_meaning b) row i v).bindings
      → week_meaning (written b o v) ≡ with_cell (week_meaning b) row i v
  formed Variables x p q =
      let r = receiver_same b o v x in
      λ j. record {
        receiver = r j;
        variables = p j;
        bindings = q j;
        understands = (week_meaning b).understands;
      }
  formed Bindings x p q =
      let r = receiver_same b o v x in
      λ j. record {
        receiver = r j;
        variables = p j;
        bindings = q j;
        understands = (week_meaning b).understands;
      }

  pub put_in : (row : Row) → PlaceFound (row_start b row) (row_count b row) i o
      → week_meaning (written b o v) ≡ with_cell (week_meaning b) row i v
  put_in Variables f =
      let x = cell_in b i o Variables f in
      let p = counted (accepted b) (file_header b).variables i f.below in
      let other = same_cells b (written b o v) (row_start b Bindings) (row_count b Bindings)
      (λ k l m. after b o v (fits b o x) k (omega (arith, p.1, f.begins))) in
      formed Variables x (row_put Variables f) (laid b o v x Bindings ∙ other)
  put_in Bindings f =
      let x = cell_in b i o Bindings f in
      let p = counted (accepted b) (file_header b).bindings i f.below in
      let all : row_count b Variables ≡ (file_header b).variables =
      ap (λ t. if t then (file_header b).variables else 0) p.0 in
      let other = same_cells b (written b o v) (row_start b Variables) (row_count b Variables)
      (λ k l m. before b o v (fits b o x) k (omega (arith, f.begins, all))) in
      formed Bindings x (laid b o v x Variables ∙ other) (row_put Bindings f)
