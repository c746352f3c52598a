-- Cells that are there, numbers that no cell has, and what writes and messages leave of a host.
use Rattle.std.proofs.Common.{◌≡◌, ℕ, zero, suc, ◌≤◌, true, false, List, [], ◌∷◌, length, Err, sym, refl, ap, ◌∙◌, subst, le_of_suc-le-suc, not-suc-le-zero}
use Rattle.std.specs.Option.{option_map, ok_or}
use Rattle.std.proofs.lemmas.Option.{slice_get_past}
use Rattle.values.specs.Faults.{fault}
use Rattle.values.specs.declared.kinds.Value.{Value}
use Rattle.values.specs.declared.faults.Rule.TheVariants.{CellMissing}
use Rattle.hosts.specs.declared.rows.Row.{Row}
use Rattle.hosts.specs.declared.rows.Row.TheVariants.{Variables, Bindings}
use Rattle.hosts.specs.Meaning.{Cell, Meaning, Kept, Like, OpenOnly, asked, put, cell_value, row_of, with_cell, marks, marks_in, marks_of, marked}

-- a number at or above the count
pub asked_past : {X : Type 0} (f : Cell → X) (cs : List Cell) (i : ℕ)
    → length cs ≤ i → asked f cs i ≡ Err (fault CellMissing i)
asked_past f cs i h = ap (λ o. ok_or (option_map f o) (fault CellMissing i)) (slice_get_past cs i h)

pub put_past : (cs : List Cell) (i : ℕ) (v : Value) → length cs ≤ i → put cs i v ≡ cs
put_past [] i v h = refl
put_past (c ∷ cs) zero v h = absurd (not-suc-le-zero h)
put_past (c ∷ cs) (suc i) v h = ap (λ ds. c ∷ ds) (put_past cs i v (le_of_suc-le-suc h))

pub length_put : (cs : List Cell) (i : ℕ) (v : Value) → length (put cs i v) ≡ length cs
length_put [] i v = refl
length_put (c ∷ cs) zero v = refl
length_put (c ∷ cs) (suc i) v = ap suc (length_put cs i v)

-- a write leaves another cell
pub put_other : (cs : List Cell) (i j : ℕ) (v : Value)
    → (i ≡ j → ⊥) → cell_value (put cs i v) j ≡ cell_value cs j
put_other [] i j v n = refl
put_other (c ∷ cs) zero zero v n = absurd (n refl)
put_other (c ∷ cs) zero (suc j) v n = refl
put_other (c ∷ cs) (suc i) zero v n = refl
put_other (c ∷ cs) (suc i) (suc j) v n = put_other cs i j v (λ e. n (ap suc e))

-- and every mark
pub put_marks : (cs : List Cell) (i : ℕ) (v : Value) → marks (put cs i v) ≡ marks cs
put_marks [] i v = refl
put_marks (c ∷ cs) zero v = refl
put_marks (c ∷ cs) (suc i) v = ap (λ bs. c.trusted ∷ bs) (put_marks cs i v)

pub open_same : (cs : List Cell) → OpenOnly cs cs
open_same [] = tt
open_same (c ∷ cs) = (refl, (λ _. refl), open_same cs)

open_marks : (cs ds : List Cell) → OpenOnly cs ds → marks ds ≡ marks cs
open_marks [] [] h = refl
open_marks [] (d ∷ ds) h = absurd h
open_marks (c ∷ cs) [] h = absurd h
open_marks (c ∷ cs) (d ∷ ds) h = let a = h.0 in let b = open_marks cs ds h.2 in λ i. a i ∷ b i

open_trans : (cs ds es : List Cell) → OpenOnly cs ds → OpenOnly ds es → OpenOnly cs es
open_trans [] [] es h k = k
open_trans [] (d ∷ ds) es h k = absurd h
open_trans (c ∷ cs) [] es h k = absurd h
open_trans (c ∷ cs) (d ∷ ds) [] h k = absurd k
open_trans (c ∷ cs) (d ∷ ds) (e ∷ es) h k =
    (k.0 ∙ h.0, (λ t. k.1 (h.0 ∙ t) ∙ h.1 t), open_trans cs ds es h.2 k.2)

-- a write to a cell that is not trusted
put_open : (cs : List Cell) (i : ℕ) (v : Value)
    → marked (marks cs) i ≡ false → OpenOnly cs (put cs i v)
put_open [] i v h = tt
put_open (c ∷ cs) zero v h = (refl, (λ t. absurd cc), open_same cs)
put_open (c ∷ cs) (suc i) v h = (refl, (λ t. refl), put_open cs i v h)

-- a trusted cell of what is kept
pub open_trusted : (cs ds : List Cell) (i : ℕ)
    → OpenOnly cs ds → marked (marks cs) i ≡ true → cell_value ds i ≡ cell_value cs i
open_trusted [] [] i h e = refl
open_trusted [] (d ∷ ds) i h e = absurd h
open_trusted (c ∷ cs) [] i h e = absurd h
open_trusted (c ∷ cs) (d ∷ ds) zero h e = h.1 e
open_trusted (c ∷ cs) (d ∷ ds) (suc i) h e = open_trusted cs ds i h.2 e

-- what holds of either row
pub both_rows : (P : Row → Type 0) → P Variables → P Bindings → (row : Row) → P row
both_rows P v b Variables = v
both_rows P v b Bindings = b

-- the marks of a row are those of its cells
pub row_marks : (m : Meaning) (row : Row) → marks_in (marks_of m) row ≡ marks (row_of m row)
row_marks m Variables = refl
row_marks m Bindings = refl

joined : (m n : Meaning)
    → ((row : Row) → marks (row_of n row) ≡ marks (row_of m row)) → marks_of n ≡ marks_of m
joined m n e = let v = e Variables in let b = e Bindings in
    λ i. record { variables = v i; bindings = b i }

-- what stays as it is, is kept
pub kept_same : (m n : Meaning) → n ≡ m → Kept m n
kept_same m n e =
    subst (λ (k : Meaning). Kept m k) (sym e)
    (record { receiver = refl; cells = λ row. open_same (row_of m row); understands = refl })

pub kept_trans : {m n o : Meaning} → Kept m n → Kept n o → Kept m o
kept_trans {m} {n} {o} a b = record {
  receiver = b.receiver ∙ a.receiver;
  cells = λ row.
      open_trans (row_of m row) (row_of n row) (row_of o row) (a.cells row) (b.cells row);
  understands = b.understands ∙ a.understands;
}

pub kept_like : {m n : Meaning} → Kept m n → Like m n
kept_like {m} {n} k = record {
  receiver = k.receiver;
  understands = k.understands;
  marks = joined m n (λ row. open_marks (row_of m row) (row_of n row) (k.cells row));
}

pub like_trans : {m n o : Meaning} → Like m n → Like n o → Like m o
like_trans a b = record {
  receiver = b.receiver ∙ a.receiver;
  understands = b.understands ∙ a.understands;
  marks = b.marks ∙ a.marks;
}

pub like_same : {m n : Meaning} → n ≡ m → Like m n
like_same {m} {n} e = record {
  receiver = ap (λ (x : Meaning). x.receiver) e;
  understands = ap (λ (x : Meaning). x.understands) e;
  marks = ap marks_of e;
}

-- after a write to cell i of a row
module _ (m : Meaning) (i : ℕ) (v : Value) where
  pub write_like : (row : Row) → Like m (with_cell m row i v)
  write_like Variables = record {
    receiver = refl;
    understands = refl;
    marks = λ j. record { variables = put_marks m.variables i v j; bindings = marks m.bindings };
  }
  write_like Bindings = record {
    receiver = refl;
    understands = refl;
    marks = λ j. record { variables = marks m.variables; bindings = put_marks m.bindings i v j };
  }

  pub write_kept : (row : Row) → marked (marks_in (marks_of m) row) i ≡ false
      → Kept m (with_cell m row i v)
  write_kept Variables h = record {
    receiver = refl;
    cells = both_rows (λ r. OpenOnly (row_of m r) (row_of (with_cell m Variables i v) r))
        (put_open m.variables i v h) (open_same m.bindings);
    understands = refl;
  }
  write_kept Bindings h = record {
    receiver = refl;
    cells = both_rows (λ r. OpenOnly (row_of m r) (row_of (with_cell m Bindings i v) r))
        (open_same m.variables) (put_open m.bindings i v h);
    understands = refl;
  }
