-- Cells in a row: where each begins, and what is read from it.
use Rattle.std.specs.Prelude.{◌≡◌, ℕ, zero, suc, ◌+◌, ◌*◌, ◌<◌, ◌≤◌, Bool, true, false, ◌≢◌, List, [], ◌∷◌, length, Some, Ok, Err, nat_lt, refl, if◌then◌else◌}
use Rattle.std.proofs.Common.{sym, ap, ◌∙◌, arith, le_of_suc-le-suc, not-suc-le-zero}
use Rattle.std.specs.Option.{option_map, ok_or}
use Rattle.std.specs.List.{slice_get}
use Rattle.std.proofs.lemmas.Bool.{ltb-true, ltb-false}
use Rattle.values.specs.Faults.{fault}
use Rattle.values.specs.declared.faults.Fault.{Fault}
use Rattle.values.specs.declared.faults.Rule.TheVariants.{CellMissing}
use Rattle.values.specs.declared.kinds.Value.{Value}
use Rattle.hosts.specs.Meaning.{Cell, asked, put}
use Rattle.hosts.proofs.Cells.{asked_past}
use Rattle.week_file.specs.Cells.{raw_at, cell_of}
use Rattle.week_file.specs.Files.{cells_from, place_in}
use Rattle.week_file.specs.declared.cells.TheConstants.{CELL_BYTES}

pub length_cells : (b : List ℕ) (o n : ℕ) → length (cells_from b o n) ≡ n
length_cells b o zero = refl
length_cells b o (suc n) = ap suc (length_cells b (o + CELL_BYTES) n)

pub nth_cells : (b : List ℕ) (o n k : ℕ) → k < n
    → slice_get (cells_from b o n) k ≡ Some (cell_of (raw_at b (o + CELL_BYTES * k)))
nth_cells b o zero k h = absurd (not-suc-le-zero h)
nth_cells b o (suc n) zero h = ap (λ p. Some (cell_of (raw_at b p))) (omega arith)
nth_cells b o (suc n) (suc k) h =
    nth_cells b (o + CELL_BYTES) n k (le_of_suc-le-suc h)
    ∙ ap (λ p. Some (cell_of (raw_at b p))) (omega arith)

-- cell i of n cells from s on is there, and begins at p
pub record PlaceFound (s n i p : ℕ) : Type 0 where
  pub below : i < n
  pub begins : p ≡ s + CELL_BYTES * i

-- there is no cell i, which f says
pub record PlaceMissing (n i : ℕ) (f : Fault) : Type 0 where
  pub past : n ≤ i
  pub says : f ≡ fault CellMissing i

module _ (s n i : ℕ) where
  found_by : (t : Bool) (p : ℕ) → nat_lt i n ≡ t
      → Ok p ≡ (if t then Ok (s + CELL_BYTES * i) else Err (fault CellMissing i))
      → PlaceFound s n i p
  found_by true p e h = record { below = ltb-true i n e; begins = cc }
  found_by false p e h = absurd cc

  pub place_found : (p : ℕ) → Ok p ≡ place_in s n i → PlaceFound s n i p
  place_found p h = found_by (nat_lt i n) p refl h

  missing_by : (t : Bool) (f : Fault) → nat_lt i n ≡ t
      → Err f ≡ (if t then Ok (s + CELL_BYTES * i) else Err (fault CellMissing i))
      → PlaceMissing n i f
  missing_by true f e h = absurd cc
  missing_by false f e h = record { past = ltb-false i n e; says = cc }

  pub place_missing : (f : Fault) → Err f ≡ place_in s n i → PlaceMissing n i f
  place_missing f h = missing_by (nat_lt i n) f refl h

  -- what is asked of cell i is said by its six bytes, or by the fault
  pub asked_found : {X : Type 0} (f : Cell → X) (b : List ℕ) (p : ℕ) → Ok p ≡ place_in s n i
      → Ok (f (cell_of (raw_at b p))) ≡ asked f (cells_from b s n) i
  asked_found f b p e =
      let h = place_found p e in
      ap (λ q. Ok (f (cell_of (raw_at b q)))) h.begins
      ∙ sym (ap (λ o. ok_or (option_map f o) (fault CellMissing i)) (nth_cells b s n i h.below))

  pub asked_missing : {X : Type 0} (f : Cell → X) (b : List ℕ) (y : Fault)
      → Err y ≡ place_in s n i → Err y ≡ asked f (cells_from b s n) i
  asked_missing f b y e =
      let h = place_missing y e in
      ap Err h.says
      ∙ sym (asked_past f (cells_from b s n) i (omega (arith, h.past, length_cells b s n)))

-- a value that is put into a cell
pub nth_put : (cs : List Cell) (i : ℕ) (v : Value) (c : Cell) → slice_get cs i ≡ Some c
    → slice_get (put cs i v) i ≡ Some (record { trusted = c.trusted; value = v })
nth_put [] i v c e = absurd cc
nth_put (d ∷ cs) zero v c e =
    let q : d ≡ c = cc in
    ap (λ (x : Cell). Some (record { trusted = x.trusted; value = v })) q
nth_put (d ∷ cs) (suc i) v c e = nth_put cs i v c e

pub nth_put_other : (cs : List Cell) (i j : ℕ) (v : Value) → j ≢ i
    → slice_get (put cs i v) j ≡ slice_get cs j
nth_put_other [] i j v h = refl
nth_put_other (c ∷ cs) zero zero v h = absurd (h refl)
nth_put_other (c ∷ cs) zero (suc j) v h = refl
nth_put_other (c ∷ cs) (suc i) zero v h = refl
nth_put_other (c ∷ cs) (suc i) (suc j) v h = nth_put_other cs i j v (λ e. h (ap suc e))
