-- What may come of a message over the layer keeps what the host below keeps.
use Rattle.std.specs.Prelude.{◌≡◌, ◌≤◌, Bool, ◌||◌, length, is_some, Some, None, Option, MatchOption}
use Rattle.std.proofs.Common.{ap}
use Rattle.values.specs.declared.kinds.Value.{Value}
use Rattle.hosts.specs.declared.rows.Row.{Row}
use Rattle.hosts.specs.declared.rows.Row.TheVariants.{Variables, Bindings}
use Rattle.hosts.specs.declared.rows.TheConstants.{MAX_CELLS}
use Rattle.hosts.specs.Meaning.{Meaning, Sent, Kept, OpenOnly, row_of}
use Rattle.hosts.proofs.Cells.{both_rows, kept_same}
use Rattle.arithmetic.specs.Own.{own_answer}
use Rattle.arithmetic.specs.Layer.{layered, MayLayered}

kept_layered : (m n : Meaning) → Kept m n → Kept (layered m) (layered n)
kept_layered m n k = record {
  receiver = k.receiver;
  cells = both_rows (λ row. OpenOnly (row_of (layered m) row) (row_of (layered n) row))
      (k.cells Variables) (k.cells Bindings);
  understands =
      ap (λ (u : Sent → Bool). λ (j : Sent). is_some (own_answer j) || u j) k.understands;
}

module _ {S : Type 0} (means : S → Meaning) where
  module _ (may : S → Sent → Value → S → Type 0)
      (kept : (s t : S) (m : Sent) (v : Value) → may s m v t → Kept (means s) (means t)) where
    kept_by : (o : Option Value) (s t : S) (m : Sent) (v : Value)
        → MatchOption o (may s m v t) (λ w. (v ≡ w) × (t ≡ s)) → Kept (means s) (means t)
    kept_by None s t m v h = kept s t m v h
    kept_by (Some w) s t m v h = kept_same (means s) (means t) (ap means h.1)

    pub kept_over : (s t : S) (m : Sent) (v : Value) → MayLayered may s m v t
        → Kept (layered (means s)) (layered (means t))
    kept_over s t m v h = kept_layered (means s) (means t) (kept_by (own_answer m) s t m v h)

  -- the rows over the layer are those below
  pub few_over : ((s : S) (row : Row) → length (row_of (means s) row) ≤ MAX_CELLS)
      → (s : S) (row : Row) → length (row_of (layered (means s)) row) ≤ MAX_CELLS
  few_over few s Variables = few s Variables
  few_over few s Bindings = few s Bindings
