-- What an accepted file keeps.
use Rattle.std.specs.Prelude.{◌≡◌, ℕ, zero, suc, ◌+◌, ◌*◌, ◌<◌, ◌≤◌, Bool, true, false, ◌⊎◌, List, is_some, Some, None, Option, ◌==◌, refl, if◌then◌else◌}
use Rattle.std.proofs.Common.{ap, ◌∙◌, inl, inr, suc-le-suc, arith, le_of_suc-le-suc, not-suc-le-zero}
use Rattle.std.proofs.lemmas.Bool.{eqb-true, eq-eqb, not-true, not-false, not_from_true, not_from_false, ltb-false, le-ltb}
use Rattle.values.proofs.Firsts.{NoneApplies, none_from, none_to}
use Rattle.values.specs.declared.kinds.Value.{Value}
use Rattle.hosts.specs.declared.rows.Row.TheVariants.{Variables, Bindings}
use Rattle.hosts.specs.declared.rows.TheConstants.{MAX_CELLS}
use Rattle.hosts.proofs.Cells.{both_rows}
use Rattle.week_file.specs.Cells.{RawCell, raw_at, raw_value, trusted_by, stored_by, keeps_rules}
use Rattle.week_file.specs.Headers.{file_header, header_count, cell_start, cell_count}
use Rattle.week_file.specs.Files.{cell_tests, file_tests, accepted}
use Rattle.week_file.specs.Laws.{Sound, IsWeekFile, AcceptsExactly}
use Rattle.week_file.specs.declared.cells.TheConstants.{CELL_BYTES}
use Rattle.week_file.specs.declared.headers.TheConstants.{HEADER_BYTES}

-- a cell that keeps its rules has a mark and a value
mark_by : (m : ℕ) (a b : Bool) → (m == 0) ≡ a → (m == 1) ≡ b
    → is_some (if a then Some false else if b then Some true else None) ≡ true → (m ≡ 0) ⊎ (m ≡ 1)
mark_by m true b p q e = inl (eqb-true m 0 p)
mark_by m false true p q e = inr (eqb-true m 1 q)
mark_by m false false p q e = absurd cc

sound_by : (m : ℕ) (o : Option Bool) (p : Option Value) → trusted_by m ≡ o
    → is_some (stored_by o p) ≡ true → ((m ≡ 0) ⊎ (m ≡ 1)) × ((v : Value) × (p ≡ Some v))
sound_by m (Some t) (Some v) q e =
    (mark_by m (m == 0) (m == 1) refl refl (ap is_some q), (v, refl))
sound_by m (Some t) None q e = absurd cc
sound_by m None p q e = absurd cc

sound_from : (c : RawCell) → keeps_rules c ≡ true → Sound c
sound_from c e = sound_by c.mark (trusted_by c.mark) (raw_value c) refl e

sound_to : (c : RawCell) → Sound c → keeps_rules c ≡ true
sound_to c (inl m, s) =
    ap (λ k. is_some (stored_by (trusted_by k) (raw_value c))) m
    ∙ ap (λ o. is_some (stored_by (Some false) o)) s.1
sound_to c (inr m, s) =
    ap (λ k. is_some (stored_by (trusted_by k) (raw_value c))) m
    ∙ ap (λ o. is_some (stored_by (Some true) o)) s.1

-- n cells from o on keep their rules exactly if no test of them applies
cells_keep : (b : List ℕ) (o n : ℕ) → NoneApplies (cell_tests b o n)
    → (k : ℕ) → k < n → keeps_rules (raw_at b (o + CELL_BYTES * k)) ≡ true
cells_keep b o zero e k h = absurd (not-suc-le-zero h)
cells_keep b o (suc n) e zero h =
    ap (λ z. keeps_rules (raw_at b z)) (omega arith) ∙ not-false _ e.0
cells_keep b o (suc n) e (suc k) h =
    ap (λ z. keeps_rules (raw_at b z)) (omega arith)
    ∙ cells_keep b (o + CELL_BYTES) n e.1 k (le_of_suc-le-suc h)

cells_pass : (b : List ℕ) (o n : ℕ)
    → ((k : ℕ) → k < n → keeps_rules (raw_at b (o + CELL_BYTES * k)) ≡ true)
    → NoneApplies (cell_tests b o n)
cells_pass b o zero h = tt
cells_pass b o (suc n) h =
    let next : (k : ℕ) → k < n → keeps_rules (raw_at b (o + CELL_BYTES + CELL_BYTES * k)) ≡ true =
    λ k l. ap (λ z. keeps_rules (raw_at b z)) (omega arith) ∙ h (suc k) (suc-le-suc l) in
    let here : keeps_rules (raw_at b o) ≡ true =
    ap (λ z. keeps_rules (raw_at b z)) (omega arith) ∙ h 0 (omega arith) in
    (not_from_true _ here, cells_pass b (o + CELL_BYTES) n next)

module _ (b : List ℕ) where
  pub kept : accepted b ≡ true → IsWeekFile b
  kept e =
      let p = none_from (file_tests b) (not-true _ e) in
      record {
        header = ltb-false _ _ p.0;
        few = both_rows (λ r. header_count (file_header b) r ≤ MAX_CELLS)
            (ltb-false _ _ p.1.0) (ltb-false _ _ p.1.1.0);
        ends = eqb-true _ _ (not-false _ p.1.1.1.0);
        sound = λ k h.
            sound_from (raw_at b (cell_start k))
            (cells_keep b HEADER_BYTES (cell_count (file_header b)) p.1.1.1.1 k h);
      }

  pub accept : IsWeekFile b → accepted b ≡ true
  accept w =
      let cells = cells_pass b HEADER_BYTES (cell_count (file_header b))
      (λ k h. sound_to (raw_at b (cell_start k)) (w.sound k h)) in
      not_from_false _ (none_to (file_tests b) (
        le-ltb _ _ w.header,
        (
          le-ltb _ _ (w.few Variables),
          (
            le-ltb _ _ (w.few Bindings),
            (not_from_true _ (eq-eqb _ _ w.ends), cells),
          ),
        ),
      ))

pub accepts_exactly : AcceptsExactly
accepts_exactly b = (kept b, accept b)
