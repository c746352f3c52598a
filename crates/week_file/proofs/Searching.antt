-- The search for a cell that breaks its rules.
use Rattle.std.proofs.Common.{is_some, ◌⊎◌, inl, inr, None, ◌≡◌, ℕ, zero, suc, ◌+◌, ◌-◌, ◌/◌, ◌<◌, length, length-drop, Bool, true, false, cond, not, List, take, drop, Some, Option, refl, sym, ap, ◌∙◌, arith}
use Rattle.std.specs.Option.{option_map, unwrap_or}
use Rattle.std.specs.List.{position_from, position}
use Rattle.std.specs.Simd.{first_chunks}
use Rattle.std.proofs.lemmas.List.{take_all, drop-drop, get_or-take, get_or-drop}
use Rattle.std.proofs.lemmas.Iterator.Adapters.{position_from-zero}
use Rattle.values.specs.Bytes.{at}
use Rattle.values.specs.Faults.{fault}
use Rattle.values.specs.Order.{first}
use Rattle.values.specs.declared.faults.Fault.{Fault}
use Rattle.values.specs.declared.faults.Rule.TheVariants.{CellWrong}
use Rattle.values.specs.declared.kinds.Value.{Value}
use Rattle.values.specs.declared.kinds.Value.TheVariants.{Nil}
use Rattle.week_file.specs.Laws.{Sound}
use Rattle.week_file.specs.Cells.{RawCell, raw_at, raw_value, keeps_rules, breaks_rules, trusted_by, stored_by, stored, filed}
use Rattle.week_file.specs.Headers.{cell_start}
use Rattle.week_file.specs.Files.{cell_tests}
use Rattle.week_file.proofs.Pieces.{same_raw}

-- the fault of cell k
abbrev pub wrong_at : ℕ → Fault
wrong_at k = fault CellWrong (cell_start k)

-- a cell in six bytes of its own
six_at : (b : List ℕ) (o k : ℕ) → k < 6 → at (take 6 (drop o b)) k ≡ at b (o + k)
six_at b o k h = get_or-take 6 (drop o b) k 0 h ∙ get_or-drop o b k 0

pub six_raw : (b : List ℕ) (o : ℕ) → raw_at (take 6 (drop o b)) 0 ≡ raw_at b o
six_raw b o =
    let c = take 6 (drop o b) in
    let mark : at c 0 ≡ at b o = six_at b o 0 (omega arith) ∙ ap (at b) (omega arith) in
    let kind = six_at b o 1 (omega arith) in
    let p : at c 3 ≡ at b (o + 2 + 1) = six_at b o 3 (omega arith) ∙ ap (at b) (omega arith) in
    let q : at c 4 ≡ at b (o + 2 + 2) = six_at b o 4 (omega arith) ∙ ap (at b) (omega arith) in
    let r : at c 5 ≡ at b (o + 2 + 3) = six_at b o 5 (omega arith) ∙ ap (at b) (omega arith) in
    same_raw _ _ _ _ _ _ mark kind (omega (arith, six_at b o 2 (omega arith), p, q, r))

-- the number of the first wrong one among the n chunks in which the cells from the one numbered i
-- on lie
abbrev search_from : List ℕ → ℕ → ℕ → Option ℕ
search_from b n i = position_from breaks_rules i (first_chunks 6 n (drop (cell_start i) b))

turn : (t : Bool) (i : ℕ) (x : Option Fault) (y : Option ℕ) → x ≡ option_map wrong_at y
    → cond t (Some (wrong_at i)) x ≡ option_map wrong_at (cond t (Some i) y)
turn true i x y e = refl
turn false i x y e = e

-- the first fault among those cells is that of the first wrong chunk
searched : (b : List ℕ) (n i : ℕ)
    → first (cell_tests b (cell_start i) n) ≡ option_map wrong_at (search_from b n i)
searched b zero i = refl
searched b (suc n) i =
    let o = cell_start i in
    let here = take 6 (drop o b) in
    let next : o + 6 ≡ cell_start (i + 1) = omega arith in
    let rest : drop 6 (drop o b) ≡ drop (cell_start (i + 1)) b =
    drop-drop 6 o b ∙ ap (λ p. drop p b) next in
    let wrong : not (keeps_rules (raw_at b o)) ≡ breaks_rules here =
    ap (λ r. not (keeps_rules r)) (sym (six_raw b o)) in
    ap (λ p. cond (not (keeps_rules (raw_at b o))) (Some (wrong_at i)) (first (cell_tests b p n)))
    next
    ∙ turn (not (keeps_rules (raw_at b o))) i _ _ (searched b n (i + 1))
    ∙ ap (λ t. option_map wrong_at (cond t (Some i) (search_from b n (i + 1)))) wrong
    ∙ ap (λ l. option_map wrong_at (cond (breaks_rules here) (Some i)
    (position_from breaks_rules (i + 1) (first_chunks 6 n l)))) (sym rest)

-- what the search answers by the number of the first wrong chunk
module _ (b : List ℕ) (cs : List (List ℕ)) (r : Option ℕ) where
  pub answered_by : (let d = take (length b - 8) (drop 8 b) in cs ≡ first_chunks 6 (length d / 6) d)
      → r ≡ position breaks_rules cs
      → option_map wrong_at r ≡ first (cell_tests b 8 ((length b - 8) / 6))
  answered_by q e =
      let n = (length b - 8) / 6 in
      let whole : take (length b - 8) (drop 8 b) ≡ drop 8 b =
      take_all (length b - 8) (drop 8 b) (omega (arith, length-drop 8 b)) in
      let chunks : cs ≡ first_chunks 6 n (drop 8 b) =
      q ∙ ap (λ l. first_chunks 6 (length l / 6) l) whole
      ∙ ap (λ k. first_chunks 6 (k / 6) (drop 8 b)) (length-drop 8 b) in
      ap (option_map wrong_at)
      (e ∙ ap (position breaks_rules) chunks
      ∙ position_from-zero breaks_rules (first_chunks 6 n (drop 8 b)))
      ∙ sym (searched b n 0)

-- a sound cell is read
stored_some : (t : Bool) (o : Option Value) → is_some o ≡ true
    → stored_by (Some t) o ≡ Some (record { trusted = t; value = unwrap_or o Nil })
stored_some t (Some w) e = refl
stored_some t None e = absurd cc

pub sound_stored : (c : RawCell) → Sound c → stored c ≡ Some (filed c)
sound_stored c s = by (trusted_by c.mark) (marked s.0)
  where
    marked : (c.mark ≡ 0) ⊎ (c.mark ≡ 1) → is_some (trusted_by c.mark) ≡ true
    marked (inl e) = ap (λ m. is_some (trusted_by m)) e
    marked (inr e) = ap (λ m. is_some (trusted_by m)) e

    by : (o : Option Bool) → is_some o ≡ true → stored_by o (raw_value c)
        ≡ Some (record { trusted = unwrap_or o false; value = unwrap_or (raw_value c) Nil })
    by (Some t) e = stored_some t (raw_value c) (ap is_some s.1.1)
    by None e = absurd cc
