-- From frames and hosts that agree below the counts, a script that stays within them comes to one
-- outcome, and writes the same.
use Rattle.std.proofs.Common.{◌≡◌, ℕ, zero, suc, ◌+◌, ◌<◌, ◌≤◌, Bool, true, false, ◌⊎◌, List, [], ◌∷◌, length, take, drop, set, get_or, Some, None, Option, sym, refl, ap, ◌∙◌, subst, inl, inr, arith, length-set}
use Rattle.std.proofs.Math.Seq.{take-set-lt}
use Rattle.std.proofs.lemmas.Bool.{cases_eq}
use Rattle.std.proofs.lemmas.List.{get_or-take, drop-take}
use Rattle.values.specs.declared.kinds.Value.{Value}
use Rattle.values.specs.declared.kinds.Value.TheVariants.{Nil}
use Rattle.hosts.specs.declared.rows.Row.{Row}
use Rattle.hosts.specs.declared.rows.Row.TheVariants.{Variables, Bindings}
use Rattle.hosts.specs.Meaning.{Cell, Meaning, Sent, put, row_of, with_cell, cell_value}
use Rattle.hosts.proofs.Cells.{put_other, length_put}
use Rattle.parcels.specs.Literals.{literal}
use Rattle.semantics.specs.Scripts.{Access, read_cell, read_cells, write_cell, read_literal, read_receiver, read_row, write_row, send, Answer, Outcome, Leaf, comes_to, stuck, Script, act, done}
use Rattle.semantics.specs.Execution.{answer_of, frame_after, Exec, Everywhere}
use Rattle.semantics.specs.Properties.{Counts, row_count, InBounds, AgreeBelow}
use Rattle.semantics.proofs.Executing.{NoMessage, sent_is, everywhere_leaf}
use Rattle.semantics.proofs.Operations.{Comes, Settles}

-- shorter beginnings of lists that begin alike
shorter : {X : Type 0} (i n : ℕ) (f g : List X) → i ≤ n → take n g ≡ take n f → take i g ≡ take i f
shorter zero n f g h e = refl
shorter (suc i) zero f g h e = absurd (omega (arith, h))
shorter (suc i) (suc n) [] [] h e = refl
shorter (suc i) (suc n) [] (y ∷ g) h e = absurd cc
shorter (suc i) (suc n) (x ∷ f) [] h e = absurd cc
shorter {X = X} (suc i) (suc n) (x ∷ f) (y ∷ g) h e =
    let head : y ≡ x = cc in
    let tail : take n g ≡ take n f = cc in
    ap (λ z. z ∷ take i g) head ∙ ap (λ (t : List X). x ∷ t) (shorter i n f g (omega (arith, h)) tail)

-- what is put is there
put_same : (cs : List Cell) (i : ℕ) (v : Value) → i < length cs → cell_value (put cs i v) i ≡ v
put_same [] i v l = absurd (omega (arith, l))
put_same (c ∷ cs) zero v l = refl
put_same (c ∷ cs) (suc i) v l = put_same cs i v (omega (arith, l))

put_alike : (n : ℕ) (cs ds : List Cell) (i j : ℕ) (v : Value) → n ≤ length cs → n ≤ length ds → i < n
    → cell_value ds j ≡ cell_value cs j → cell_value (put ds i v) j ≡ cell_value (put cs i v) j
put_alike n cs ds i j v lc ld low e = elim (cases_eq i j) [
  | inl same ↦ (let at = λ (xs : List Cell) (l : n ≤ length xs). subst (λ (k : ℕ). cell_value (put xs i v) k ≡ v) same (put_same xs i v (omega (arith, low, l))) in at ds ld ∙ sym (at cs lc))
  | inr other ↦ put_other ds i j v other ∙ e ∙ sym (put_other cs i j v other)
]

module _ (literals : List ℕ) (n : Counts) where
  -- both answer an access alike
  answers_alike : (a : Access) (f : List Value) (m : Meaning) (g : List Value) (k : Meaning)
      → InBounds n a → AgreeBelow n f m g k → answer_of literals a g k ≡ answer_of literals a f m
  answers_alike (read_cell i) f m g k w e =
      sym (get_or-take n.cells g i Nil w) ∙ ap (λ (x : List Value). get_or x i Nil) e.frames
      ∙ get_or-take n.cells f i Nil w
  answers_alike (read_cells i c) f m g k w e =
      sym (drop-take i c g) ∙ ap (drop i) (shorter (i + c) n.cells f g w e.frames) ∙ drop-take i c f
  answers_alike read_receiver f m g k w e = e.receiver
  answers_alike (read_row r i) f m g k w e = e.rows r i w
  answers_alike a f m g k w e = refl

  -- and agree after a write to the frame
  frames_alike : (a : Access) (f : List Value) (m : Meaning) (g : List Value) (k : Meaning)
      → InBounds n a → AgreeBelow n f m g k → AgreeBelow n (frame_after a f) m (frame_after a g) k
  frames_alike (write_cell i v) f m g k w e = record {
    frames = take-set-lt n.cells g i v w ∙ ap (λ (x : List Value). set x i v) e.frames ∙ sym (take-set-lt n.cells f i v w);
    rows = e.rows;
    receiver = e.receiver;
    understands = e.understands;
    long = (subst (λ (l : ℕ). n.cells ≤ l) (sym (length-set f i v)) e.long.0, subst (λ (l : ℕ). n.cells ≤ l) (sym (length-set g i v)) e.long.1);
    counted = e.counted;
  }
  frames_alike a f m g k w e = e

  -- and after a write to a row
  rows_alike : (r : Row) (i : ℕ) (v : Value) (f : List Value) (m : Meaning) (g : List Value) (k : Meaning)
      → i < row_count n r → AgreeBelow n f m g k → AgreeBelow n f (with_cell m r i v) g (with_cell k r i v)
  rows_alike Variables i v f m g k w e = record {
    frames = e.frames;
    rows = λ row j l. by row j l;
    receiver = e.receiver;
    understands = e.understands;
    long = e.long;
    counted = λ row. counted row;
  }
    where
      by : (row : Row) (j : ℕ) → j < row_count n row
          → cell_value (row_of (with_cell k Variables i v) row) j ≡ cell_value (row_of (with_cell m Variables i v) row) j
      by Variables j l = put_alike n.variables m.variables k.variables i j v (e.counted Variables).0 (e.counted Variables).1 w (e.rows Variables j l)
      by Bindings j l = e.rows Bindings j l

      counted : (row : Row) → (row_count n row ≤ length (row_of (with_cell m Variables i v) row)) × (row_count n row ≤ length (row_of (with_cell k Variables i v) row))
      counted Variables = (
        subst (λ (l : ℕ). n.variables ≤ l) (sym (length_put m.variables i v)) (e.counted Variables).0,
        subst (λ (l : ℕ). n.variables ≤ l) (sym (length_put k.variables i v)) (e.counted Variables).1,
      )
      counted Bindings = e.counted Bindings
  rows_alike Bindings i v f m g k w e = record {
    frames = e.frames;
    rows = λ row j l. by row j l;
    receiver = e.receiver;
    understands = e.understands;
    long = e.long;
    counted = λ row. counted row;
  }
    where
      by : (row : Row) (j : ℕ) → j < row_count n row
          → cell_value (row_of (with_cell k Bindings i v) row) j ≡ cell_value (row_of (with_cell m Bindings i v) row) j
      by Variables j l = e.rows Variables j l
      by Bindings j l = put_alike n.bindings m.bindings k.bindings i j v (e.counted Bindings).0 (e.counted Bindings).1 w (e.rows Bindings j l)

      counted : (row : Row) → (row_count n row ≤ length (row_of (with_cell m Bindings i v) row)) × (row_count n row ≤ length (row_of (with_cell k Bindings i v) row))
      counted Variables = e.counted Variables
      counted Bindings = (
        subst (λ (l : ℕ). n.bindings ≤ l) (sym (length_put m.bindings i v)) (e.counted Bindings).0,
        subst (λ (l : ℕ). n.bindings ≤ l) (sym (length_put k.bindings i v)) (e.counted Bindings).1,
      )

  module _ {S : Type 0} (means : S → Meaning) (may : S → Sent → Value → S → Type 0) where
    -- one outcome, and, where no message is sent, frames and hosts that agree again
    abbrev pub Alike : Script → Outcome → List Value → S → Outcome → List Value → S → Type 0
    Alike c o f' s' b g' t' =
        (b ≡ o)
        × (Everywhere literals NoMessage (λ _. Unit {0}) c → AgreeBelow n f' (means s') g' (means t'))

    pub alike : (L : Leaf → Type 0) (c : Script) (f : List Value) (s : S) (o : Outcome) (f' : List Value) (s' : S)
        (g : List Value) (t : S) (b : Outcome) (g' : List Value) (t' : S)
        → Settles literals c → Everywhere literals (InBounds n) L c → AgreeBelow n f (means s) g (means t)
        → Exec literals means may c f s o f' s' → Exec literals means may c g t b g' t'
        → Alike c o f' s' b g' t'
    alike L (act (read_literal i) k) f s o f' s' g t b g' t' u w e r x =
        let y = alike L (k (literal literals i)) f s o f' s' g t b g' t' u w.1 e r x in
        (y.0, λ q. y.1 q.1)
    alike L (act (write_row q i v) k) f s o f' s' g t b g' t' u w e r x =
        let y = alike L (k tt) f r.0 o f' s' g x.0 b g' t' (u tt) (w.1 tt)
        (subst (λ (m : Meaning). AgreeBelow n f m g (means x.0)) (sym r.1)
        (subst (λ (m : Meaning). AgreeBelow n f (with_cell (means s) q i v) g m) (sym x.1)
        (rows_alike q i v f (means s) g (means t) w.0 e))) r.2 x.2 in
        (y.0, λ z. y.1 (z.1 tt))
    alike L (act (send m) k) f s o f' s' g t b g' t' u w e r x =
        (by (sent_is literals means may s r.1 m r.0 r.2) (sent_is literals means may t x.1 m x.0 x.2), λ z. absurd z.0)
      where
        differ : ◌≡◌ {A = Bool} false true → ⊥
        differ d = absurd cc

        came : {z : Option Value} (y : Option Value) (v : Outcome) (f : List Value) (s : S) (o : Outcome) (f' : List Value) (s' : S)
            → Comes literals v (k y) → z ≡ y → Exec literals means may (k z) f s o f' s' → o ≡ v
        came {z} y v f s o f' s' c q d =
            let l = everywhere_leaf literals means may NoMessage (λ l. l ≡ comes_to v) (k y) f s o f' s' c
            (subst (λ (a : Option Value). Exec literals means may (k a) f s o f' s') q d) in cc

        by : (((v : Value) × (r.0 ≡ Some v) × may s m v r.1 × ((means s).understands m ≡ true))
            ⊎ ((r.0 ≡ None) × (means r.1 ≡ means s) × ((means s).understands m ≡ false)))
            → (((v : Value) × (x.0 ≡ Some v) × may t m v x.1 × ((means t).understands m ≡ true))
            ⊎ ((x.0 ≡ None) × (means x.1 ≡ means t) × ((means t).understands m ≡ false)))
            → b ≡ o
        by (inl y) (inl z) = came (Some z.0) u.0 g x.1 b g' t' (u.3 z.0) z.1 x.3 ∙ sym (came (Some y.0) u.0 f r.1 o f' s' (u.3 y.0) y.1 r.3)
        by (inl y) (inr z) = absurd (differ (sym z.2 ∙ ap (λ (h : Sent → Bool). h m) e.understands ∙ y.3))
        by (inr y) (inl z) = absurd (differ (sym y.2 ∙ sym (ap (λ (h : Sent → Bool). h m) e.understands) ∙ z.3))
        by (inr y) (inr z) = came None u.1 g x.1 b g' t' u.2 z.0 x.3 ∙ sym (came None u.1 f r.1 o f' s' u.2 y.0 r.3)
    alike L (act a k) f s o f' s' g t b g' t' u w e r x =
        let v = answer_of literals a f (means s) in
        let y = alike L (k v) (frame_after a f) s o f' s' (frame_after a g) t b g' t' (u v) (w.1 v)
        (frames_alike a f (means s) g (means t) w.0 e) r
        (subst (λ (z : Answer a). Exec literals means may (k z) (frame_after a g) t b g' t')
        (answers_alike a f (means s) g (means t) w.0 e) x) in
        (y.0, λ z. y.1 (z.1 v))
    alike L (done (comes_to q)) f s o f' s' g t b g' t' u w e r x = (
      x.0 ∙ sym r.0,
      λ z.
          subst (λ (h : List Value). AgreeBelow n h (means s') g' (means t')) (sym r.1)
          (subst (λ (h : List Value). AgreeBelow n f (means s') h (means t')) (sym x.1)
          (subst (λ (h : S). AgreeBelow n f (means h) g (means t')) (sym r.2)
          (subst (λ (h : S). AgreeBelow n f (means s) g (means h)) (sym x.2) e))),
    )
    alike L (done stuck) f s o f' s' g t b g' t' u w e r x = absurd r
