-- What comes of a script, by what holds of it.
use Rattle.std.proofs.Common.{◌≡◌, ℕ, Bool, true, false, ◌⊎◌, List, Some, None, MatchBool, MatchOption, Option, get_or, sym, refl, ap, ◌∙◌, subst, inl, inr}
use Rattle.std.proofs.lemmas.List.{get_or-set_other}
use Rattle.values.specs.declared.kinds.Value.{Value}
use Rattle.values.specs.declared.kinds.Value.TheVariants.{Nil}
use Rattle.hosts.specs.declared.rows.Row.{Row}
use Rattle.hosts.specs.declared.rows.Row.TheVariants.{Variables, Bindings}
use Rattle.hosts.specs.Meaning.{Meaning, Sent, Marks, row_of, cell_value, Kept, Like, Answered, marks_of, marks_in, marked, with_cell}
use Rattle.hosts.proofs.Cells.{put_other, kept_same, kept_trans, kept_like, like_trans, like_same, write_like, write_kept}
use Rattle.parcels.specs.Literals.{literal}
use Rattle.semantics.specs.Scripts.{Access, write_cell, read_literal, write_row, send, Answer, Outcome, Leaf, comes_to, stuck, Script, act, done}
use Rattle.semantics.specs.Execution.{answer_of, frame_after, Does, Exec, ForAnswers, Everywhere}

-- where a value is held: a cell of the frame, or a cell of one of the host's rows
pub data Location : Type 0 where
  in_frame : ℕ → Location
  in_row : Row → ℕ → Location

-- what is held there
abbrev pub held_at : Location → List Value → Meaning → Value
held_at (in_frame i) f m = get_or f i Nil
held_at (in_row r i) f m = cell_value (row_of m r) i

-- a message may alter the host, and never the frame
abbrev pub OutOfReach : Location → Type 0
OutOfReach (in_frame i) = Unit {0}
OutOfReach (in_row r i) = ⊥

-- an access writes elsewhere, and is no message that might alter the location
abbrev pub Spares : Location → Access → Type 0
Spares p (write_cell i v) = in_frame i ≡ p → ⊥
Spares p (write_row r i v) = in_row r i ≡ p → ⊥
Spares p (send m) = OutOfReach p
Spares p _ = Unit {0}

-- an access is no message
abbrev pub NoMessage : Access → Type 0
NoMessage (send m) = ⊥
NoMessage _ = Unit {0}

-- an access leaves the host: it is no write to a row and no message
abbrev pub LeavesHost : Access → Type 0
LeavesHost (write_row r i v) = ⊥
LeavesHost (send m) = ⊥
LeavesHost _ = Unit {0}

-- an access writes no trusted cell
abbrev pub WritesOpen : Marks → Access → Type 0
WritesOpen ms (write_row r i v) = marked (marks_in ms r) i ≡ false
WritesOpen ms _ = Unit {0}

-- a write to a host leaves another location
row_spared : (p : Location) (r : Row) (i : ℕ) (v : Value) (f : List Value) (m : Meaning)
    → (in_row r i ≡ p → ⊥) → held_at p f (with_cell m r i v) ≡ held_at p f m
row_spared (in_frame j) Variables i v f m n = refl
row_spared (in_frame j) Bindings i v f m n = refl
row_spared (in_row Variables j) Variables i v f m n =
    put_other m.variables i j v (λ e. n (ap (λ (k : ℕ). in_row Variables k) e))
row_spared (in_row Variables j) Bindings i v f m n = refl
row_spared (in_row Bindings j) Variables i v f m n = refl
row_spared (in_row Bindings j) Bindings i v f m n =
    put_other m.bindings i j v (λ e. n (ap (λ (k : ℕ). in_row Bindings k) e))

-- and so does a write to the frame
cell_spared : (p : Location) (i : ℕ) (v : Value) (f : List Value) (m : Meaning)
    → (in_frame i ≡ p → ⊥) → held_at p (frame_after (write_cell i v) f) m ≡ held_at p f m
cell_spared (in_frame j) i v f m n = get_or-set_other f i j v Nil (λ e. n (sym (ap in_frame e)))
cell_spared (in_row r j) i v f m n = refl

-- no message reaches a frame
framed : (p : Location) → OutOfReach p → (f : List Value) (m n : Meaning)
    → held_at p f m ≡ held_at p f n
framed (in_frame j) x f m n = refl
framed (in_row r j) x f m n = absurd x

module _ (literals : List ℕ) where
  -- what follows from what holds everywhere
  pub everywhere_map : (Q R : Access → Type 0) (L M : Leaf → Type 0)
      → ((a : Access) → Q a → R a) → ((l : Leaf) → L l → M l)
      → (c : Script) → Everywhere literals Q L c → Everywhere literals R M c
  everywhere_map Q R L M f g (act (read_literal i) k) w =
      (f (read_literal i) w.0, everywhere_map Q R L M f g (k (literal literals i)) w.1)
  everywhere_map Q R L M f g (act a k) w =
      (f a w.0, λ x. everywhere_map Q R L M f g (k x) (w.1 x))
  everywhere_map Q R L M f g (done l) w = g l w

module _ (literals : List ℕ) {S : Type 0} (means : S → Meaning) (may : S → Sent → Value → S → Type 0) where
  -- one access, by its answer x and the frame g and the host t afterwards
  abbrev pub Did : (a : Access) → List Value → S → Answer a → List Value → S → Type 0
  Did a f s x g t = Does literals means may a f s (λ y h u. (x ≡ y) × (g ≡ h) × (t ≡ u))

  -- a message that was sent: answered, or not understood
  pub sent_is : (s t : S) (m : Sent) (r : Option Value) → Answered means may s m r t
      → (((v : Value) × (r ≡ Some v) × may s m v t × ((means s).understands m ≡ true))
      ⊎ ((r ≡ None) × (means t ≡ means s) × ((means s).understands m ≡ false)))
  sent_is s t m r = by ((means s).understands m) refl r
    where
      by : (b : Bool) → (means s).understands m ≡ b → (r : Option Value)
          → MatchBool b (MatchOption r ⊥ (λ v. may s m v t)) ((r ≡ None) × (means t ≡ means s))
          → (((v : Value) × (r ≡ Some v) × may s m v t × ((means s).understands m ≡ true))
          ⊎ ((r ≡ None) × (means t ≡ means s) × ((means s).understands m ≡ false)))
      by true e None x = absurd x
      by true e (Some v) x = inl (v, refl, x, e)
      by false e r x = inr (x.0, x.1, e)

  -- what an access did, from what may come of a script
  pub did : (a : Access) (f : List Value) (s : S) (P : Answer a → List Value → S → Type 0)
      → Does literals means may a f s P
      → (x : Answer a) × (g : List Value) × (t : S) × Did a f s x g t × P x g t
  did (write_row r i v) f s P d = (tt, f, d.0, (d.0, d.1, (refl, refl, refl)), d.2)
  did (send m) f s P d = (d.0, f, d.1, (d.0, d.1, d.2, (refl, refl, refl)), d.3)
  did a f s P d = (answer_of literals a f (means s), frame_after a f, s, (refl, refl, refl), d)

  -- what holds for every answer that may come holds for the one that came
  for_answer : (a : Access) (P : Answer a → Type 0) (f : List Value) (s : S)
      (x : Answer a) (g : List Value) (t : S)
      → ForAnswers literals a P → Did a f s x g t → P x
  for_answer (read_literal i) P f s x g t p d = subst P (sym d.0) p
  for_answer a P f s x g t p d = p x

  -- the leaf that a script comes to keeps what every leaf keeps
  pub everywhere_leaf : (Q : Access → Type 0) (L : Leaf → Type 0) (c : Script)
      (f : List Value) (s : S) (o : Outcome) (f' : List Value) (s' : S)
      → Everywhere literals Q L c → Exec literals means may c f s o f' s' → L (comes_to o)
  everywhere_leaf Q L (act a k) f s o f' s' w r =
      let d = did a f s (λ x g t. Exec literals means may (k x) g t o f' s') r in
      everywhere_leaf Q L (k d.0) d.1 d.2 o f' s'
      (for_answer a (λ x. Everywhere literals Q L (k x)) f s d.0 d.1 d.2 w.1 d.3) d.4
  everywhere_leaf Q L (done (comes_to q)) f s o f' s' w r = subst (λ (x : Outcome). L (comes_to x)) (sym r.0) w
  everywhere_leaf Q L (done stuck) f s o f' s' w r = absurd r

  -- what a script does not write is as before
  spared : (p : Location) (a : Access) (f : List Value) (s : S) (x : Answer a) (g : List Value) (t : S)
      → Spares p a → Did a f s x g t → held_at p g (means t) ≡ held_at p f (means s)
  spared p (write_cell i v) f s x g t n d =
      ap (λ (h : List Value). held_at p h (means t)) d.1
      ∙ ap (λ (u : S). held_at p (frame_after (write_cell i v) f) (means u)) d.2
      ∙ cell_spared p i v f (means s) n
  spared p (write_row r i v) f s x g t n d =
      ap (λ (h : List Value). held_at p h (means t)) d.2.1
      ∙ ap (λ (u : S). held_at p f (means u)) d.2.2
      ∙ ap (held_at p f) d.1
      ∙ row_spared p r i v f (means s) n
  spared p (send m) f s x g t n d =
      ap (λ (h : List Value). held_at p h (means t)) d.3.1 ∙ framed p n f (means t) (means s)
  spared p a f s x g t n d =
      ap (λ (h : List Value). held_at p h (means t)) d.1 ∙ ap (λ (u : S). held_at p f (means u)) d.2

  pub unwritten : (p : Location) (c : Script)
      (f : List Value) (s : S) (o : Outcome) (f' : List Value) (s' : S)
      → Everywhere literals (Spares p) (λ _. Unit {0}) c → Exec literals means may c f s o f' s'
      → held_at p f' (means s') ≡ held_at p f (means s)
  unwritten p (act a k) f s o f' s' w r =
      let d = did a f s (λ x g t. Exec literals means may (k x) g t o f' s') r in
      unwritten p (k d.0) d.1 d.2 o f' s'
      (for_answer a (λ x. Everywhere literals (Spares p) (λ _. Unit {0}) (k x)) f s d.0 d.1 d.2 w.1 d.3) d.4
      ∙ spared p a f s d.0 d.1 d.2 w.0 d.3
  unwritten p (done (comes_to q)) f s o f' s' w r =
      ap (λ (h : List Value). held_at p h (means s')) r.1 ∙ ap (λ (u : S). held_at p f (means u)) r.2
  unwritten p (done stuck) f s o f' s' w r = absurd r

  -- a script that leaves the host leaves it
  pub host_left : (L : Leaf → Type 0) (c : Script)
      (f : List Value) (s : S) (o : Outcome) (f' : List Value) (s' : S)
      → Everywhere literals LeavesHost L c → Exec literals means may c f s o f' s' → s' ≡ s
  host_left L (act a k) f s o f' s' w r =
      let d = did a f s (λ x g t. Exec literals means may (k x) g t o f' s') r in
      host_left L (k d.0) d.1 d.2 o f' s'
      (for_answer a (λ x. Everywhere literals LeavesHost L (k x)) f s d.0 d.1 d.2 w.1 d.3) d.4
      ∙ same a f s d.0 d.1 d.2 w.0 d.3
    where
      same : (a : Access) (f : List Value) (s : S) (x : Answer a) (g : List Value) (t : S)
          → LeavesHost a → Did a f s x g t → t ≡ s
      same (write_row q i v) f s x g t n d = absurd n
      same (send m) f s x g t n d = absurd n
      same a f s x g t n d = d.2
  host_left L (done (comes_to q)) f s o f' s' w r = r.2
  host_left L (done stuck) f s o f' s' w r = absurd r

  module _ (lawful : (s t : S) (m : Sent) (v : Value) → may s m v t → Kept (means s) (means t)) where
    -- what one access leaves of a host
    access_like : (a : Access) (f : List Value) (s : S) (x : Answer a) (g : List Value) (t : S)
        → Unit {0} → Did a f s x g t → Like (means s) (means t)
    access_like (write_row r i v) f s x g t w d =
        subst (λ (m : Meaning). Like (means s) m) (sym (ap means d.2.2 ∙ d.1)) (write_like (means s) i v r)
    access_like (send m) f s x g t w d =
        subst (λ (u : S). Like (means s) (means u)) (sym d.3.2) (elim (sent_is s d.1 m d.0 d.2) [
          | inl e ↦ kept_like (lawful s d.1 m e.0 e.2)
          | inr e ↦ like_same e.1
        ])
    access_like a f s x g t w d = like_same (ap means d.2)

    access_kept : (ms : Marks) (a : Access) (f : List Value) (s : S) (x : Answer a) (g : List Value) (t : S)
        → marks_of (means s) ≡ ms → WritesOpen ms a → Did a f s x g t → Kept (means s) (means t)
    access_kept ms (write_row r i v) f s x g t e w d =
        subst (λ (m : Meaning). Kept (means s) m) (sym (ap means d.2.2 ∙ d.1))
        (write_kept (means s) i v r (ap (λ (n : Marks). marked (marks_in n r) i) e ∙ w))
    access_kept ms (send m) f s x g t e w d =
        subst (λ (u : S). Kept (means s) (means u)) (sym d.3.2) (elim (sent_is s d.1 m d.0 d.2) [
          | inl y ↦ lawful s d.1 m y.0 y.2
          | inr y ↦ kept_same (means s) (means d.1) y.1
        ])
    access_kept ms a f s x g t e w d = kept_same (means s) (means t) (ap means d.2)

    -- what never changes of the host
    pub like : (c : Script)
        (f : List Value) (s : S) (o : Outcome) (f' : List Value) (s' : S)
        → Exec literals means may c f s o f' s' → Like (means s) (means s')
    like (act a k) f s o f' s' r =
        let d = did a f s (λ x g t. Exec literals means may (k x) g t o f' s') r in
        like_trans (access_like a f s d.0 d.1 d.2 tt d.3) (like (k d.0) d.1 d.2 o f' s' d.4)
    like (done (comes_to q)) f s o f' s' r = like_same (ap means r.2)
    like (done stuck) f s o f' s' r = absurd r

    -- the trusted cells of a script that writes none
    pub kept : (ms : Marks) (L : Leaf → Type 0) (c : Script)
        (f : List Value) (s : S) (o : Outcome) (f' : List Value) (s' : S)
        → marks_of (means s) ≡ ms → Everywhere literals (WritesOpen ms) L c
        → Exec literals means may c f s o f' s' → Kept (means s) (means s')
    kept ms L (act a k) f s o f' s' e w r =
        let d = did a f s (λ x g t. Exec literals means may (k x) g t o f' s') r in
        let b = access_kept ms a f s d.0 d.1 d.2 e w.0 d.3 in
        kept_trans b (kept ms L (k d.0) d.1 d.2 o f' s' ((kept_like b).marks ∙ e)
        (for_answer a (λ x. Everywhere literals (WritesOpen ms) L (k x)) f s d.0 d.1 d.2 w.1 d.3) d.4)
    kept ms L (done (comes_to q)) f s o f' s' e w r = kept_same (means s) (means s') (ap means r.2)
    kept ms L (done stuck) f s o f' s' e w r = absurd r
