-- What the script of an instruction that keeps the rules reads and writes.
use Rattle.std.proofs.Common.{◌≡◌, ℕ, zero, suc, ◌+◌, ◌-◌, ◌*◌, ◌/◌, ◌%◌, ◌<◌, ◌≤◌, Bool, true, false, cond, ltb, List, [], length, pos, Some, None, Option, sym, refl, ap, subst, inl, inr, arith}
use Rattle.std.specs.Option.{option_map}
use Rattle.std.proofs.lemmas.Bool.{ltb-false, lt-ltb}
use Rattle.values.specs.Small.{in_range, small_if}
use Rattle.values.specs.declared.small.SmallInteger.{SmallInteger}
use Rattle.values.specs.declared.kinds.Value.{Value}
use Rattle.values.specs.declared.kinds.Value.TheVariants.{Nil, True, False, Integer}
use Rattle.hosts.specs.Meaning.{Marks, marks_in, marked, message}
use Rattle.hosts.specs.declared.rows.Row.{Row}
use Rattle.hosts.specs.declared.rows.Row.TheVariants.{Variables, Bindings}
use Rattle.parcels.specs.Literals.{entry, literal, selector_of, binding_of, constant_of}
use Rattle.parcels.specs.Layouts.{limit_of}
use Rattle.parcels.specs.Opcodes.{arity_of, effect_of, after, flow_of, landing_of}
use Rattle.parcels.specs.Parts.{Parts}
use Rattle.parcels.specs.declared.literals.Literal.{Literal}
use Rattle.parcels.specs.declared.literals.Literal.TheVariants.{Constant, Selector, Binding}
use Rattle.parcels.specs.declared.opcodes.Direction.TheVariants.{Forward}
use Rattle.parcels.specs.declared.opcodes.Source.{Source}
use Rattle.parcels.specs.declared.opcodes.Source.TheVariants as source
use Rattle.parcels.specs.declared.opcodes.Target.TheVariants as target
use Rattle.parcels.specs.declared.opcodes.Operation.{Operation}
use Rattle.parcels.specs.declared.opcodes.Operation.TheVariants.{Send, SendSelector, Push, Store, Jump, Branch, Pop, Duplicate, Close, End, Line}
use Rattle.parcels.specs.declared.reading.Instruction.{Instruction}
use Rattle.stages.specs.Encoding.{stores_trusted, names_trusted}
use Rattle.soundness.specs.Rules.{OperandFits, LandingFits}
use Rattle.semantics.specs.Scripts.{Access, read_cell, read_cells, write_cell, read_literal, read_row, write_row, send, Script, given, special, integer, must_be_boolean, from_source, pushing, sending}
use Rattle.semantics.specs.Execution.{Everywhere}
use Rattle.semantics.specs.Steps.{code_context_of, working_base, frame_cells, script_at}
use Rattle.semantics.specs.Properties.{Counts, row_count, InBounds, Stack, InUse, NotStuck}
use Rattle.semantics.proofs.Executing.{in_frame, Spares, WritesOpen, NoMessage, LeavesHost, everywhere_map}
use Rattle.semantics.proofs.Operations.{chosen, closed, replied}
use Rattle.safety.specs.Histories.{WritesCell}

-- a literal that is there has a number below the count
pub literal_there : (ls : List ℕ) (n k : ℕ) (l : Literal) → length ls ≡ 6 * n → literal ls k ≡ Some l → k < n
literal_there ls n k l long e = by (ltb (length ls) (6 * k + 6)) refl e
  where
    by : (b : Bool) → ltb (length ls) (6 * k + 6) ≡ b → cond b None (entry ls k) ≡ Some l → k < n
    by true f q = absurd cc
    by false f q = omega (arith, ltb-false _ _ f, long)

-- a number below 2 ^ 29 is a small integer
integer_there : (a : ℕ) → a < 536870912 → (v : Value) × (integer a ≡ Some v)
integer_there a h = let s = by (in_range (pos a)) refl (lt-ltb a 1073741824 (omega arith)) in (Integer s.0, ap (option_map Integer) s.1)
  where
    by : (b : Bool) (e : in_range (pos a) ≡ b) → in_range (pos a) ≡ true → (s : SmallInteger) × (small_if (pos a) b e ≡ Some s)
    by true e t = (_, refl)
    by false e t = absurd cc

special_there : (a : ℕ) → a < 3 → (v : Value) × (special a ≡ Some v)
special_there zero h = (Nil, refl)
special_there (suc zero) h = (True, refl)
special_there (suc (suc zero)) h = (False, refl)
special_there (suc (suc (suc a))) h = absurd (omega arith)

-- what is given, where it is there
there : (F : Script → Type 0) {X : Type 0} (k : X → Script) (o : Option X) (x : X)
    → o ≡ Some x → F (k x) → F (given o k)
there F k o x e w = subst (λ y. F (given y k)) (sym e) w

-- the cell of a row that a store goes to
abbrev pub StoresTo : List ℕ → ℕ → Operation → Row → ℕ → Type 0
StoresTo ls a (Store target.Variable) Variables k = k ≡ a
StoresTo ls a (Store target.Binding) Bindings k = literal ls a ≡ Some (Binding k)
StoresTo ls a _ _ _ = ⊥

-- the operations that may send a message
abbrev pub MaySend : Operation → Type 0
MaySend Send = Unit {0}
MaySend (SendSelector s) = Unit {0}
MaySend (Branch w) = Unit {0}
MaySend _ = ⊥

module _ (p : Parts) (q h : ℕ) (i : Instruction) where
  abbrev pub stack_at : Operation → Stack
  stack_at o = record {
    base = working_base p;
    before = h;
    takes = (effect_of o i).takes;
    after = after (effect_of o i) h;
  }

  module _ (variables bindings : ℕ) where
    abbrev pub counts_at : Counts
    counts_at = record {
      cells = frame_cells p;
      literals = p.layout.literal_count;
      variables = variables;
      bindings = bindings;
    }

    -- what an access of an operation keeps to
    abbrev pub Permitted : Operation → Access → Type 0
    Permitted o (read_literal k) = k < p.layout.literal_count
    Permitted o (read_row r k) = k < row_count counts_at r
    Permitted o (write_row r k v) = (k < row_count counts_at r) × StoresTo p.literals i.argument o r k
    Permitted o (send m) = MaySend o
    Permitted o (write_cell k v) =
        InUse (stack_at o) (write_cell k v) × WritesCell (working_base p) h i o k
    Permitted o a = InUse (stack_at o) a

    abbrev pub Permits : Operation → Script → Type 0
    Permits o = Everywhere p.literals (Permitted o) NotStuck

    module _ (long : length p.literals ≡ 6 * p.layout.literal_count)
        (bound : (k n : ℕ) → literal p.literals k ≡ Some (Binding n) → n < bindings) where
      abbrev next : ℕ
      next = q + 2 * i.pairs

      pushes : (o : Operation) (v : Value)
          → working_base p + (h - (effect_of o i).takes) ≤ working_base p + h
          → h < after (effect_of o i) h
          → WritesCell (working_base p) h i o (working_base p + h)
          → Permits o (pushing (code_context_of p) i next h v)
      pushes o v below room own = ((inr (below, inr (omega (arith, room))), own), λ _. tt)

      sends : (o : Operation) (super : Bool) (n c : ℕ) → (effect_of o i).takes ≡ c + 1 → c + 1 ≤ h
          → MaySend o → WritesCell (working_base p) h i o (working_base p + (h - c - 1))
          → Permits o (sending (code_context_of p) i next h super n c)
      sends o super n c t need may_send own = (
        omega (arith, need),
        λ r. (
          omega (arith, need),
          λ xs. (
            may_send,
            λ a.
                replied (Permits o) (message super n r xs) a tt (λ v. ((inr (omega (arith, need, t), inl (omega (arith, need))), own), λ _. tt)),
          ),
        ),
      )

      sourced : (o : Operation) (s : Source) (k : Value → Script)
          → OperandFits p variables i.argument (Push s) → ((v : Value) → Permits o (k v))
          → Permits o (from_source (code_context_of p) i next h s k)
      sourced o source.Cell k fit w = (omega (arith, fit), w)
      sourced o source.Binding k fit w =
          let e = fit.1 in (
            literal_there p.literals p.layout.literal_count i.argument (Binding fit.0) long e,
            there (Permits o) _ (binding_of (literal p.literals i.argument)) fit.0 (ap binding_of e) (bound i.argument fit.0 e, w),
          )
      sourced o source.Variable k fit w = (fit, w)
      sourced o source.Integer k fit w =
          let x = integer_there i.argument fit in there (Permits o) k (integer i.argument) x.0 x.1 (w x.0)
      sourced o source.Special k fit w =
          let x = special_there i.argument fit in there (Permits o) k (special i.argument) x.0 x.1 (w x.0)
      sourced o source.Literal k fit w =
          let e = fit.1 in (
            literal_there p.literals p.layout.literal_count i.argument (Constant fit.0) long e,
            there (Permits o) k (constant_of (literal p.literals i.argument)) fit.0 (ap constant_of e) (w fit.0),
          )
      sourced o source.Receiver k fit w = (tt, w)

      pub permitted : (o : Operation) → OperandFits p variables i.argument o
          → LandingFits p.code next i.argument (flow_of o) → (effect_of o i).takes ≤ h
          → Permits o (script_at p q h i o)
      permitted Send fit lands need = sends Send false i.opcode (arity_of i.opcode) refl need tt refl
      permitted (SendSelector s) fit lands need =
          let e = fit.1 in (
            literal_there p.literals p.layout.literal_count (i.argument / 256) (Selector fit.0 (i.argument % 256)) long e,
            there (Permits (SendSelector s)) _ (selector_of (literal p.literals (i.argument / 256))) fit.0 (ap selector_of e)
                (sends (SendSelector s) s fit.0 (i.argument % 256) refl need tt refl),
          )
      permitted (Push s) fit lands need =
          sourced (Push s) s (pushing (code_context_of p) i next h) fit (λ v. pushes (Push s) v (omega arith) (omega arith) refl)
      permitted (Store target.Cell) fit lands need = (omega (arith, need), λ v. ((inl fit, refl), λ _. tt))
      permitted (Store target.Binding) fit lands need =
          let e = fit.1 in (
            literal_there p.literals p.layout.literal_count i.argument (Binding fit.0) long e,
            there (Permits (Store target.Binding)) _ (binding_of (literal p.literals i.argument)) fit.0 (ap binding_of e) (
              omega (arith, need),
              λ v. (
                (bound i.argument fit.0 e, e),
                λ _.
                    ((inr (omega (arith, need), inl (omega (arith, need))), refl), λ _. tt),
              ),
            ),
          )
      permitted (Store target.Variable) fit lands need = (omega (arith, need), λ v. ((fit, refl), λ _. tt))
      permitted (Jump d) fit lands need =
          there (Permits (Jump d)) _ (landing_of p.code d next i.argument) lands.0 lands.1 tt
      permitted (Branch w) fit lands need =
          there (Permits (Branch w)) _ (landing_of p.code Forward next i.argument) lands.0 lands.1 (
            omega (arith, need),
            λ v. chosen (Permits (Branch w)) v tt tt
                (tt, λ a. replied (Permits (Branch w)) (message false must_be_boolean v []) a tt (λ x. tt)),
          )
      permitted Pop fit lands need = tt
      permitted Duplicate fit lands need = (omega (arith, need), λ v. pushes Duplicate v (omega arith) (omega (arith, need)) refl)
      permitted Close fit lands need =
          (omega (arith, need), λ v. closed (Permits Close) v tt (λ w. ((inr (omega (arith, need), inl (omega (arith, need))), refl), λ _. tt)))
      permitted (End e) fit lands need = (omega (arith, need), λ v. tt)
      permitted Line fit lands need = tt

    -- what is permitted is in use
    in_use : (o : Operation) (a : Access) → Permitted o a → InUse (stack_at o) a
    in_use o (read_literal k) w = tt
    in_use o (read_row r k) w = tt
    in_use o (write_row r k v) w = tt
    in_use o (send m) w = tt
    in_use o (write_cell k v) w = w.0
    in_use o a w = w

    pub all_in_use : (o : Operation) (c : Script) → Permits o c → Everywhere p.literals (InUse (stack_at o)) NotStuck c
    all_in_use o = everywhere_map p.literals (Permitted o) (InUse (stack_at o)) NotStuck NotStuck (in_use o) (λ l x. x)

    -- a cell that the operation does not write is written by no access
    module _ (o : Operation) (j : ℕ) (other : WritesCell (working_base p) h i o j → ⊥) where
      spares : (a : Access) → Permitted o a → Spares (in_frame j) a
      spares (write_cell k v) w = λ e.
          let same : k ≡ j = cc in
          other (subst (λ (n : ℕ). WritesCell (working_base p) h i o n) same w.1)
      spares (write_row r k v) w = λ e. absurd cc
      spares (send m) w = tt
      spares a w = tt

      pub all_spare : (c : Script) → Permits o c → Everywhere p.literals (Spares (in_frame j)) (λ _. Unit {0}) c
      all_spare = everywhere_map p.literals (Permitted o) (Spares (in_frame j)) NotStuck (λ _. Unit {0}) spares (λ l x. tt)

    -- where no message may be sent, none is
    module _ (o : Operation) (none : MaySend o → ⊥) where
      silent : (a : Access) → Permitted o a → NoMessage a
      silent (send m) w = none w
      silent a w = tt

      pub all_silent : (c : Script) → Permits o c → Everywhere p.literals NoMessage (λ _. Unit {0}) c
      all_silent = everywhere_map p.literals (Permitted o) NoMessage NotStuck (λ _. Unit {0}) silent (λ l x. tt)

      -- and where nothing may be stored either, the host is left
      module _ (unstored : (r : Row) (k : ℕ) → StoresTo p.literals i.argument o r k → ⊥) where
        leaves : (a : Access) → Permitted o a → LeavesHost a
        leaves (send m) w = none w
        leaves (write_row r k v) w = unstored r k w.1
        leaves a w = tt

        pub all_leave : (c : Script) → Permits o c → Everywhere p.literals LeavesHost NotStuck c
        all_leave = everywhere_map p.literals (Permitted o) LeavesHost NotStuck NotStuck leaves (λ l x. x)

    -- and lies below its count
    module _ (fits : p.layout.local_count ≤ p.layout.slot_count) (low : h ≤ limit_of p.layout) where
      in_bounds : (o : Operation) → after (effect_of o i) h ≤ limit_of p.layout
          → (a : Access) → Permitted o a → InBounds counts_at a
      in_bounds o room (read_cell k) w = omega (arith, w, fits, low)
      in_bounds o room (read_cells k n) w = omega (arith, w, fits, low)
      in_bounds o room (write_cell k v) w = elim w.0 [
        | inl x ↦ omega (arith, x, fits)
        | inr x ↦ elim x.1 [ inl y ↦ omega (arith, y, fits, low) | inr y ↦ omega (arith, y, fits, room) ]
      ]
      in_bounds o room (read_literal k) w = w
      in_bounds o room (read_row r k) w = w
      in_bounds o room (write_row r k v) w = w.0
      in_bounds o room a w = tt

      pub all_in_bounds : (o : Operation) → after (effect_of o i) h ≤ limit_of p.layout
          → (c : Script) → Permits o c → Everywhere p.literals (InBounds counts_at) NotStuck c
      all_in_bounds o room =
          everywhere_map p.literals (Permitted o) (InBounds counts_at) NotStuck NotStuck (in_bounds o room) (λ l x. x)

    -- a store that names no trusted cell writes none
    module _ (m : Marks) where
      writes_open : (o : Operation) → stores_trusted m p.literals i.argument o ≡ false
          → (a : Access) → Permitted o a → WritesOpen m a
      writes_open o e (write_row r k v) w = by o r e w.1
        where
          by : (o : Operation) (r : Row) → stores_trusted m p.literals i.argument o ≡ false
              → StoresTo p.literals i.argument o r k → marked (marks_in m r) k ≡ false
          by (Store target.Variable) Variables e w = subst (λ (n : ℕ). marked m.variables n ≡ false) (sym w) e
          by (Store target.Binding) Bindings e w = subst (λ (l : Option Literal). names_trusted m.bindings l ≡ false) w e
          by o r e w = absurd w
      writes_open o e a w = tt

      pub all_open : (o : Operation) → stores_trusted m p.literals i.argument o ≡ false
          → (c : Script) → Permits o c → Everywhere p.literals (WritesOpen m) NotStuck c
      all_open o e = everywhere_map p.literals (Permitted o) (WritesOpen m) NotStuck NotStuck (writes_open o e) (λ l x. x)
