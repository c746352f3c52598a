-- What holds of the script of each operation, at every place and height.
use Rattle.std.specs.Prelude.{if◌then◌else◌}
use Rattle.std.proofs.Common.{◌≡◌, ℕ, ◌+◌, ◌-◌, ◌*◌, ◌/◌, ◌%◌, ◌≤◌, Bool, true, false, List, [], ◌∷◌, Some, None, Option, sym, refl, ◌∙◌, subst, inl, inr, arith}
use Rattle.values.specs.declared.kinds.Value.{Value}
use Rattle.values.specs.declared.kinds.Value.TheVariants.{True, False, Block, Closure}
use Rattle.hosts.specs.Meaning.{Meaning, Sent, message, with_cell}
use Rattle.parcels.specs.Literals.{literal, selector_of, binding_of, constant_of}
use Rattle.parcels.specs.Opcodes.{arity_of, effect_of, after, landing_of}
use Rattle.parcels.specs.Instructions.{Among, successors}
use Rattle.parcels.specs.Parts.{Parts}
use Rattle.parcels.specs.declared.opcodes.Direction.TheVariants.{Forward}
use Rattle.parcels.specs.declared.opcodes.Source.{Source}
use Rattle.parcels.specs.declared.opcodes.Source.TheVariants as source
use Rattle.parcels.specs.declared.opcodes.Target.TheVariants as target
use Rattle.parcels.specs.declared.opcodes.Operation.{Operation}
use Rattle.parcels.specs.declared.opcodes.Operation.TheVariants.{Send, SendSelector, Push, Store, Jump, Branch, Pop, Duplicate, Close, End, Line}
use Rattle.parcels.specs.declared.reading.Instruction.{Instruction}
use Rattle.semantics.specs.declared.states.Stop.{Stop}
use Rattle.semantics.specs.declared.states.Stop.TheVariants.{NotUnderstood, NoBlock}
use Rattle.semantics.specs.Scripts.{Access, write_cell, read_literal, write_row, send, Answer, Outcome, continues, stops, must_be_boolean, Leaf, comes_to, stuck, Script, act, done, answered, given, choose, closed_over, special, integer, from_source, pushing, sending}
use Rattle.semantics.specs.Execution.{answer_of, frame_after, Exec, ForAnswers, Everywhere}
use Rattle.semantics.proofs.Executing.{NoMessage}
use Rattle.semantics.specs.Steps.{code_context_of, script_at}

-- either of two
pub either : {X : Type 0} (F : X → Type 0) (w : Bool) {t f : X} → F t → F f → F (if w then t else f)
either F true a b = a
either F false a b = b

-- a property of scripts, through the ways in which a script is chosen
module _ (F : Script → Type 0) where
  pub chosen : (v : Value) {t f o : Script} → F t → F f → F o → F (choose v t f o)
  chosen True a b c = a
  chosen False a b c = b
  chosen v a b c = c

  pub closed : (v : Value) {k : Value → Script}
      → F (done (comes_to (stops NoBlock))) → ((w : Value) → F (k w)) → F (closed_over v k)
  closed (Block n) a b = b (Closure n)
  closed v a b = a

  pub provided : {X : Type 0} (o : Option X) {k : X → Script}
      → F (done stuck) → ((x : X) → o ≡ Some x → F (k x)) → F (given o k)
  provided None a b = a
  provided (Some x) a b = b x refl

  pub replied : (m : Sent) {k : Value → Script} (r : Option Value)
      → F (done (comes_to (stops (NotUnderstood m.selector)))) → ((v : Value) → F (k v))
      → F (answered m k r)
  replied m None a b = a
  replied m (Some v) a b = b v

-- the stops that an operation may make
abbrev pub MayStop : Operation → Stop → Type 0
MayStop Send (NotUnderstood n) = Unit {0}
MayStop (SendSelector s) (NotUnderstood n) = Unit {0}
MayStop (Branch w) (NotUnderstood n) = Unit {0}
MayStop Close NoBlock = Unit {0}
MayStop _ _ = ⊥

module _ (p : Parts) (q h : ℕ) (i : Instruction) where
  abbrev next : ℕ
  next = q + 2 * i.pairs

  -- a script of an operation goes on to a successor alone, at the height of the table, and stops
  -- for the operation's own reason alone
  abbrev pub Lands : Operation → Leaf → Type 0
  Lands o (comes_to (continues r k)) =
      Among r (successors p.code q i o) × (k ≡ after (effect_of o i) h)
  Lands o (comes_to (stops x)) = MayStop o x
  Lands o _ = Unit {0}

  abbrev Leads : Operation → Script → Type 0
  Leads o = Everywhere p.literals (λ _. Unit {0}) (Lands o)

  -- so does the rest of a script that takes the value of a source
  sourced : (o : Operation) (s : Source) (k : Value → Script) → ((v : Value) → Leads o (k v))
      → Leads o (from_source (code_context_of p) i (q + 2 * i.pairs) h s k)
  sourced o source.Cell k w = (tt, w)
  sourced o source.Binding k w =
      (tt, provided (Leads o) (binding_of (literal p.literals i.argument)) tt (λ n e. (tt, w)))
  sourced o source.Variable k w = (tt, w)
  sourced o source.Integer k w = provided (Leads o) (integer i.argument) tt (λ v e. w v)
  sourced o source.Special k w = provided (Leads o) (special i.argument) tt (λ v e. w v)
  sourced o source.Literal k w =
      (tt, provided (Leads o) (constant_of (literal p.literals i.argument)) tt (λ v e. w v))
  sourced o source.Receiver k w = (tt, w)

  -- and a send
  sends : (o : Operation) (super : Bool) (n c : ℕ) → MayStop o (NotUnderstood n)
      → Lands o (comes_to (continues (q + 2 * i.pairs) (h - c)))
      → Leads o (sending (code_context_of p) i (q + 2 * i.pairs) h super n c)
  sends o super n c x w =
      (tt, λ r. (tt, λ xs. (tt, λ a. replied (Leads o) (message super n r xs) a x (λ v. (tt, λ _. w)))))

  pub leads_to : (o : Operation) → (effect_of o i).takes ≤ h → Leads o (script_at p q h i o)
  leads_to Send n = sends Send false i.opcode (arity_of i.opcode) tt (inl refl, omega arith)
  leads_to (SendSelector s) n = (
    tt,
    provided (Leads (SendSelector s)) (selector_of (literal p.literals (i.argument / 256))) tt
        (λ m e. sends (SendSelector s) s m (i.argument % 256) tt (inl refl, omega arith)),
  )
  leads_to (Push s) n =
      sourced (Push s) s (pushing (code_context_of p) i (q + 2 * i.pairs) h) (λ v. (tt, λ _. (inl refl, omega arith)))
  leads_to (Store target.Cell) n = (tt, λ v. (tt, λ _. (inl refl, omega arith)))
  leads_to (Store target.Binding) n = (
    tt,
    provided (Leads (Store target.Binding)) (binding_of (literal p.literals i.argument)) tt
        (λ m e. (tt, λ v. (tt, λ _. (tt, λ _. (inl refl, omega arith))))),
  )
  leads_to (Store target.Variable) n = (tt, λ v. (tt, λ _. (inl refl, omega arith)))
  leads_to (Jump d) n =
      provided (Leads (Jump d)) (landing_of p.code d next i.argument) tt
      (λ r e. (subst (λ (l : Option ℕ). Among r (l ∷ None ∷ [])) (sym e) (inl refl), omega arith))
  leads_to (Branch w) n =
      provided (Leads (Branch w)) (landing_of p.code Forward next i.argument) tt
      (λ r e.
      let jumps = subst (λ (l : Option ℕ). Among r (l ∷ Some next ∷ [])) (sym e) (inl refl) in
      let follows = subst (λ (l : Option ℕ). Among next (l ∷ Some next ∷ [])) (sym e) (inr (inl refl)) in
      let there : ℕ → Type 0 = λ x. Leads (Branch w) (done (comes_to (continues x (h - 1)))) in (
        tt,
        λ v.
            chosen (Leads (Branch w)) v
            (either there w (jumps, omega arith) (follows, omega arith))
            (either there w (follows, omega arith) (jumps, omega arith)) (
              tt,
              λ a. replied (Leads (Branch w)) (message false must_be_boolean v []) a tt
                  (λ x. (jumps, omega arith)),
            ),
      ))
  leads_to Pop n = (inl refl, omega arith)
  leads_to Duplicate n = (tt, λ v. (tt, λ _. (inl refl, omega arith)))
  leads_to Close n = (tt, λ v. closed (Leads Close) v tt (λ w. (tt, λ _. (inl refl, omega arith))))
  leads_to (End e) n = (tt, λ v. tt)
  leads_to Line n = (inl refl, omega arith)

-- where a script goes on after its one message does not depend on the answer
module _ (literals : List ℕ) where
  -- it comes to an outcome without a message
  abbrev pub Comes : Outcome → Script → Type 0
  Comes o = Everywhere literals NoMessage (λ l. l ≡ comes_to o)

  abbrev pub Settles : Script → Type 0
  Settles (act (send m) k) =
      (o n : Outcome) × Comes n (k None) × ((v : Value) → Comes o (k (Some v)))
  Settles (act a k) = ForAnswers literals a (λ x. Settles (k x))
  Settles (done l) = Unit {0}

module _ (p : Parts) (q h : ℕ) (i : Instruction) where
  abbrev F : Script → Type 0
  F = Settles p.literals

  source_settles : (s : Source) (k : Value → Script) → ((v : Value) → F (k v))
      → F (from_source (code_context_of p) i (q + 2 * i.pairs) h s k)
  source_settles source.Binding k w = provided F (binding_of (literal p.literals i.argument)) tt (λ n e. w)
  source_settles source.Integer k w = provided F (integer i.argument) tt (λ v e. w v)
  source_settles source.Special k w = provided F (special i.argument) tt (λ v e. w v)
  source_settles source.Literal k w = provided F (constant_of (literal p.literals i.argument)) tt (λ v e. w v)
  source_settles s k w = w

  send_settles : (super : Bool) (n c : ℕ) → F (sending (code_context_of p) i (q + 2 * i.pairs) h super n c)
  send_settles super n c = λ r xs. (continues (q + 2 * i.pairs) (h - c), stops (NotUnderstood n), refl, λ v. (tt, λ _. refl))

  pub settles : (o : Operation) → F (script_at p q h i o)
  settles Send = send_settles false i.opcode (arity_of i.opcode)
  settles (SendSelector s) =
      provided F (selector_of (literal p.literals (i.argument / 256))) tt (λ m e. send_settles s m (i.argument % 256))
  settles (Push s) = source_settles s (pushing (code_context_of p) i (q + 2 * i.pairs) h) (λ v _. tt)
  settles (Store target.Binding) =
      provided F (binding_of (literal p.literals i.argument)) tt (λ n e v _ _. tt)
  settles (Store t) = λ v _. tt
  settles (Jump d) = provided F (landing_of p.code d (q + 2 * i.pairs) i.argument) tt (λ r e. tt)
  settles (Branch w) =
      provided F (landing_of p.code Forward (q + 2 * i.pairs) i.argument) tt
      (λ r e v. chosen F v tt tt (continues r (h - 1), stops (NotUnderstood must_be_boolean), refl, λ x. refl))
  settles Duplicate = λ v _. tt
  settles Close = λ v. closed F v tt (λ w _. tt)
  settles (End e) = λ v. tt
  settles o = tt
