-- One step of a run that came from an acceptance.
use Rattle.std.proofs.Common.{◌≡◌, ℕ, ◌+◌, ◌-◌, ◌*◌, ◌%◌, ◌<◌, ◌≤◌, Bool, true, false, ◌⊎◌, List, [], length, take, get_or, Some, None, Ok, Option, sym, refl, ap, ◌∙◌, subst, inl, inr, arith}
use Rattle.std.proofs.lemmas.List.{get_or-take}
use Rattle.std.proofs.lemmas.Option.{same_Some}
use Rattle.values.specs.Order.{first}
use Rattle.values.specs.declared.faults.Fault.{Fault}
use Rattle.values.specs.declared.kinds.Value.{Value}
use Rattle.values.specs.declared.kinds.Value.TheVariants.{Nil, True, False}
use Rattle.hosts.specs.Meaning.{Meaning, Sent, Marks, Kept, message, marks_of, with_cell}
use Rattle.hosts.specs.declared.rows.Row.{Row}
use Rattle.hosts.specs.declared.rows.Row.TheVariants.{Variables, Bindings}
use Rattle.parcels.specs.Instructions.{InstructionAt, Among, successors}
use Rattle.parcels.specs.Layouts.{limit_of}
use Rattle.parcels.specs.Literals.{selector_of, binding_of}
use Rattle.parcels.specs.Opcodes.{operation_of, arity_of, effect_of, after, landing_of}
use Rattle.parcels.specs.Reading.{starts_at}
use Rattle.parcels.specs.declared.literals.Literal.{Literal}
use Rattle.parcels.specs.declared.opcodes.Direction.TheVariants.{Forward}
use Rattle.parcels.specs.declared.opcodes.Operation.{Operation}
use Rattle.parcels.specs.declared.opcodes.Operation.TheVariants.{Send, SendSelector, Store, Branch, Close}
use Rattle.parcels.specs.declared.opcodes.Target.TheVariants as target
use Rattle.parcels.specs.declared.reading.Instruction.{Instruction}
use Rattle.stages.specs.Encoding.{context, stores_trusted}
use Rattle.soundness.specs.Rules.{OperandFits, ValidInstruction}
use Rattle.soundness.proofs.Orders.{same_read}
use Rattle.semantics.specs.Scripts.{Access, write_cell, write_row, Script, act, read_cell, continue_at, given, sending, branching, must_be_boolean, comes_to, Outcome, continues, ends, stops}
use Rattle.semantics.specs.Execution.{Exec, Everywhere}
use Rattle.semantics.specs.Steps.{RunView, CallAnswer, moved, StepUnless, Step, step_tests, frame_cells, working_base, code_context_of, script_at, next_script}
use Rattle.semantics.specs.Properties.{InBounds, InUse, NotStuck, Within, UsesOnly, AgreeBelow}
use Rattle.semantics.specs.declared.states.State.TheVariants.{Live, Ended, Stopped}
use Rattle.semantics.specs.declared.states.Stop.{Stop}
use Rattle.semantics.specs.declared.states.Stop.TheVariants.{NotUnderstood, NoBlock}
use Rattle.semantics.proofs.Executing.{in_frame, Spares, NoMessage, everywhere_leaf, everywhere_map, unwritten, host_left, kept}
use Rattle.semantics.proofs.Operations.{Lands, MayStop, leads_to, settles}
use Rattle.semantics.proofs.Agreeing.{Alike, alike}
use Rattle.semantics.proofs.Telling.{Continues, send_told, branch_told, close_told}
use Rattle.safety.specs.Ready.{unmarked, Ready}
use Rattle.safety.specs.Histories.{counts_of, stack_of, top_of, with_answer, Sends, short, selector, branch, Stores, to_variable, to_binding, WritesCell, MeetsNoBlock, WellPlaced, Progress, SameWithin}
use Rattle.safety.proofs.Permitting.{MaySend, StoresTo, all_in_use, all_in_bounds, all_open, all_silent, all_spare, all_leave}
use Rattle.safety.proofs.Readiness.{path_starts, path_low, script_is, here, operand, need, next_permitted, ready_on}

-- a run that came from an acceptance over the marks m, trusted or not
pub record Sound (m : Marks) (t : Bool) (run : RunView) : Type 0 where
  pub ready : Ready run.parts run.variable_count run.binding_count run.place run.height
  pub variables : run.variable_count ≡ length m.variables
  pub bindings : run.binding_count ≡ length m.bindings
  pub stores : t ≡ false → (q : ℕ) (i : Instruction) (o : Operation) → starts_at run.parts.code q ≡ true
      → InstructionAt run.parts.code q i o → stores_trusted m run.parts.literals i.argument o ≡ false

starts : {m : Marks} {t : Bool} {run : RunView} → Sound m t run → starts_at run.parts.code run.place ≡ true
starts {run = run} s = let r = s.ready in path_starts run.parts.code _ r.encoding.some r.heights r.path

-- the same instruction stands at a place
same_at : {code : List ℕ} {p : ℕ} {i j : Instruction} {o u : Operation}
    → InstructionAt code p i o → InstructionAt code p j u → (i ≡ j) × (o ≡ u)
same_at {code} {p} {i} {j} s t =
    let e = same_read code p i j s.rest t.rest s.read t.read in
    (e, same_Some _ _ (sym s.known ∙ ap (λ (k : Instruction). operation_of k.opcode) e ∙ t.known))

-- the working cells that its next step reads and writes are in use
used : {m : Marks} {t : Bool} {run : RunView} (s : Sound m t run)
    → Everywhere run.parts.literals
    (InUse (stack_of run (here s.ready).instruction (here s.ready).operation)) NotStuck (next_script run)
used {run = run} s =
    let k = here s.ready in
    subst
    (λ (c : Script). Everywhere run.parts.literals (InUse (stack_of run k.instruction k.operation)) NotStuck c)
    (sym (script_is run.parts run.place run.height k.stands))
    (all_in_use run.parts run.place run.height k.instruction run.variable_count run.binding_count
    k.operation _ (next_permitted s.ready))

-- where it is placed
pub placed : {m : Marks} {t : Bool} {run : RunView} → Sound m t run → WellPlaced run
placed {run = run} s =
    let r = s.ready in
    let k = here r in
    let same = sym (script_is run.parts run.place run.height k.stands) in
    let low = path_low run.parts.code (limit_of run.parts.layout) r.heights r.path in
    let room = r.heights.within r.path k.stands in
    record {
      instruction = k.instruction;
      operation = k.operation;
      stands = k.stands;
      starts = starts s;
      reached = r.path;
      only = λ h path. r.heights.one path r.path;
      need = need r;
      within =
          subst (λ (c : Script). Within run.parts.literals (counts_of run) c) same
          (all_in_bounds run.parts run.place run.height k.instruction run.variable_count run.binding_count r.fits low k.operation room _ (next_permitted r));
      in_use = used s;
    }

module _ {S : Type 0} (means : S → Meaning) (may : S → Sent → Value → S → Type 0) where
  -- a step that is not refused
  pub record Made (run : RunView) (f : List Value) (s : S) (a : CallAnswer)
      (run' : RunView) (f' : List Value) (s' : S) : Type 0 where
    pub outcome : Outcome
    pub fine : a ≡ Ok tt
    pub run_is : run' ≡ moved run outcome
    pub came : Exec run.parts.literals means may (next_script run) f s outcome f' s'

  pub made : (run : RunView) (f : List Value) (s : S) (a : CallAnswer)
      (run' : RunView) (f' : List Value) (s' : S)
      → first (step_tests run f (means s)) ≡ None → Step means may run f s a run' f' s'
      → Made run f s a run' f' s'
  made run f s a run' f' s' e st =
      let x = subst (λ (o : Option Fault). StepUnless means may o run f s a run' f' s') e st in
      record { outcome = x.0; fine = x.1; run_is = x.2; came = x.3 }

  module _ (run : RunView) (m : Marks) (t : Bool) (sound : Sound m t run)
      (f : List Value) (s : S) (a : CallAnswer) (run' : RunView) (f' : List Value) (s' : S)
      (st : Made run f s a run' f' s') where
    abbrev k : ValidInstruction (context run.parts (unmarked run.variable_count run.binding_count) true) run.place
    k = here sound.ready

    -- what may come of the script of what stands at the run's place
    came_of : {i : Instruction} {o : Operation} → InstructionAt run.parts.code run.place i o
        → Exec run.parts.literals means may (script_at run.parts run.place run.height i o) f s st.outcome f' s'
    came_of x =
        subst (λ (c : Script). Exec run.parts.literals means may c f s st.outcome f' s') (script_is run.parts run.place run.height x) st.came

    lands : Lands run.parts run.place run.height k.instruction k.operation (comes_to st.outcome)
    lands =
        everywhere_leaf run.parts.literals means may (λ _. Unit {0})
        (Lands run.parts run.place run.height k.instruction k.operation) _ f s st.outcome f' s'
        (leads_to run.parts run.place run.height k.instruction k.operation (need sound.ready))
        (came_of k.stands)

    -- what a live run is after its step
    pub still_sound : run'.state ≡ Live → Sound m t run'
    still_sound l = by st.outcome refl lands (sym (ap (λ (r : RunView). r.state) st.run_is) ∙ l)
      where
        by : (x : Outcome) → st.outcome ≡ x
            → Lands run.parts run.place run.height k.instruction k.operation (comes_to x)
            → (moved run st.outcome).state ≡ Live → Sound m t run'
        by (continues p h) e w q =
            subst (λ (r : RunView). Sound m t r) (sym (st.run_is ∙ ap (moved run) e))
            (record {
              ready = ready_on sound.ready k.stands p h w.0 w.1;
              variables = sound.variables;
              bindings = sound.bindings;
              stores = sound.stores;
            })
        by (ends x v) e w q = absurd (never (ap (λ (y : Outcome). (moved run y).state) (sym e) ∙ q))
          where
            never : Ended x v ≡ Live → ⊥
            never q = absurd cc
        by (stops x) e w q = absurd (never (ap (λ (y : Outcome). (moved run y).state) (sym e) ∙ q))
          where
            never : Stopped x ≡ Live → ⊥
            never q = absurd cc

    -- the state after a stop
    stopped_to : (x : Stop) → st.outcome ≡ stops x → run'.state ≡ Stopped x
    stopped_to x e = ap (λ (r : RunView). r.state) (st.run_is ∙ ap (moved run) e)

    stopped_from : run.state ≡ Live → (x : Stop) → run'.state ≡ Stopped x → st.outcome ≡ stops x
    stopped_from live x e = by st.outcome (sym (ap (λ (r : RunView). r.state) st.run_is) ∙ e)
      where
        by : (y : Outcome) → (moved run y).state ≡ Stopped x → y ≡ stops x
        by (continues p h) q = let z = sym live ∙ q in absurd cc
        by (ends w v) q = absurd cc
        by (stops y) q = let same : y ≡ x = cc in ap stops same

    -- what continues does not stop
    goes_no_further : {x : Stop} → st.outcome ≡ stops x → Continues st.outcome → ⊥
    goes_no_further e c = let z = sym c.2 ∙ e in absurd cc

    -- it stopped at a message that is not understood: then it sent one
    abbrev Unknown : ℕ → Type 0
    Unknown n =
        (x : Sent) × (c : Option ℕ) × Sends run f x c × ((means s).understands x ≡ false) × (x.selector ≡ n)

    same_selector : {x y : ℕ} → st.outcome ≡ stops (NotUnderstood x) → st.outcome ≡ stops (NotUnderstood y) → x ≡ y
    same_selector e d = let z = sym e ∙ d in cc

    unknown : (n : ℕ) → st.outcome ≡ stops (NotUnderstood n) → Unknown n
    unknown n e =
        by k.operation k.stands (operand sound.ready) (came_of k.stands)
        (subst (λ (x : Outcome). Lands run.parts run.place run.height k.instruction k.operation (comes_to x)) e lands)
      where
        by : (o : Operation) → InstructionAt run.parts.code run.place k.instruction o
            → OperandFits run.parts run.variable_count k.instruction.argument o
            → Exec run.parts.literals means may (script_at run.parts run.place run.height k.instruction o) f s st.outcome f' s'
            → MayStop o (NotUnderstood n) → Unknown n
        by Send at fit x y = elim (send_told run.parts.literals means may (code_context_of run.parts) k.instruction (run.place + 2 * k.instruction.pairs) run.height f s st.outcome f' s' false k.instruction.opcode (arity_of k.instruction.opcode) x) [
          | inl z ↦ absurd (goes_no_further e z.1.0)
          | inr z ↦ (_, _, short at, z.0, same_selector z.1 e)
        ]
        by (SendSelector w) at fit x y =
            elim (send_told run.parts.literals means may (code_context_of run.parts) k.instruction (run.place + 2 * k.instruction.pairs) run.height f s st.outcome f' s' w fit.0 (k.instruction.argument % 256)
            (subst (λ (l : Option Literal). Exec run.parts.literals means may (given (selector_of l) (λ n. sending (code_context_of run.parts) k.instruction (run.place + 2 * k.instruction.pairs) run.height w n (k.instruction.argument % 256))) f s st.outcome f' s') fit.1 x)) [
              | inl z ↦ absurd (goes_no_further e z.1.0)
              | inr z ↦ (_, _, selector at fit.1, z.0, same_selector z.1 e)
            ]
        by (Branch w) at fit x y = on (landing_of run.parts.code Forward (run.place + 2 * k.instruction.pairs) k.instruction.argument) x
          where
            on : (l : Option ℕ)
                → Exec run.parts.literals means may (given l (λ r. act (read_cell (working_base run.parts + (run.height - 1))) (branching (code_context_of run.parts) k.instruction (run.place + 2 * k.instruction.pairs) run.height w r))) f s st.outcome f' s'
                → Unknown n
            on None x = absurd x
            on (Some r) x = elim (branch_told run.parts.literals means may (code_context_of run.parts) k.instruction (run.place + 2 * k.instruction.pairs) run.height f s st.outcome f' s' w r (top_of run f) x) [
              | inl z ↦ absurd (goes_no_further e z.1)
              | inr z ↦ elim z.2 [
                | inl u ↦ absurd (goes_no_further e u.1.0)
                | inr u ↦ (_, _, branch at z.0 z.1, u.0, same_selector u.1 e)
              ]
            ]
        by o at fit x y = absurd y

    -- and where it sends one that is not understood, it stops
    contrary : {x : Bool} → x ≡ true → x ≡ false → ⊥
    contrary e d = let z = sym e ∙ d in absurd cc

    told : (x : Sent) (c : Option ℕ) → Sends run f x c → (means s).understands x ≡ false
        → st.outcome ≡ stops (NotUnderstood x.selector)
    told _ _ (short {i} at) u = elim (send_told run.parts.literals means may (code_context_of run.parts) i (run.place + 2 * i.pairs) run.height f s st.outcome f' s' false i.opcode (arity_of i.opcode) (came_of at)) [
      | inl z ↦ absurd (contrary z.0 u)
      | inr z ↦ z.1
    ]
    told _ _ (selector {i} {super = w} {n} at l) u =
        elim (send_told run.parts.literals means may (code_context_of run.parts) i (run.place + 2 * i.pairs) run.height f s st.outcome f' s' w n (i.argument % 256)
        (subst (λ (l : Option Literal). Exec run.parts.literals means may (given (selector_of l) (λ n. sending (code_context_of run.parts) i (run.place + 2 * i.pairs) run.height w n (i.argument % 256))) f s st.outcome f' s') l (came_of at))) [
          | inl z ↦ absurd (contrary z.0 u)
          | inr z ↦ z.1
        ]
    told _ _ (branch {i} {when = w} at not_true not_false) u = on (landing_of run.parts.code Forward (run.place + 2 * i.pairs) i.argument) (came_of at)
      where
        on : (l : Option ℕ)
            → Exec run.parts.literals means may (given l (λ r. act (read_cell (working_base run.parts + (run.height - 1))) (branching (code_context_of run.parts) i (run.place + 2 * i.pairs) run.height w r))) f s st.outcome f' s'
            → st.outcome ≡ stops (NotUnderstood must_be_boolean)
        on None x = absurd x
        on (Some r) x = elim (branch_told run.parts.literals means may (code_context_of run.parts) i (run.place + 2 * i.pairs) run.height f s st.outcome f' s' w r (top_of run f) x) [
          | inl z ↦ elim z.0 [ inl y ↦ absurd (not_true y) | inr y ↦ absurd (not_false y) ]
          | inr z ↦ elim z.2 [ inl y ↦ absurd (contrary y.0 u) | inr y ↦ y.1 ]
        ]

    -- it stopped for want of a block: then there was none, and the other way round
    blockless : st.outcome ≡ stops NoBlock → MeetsNoBlock run f
    blockless e =
        by k.operation k.stands (came_of k.stands)
        (subst (λ (x : Outcome). Lands run.parts run.place run.height k.instruction k.operation (comes_to x)) e lands)
      where
        by : (o : Operation) → InstructionAt run.parts.code run.place k.instruction o
            → Exec run.parts.literals means may (script_at run.parts run.place run.height k.instruction o) f s st.outcome f' s'
            → MayStop o NoBlock → MeetsNoBlock run f
        by Close at x y = elim (close_told run.parts.literals means may (code_context_of run.parts) k.instruction (run.place + 2 * k.instruction.pairs) run.height f s st.outcome f' s' (top_of run f) _ x) [
          | inl z ↦ absurd (goes_no_further e z.2)
          | inr z ↦ record { instruction = k.instruction; closes = at; none = z.0 }
        ]
        by o at x y = absurd y

    lacking : MeetsNoBlock run f → st.outcome ≡ stops NoBlock
    lacking x = elim (close_told run.parts.literals means may (code_context_of run.parts) x.instruction (run.place + 2 * x.instruction.pairs) run.height f s st.outcome f' s' (top_of run f) _ (came_of x.closes)) [
      | inl z ↦ absurd (x.none z.0 z.1)
      | inr z ↦ z.1
    ]

    -- the working cells below those that it takes
    spared_below : (j : ℕ) → working_base run.parts ≤ j
        → j < working_base run.parts + (run.height - (effect_of k.operation k.instruction).takes)
        → (x : Access) → InUse (stack_of run k.instruction k.operation) x → Spares (in_frame j) x
    spared_below j low high (write_cell n v) w = λ e.
        let z : n ≡ j = cc in
        elim w [ inl y ↦ absurd (omega (arith, y, z, low)) | inr y ↦ absurd (omega (arith, y.0, z, high)) ]
    spared_below j low high (write_row r n v) w = λ e. absurd cc
    spared_below j low high x w = tt

    kept_below : {i : Instruction} {o : Operation} → InstructionAt run.parts.code run.place i o
        → (j : ℕ) → working_base run.parts ≤ j
        → j < working_base run.parts + (run.height - (effect_of o i).takes)
        → get_or f' j Nil ≡ get_or f j Nil
    kept_below {i} {o} at j low high =
        let same = same_at at k.stands in
        let h = subst (λ (n : Instruction). j < working_base run.parts + (run.height - (effect_of k.operation n).takes)) same.0
        (subst (λ (u : Operation). j < working_base run.parts + (run.height - (effect_of u i).takes)) same.1 high) in
        unwritten run.parts.literals means may (in_frame j) (next_script run) f s st.outcome f' s'
        (everywhere_map run.parts.literals (InUse (stack_of run k.instruction k.operation)) (Spares (in_frame j)) NotStuck (λ _. Unit {0})
        (spared_below j low h) (λ l x. tt) (next_script run) (used sound)) st.came

    -- what lies behind the counted cells
    spared_beyond : (j : ℕ) → frame_cells run.parts ≤ j
        → (x : Access) → InBounds (counts_of run) x → Spares (in_frame j) x
    spared_beyond j past (write_cell n v) w = λ e. let z : n ≡ j = cc in absurd (omega (arith, w, past, z))
    spared_beyond j past (write_row r n v) w = λ e. absurd cc
    spared_beyond j past x w = tt

    kept_behind : (j : ℕ) → frame_cells run.parts ≤ j → get_or f' j Nil ≡ get_or f j Nil
    kept_behind j past =
        unwritten run.parts.literals means may (in_frame j) (next_script run) f s st.outcome f' s'
        (everywhere_map run.parts.literals (InBounds (counts_of run)) (Spares (in_frame j)) NotStuck (λ _. Unit {0})
        (spared_beyond j past) (λ l x. tt) (next_script run) (placed sound).within) st.came

    -- what the instruction does not write
    kept_elsewhere : {i : Instruction} {o : Operation} → InstructionAt run.parts.code run.place i o
        → (j : ℕ) → (WritesCell (working_base run.parts) run.height i o j → ⊥)
        → get_or f' j Nil ≡ get_or f j Nil
    kept_elsewhere {i} {o} at j other =
        let same = same_at at k.stands in
        let none =
        subst (λ (n : Instruction). WritesCell (working_base run.parts) run.height n k.operation j → ⊥) same.0
        (subst (λ (u : Operation). WritesCell (working_base run.parts) run.height i u j → ⊥) same.1 other) in
        unwritten run.parts.literals means may (in_frame j)
        (script_at run.parts run.place run.height k.instruction k.operation) f s st.outcome f' s'
        (all_spare run.parts run.place run.height k.instruction run.variable_count run.binding_count k.operation j none
        _ (next_permitted sound.ready)) (came_of k.stands)

    -- where a live run is then
    led : {i : Instruction} {o : Operation} → InstructionAt run.parts.code run.place i o → run'.state ≡ Live
        → Among run'.place (successors run.parts.code run.place i o)
        × (run'.height ≡ after (effect_of o i) run.height)
    led {i} {o} at l =
        let same = same_at at k.stands in
        by st.outcome refl lands (sym (ap (λ (r : RunView). r.state) st.run_is) ∙ l) same.0 same.1
      where
        by : (x : Outcome) → st.outcome ≡ x
            → Lands run.parts run.place run.height k.instruction k.operation (comes_to x)
            → (moved run st.outcome).state ≡ Live → i ≡ k.instruction → o ≡ k.operation
            → Among run'.place (successors run.parts.code run.place i o)
            × (run'.height ≡ after (effect_of o i) run.height)
        by (continues p h) e w q x y =
            subst (λ (r : RunView). Among r.place (successors run.parts.code run.place i o) × (r.height ≡ after (effect_of o i) run.height))
            (sym (st.run_is ∙ ap (moved run) e))
            (subst (λ (j : Instruction). Among p (successors run.parts.code run.place j o) × (h ≡ after (effect_of o j) run.height)) (sym x)
            (subst (λ (u : Operation). Among p (successors run.parts.code run.place k.instruction u) × (h ≡ after (effect_of u k.instruction) run.height)) (sym y) w))
        by (ends x v) e w q i o = absurd (never_ended (ap (λ (y : Outcome). (moved run y).state) (sym e) ∙ q))
          where
            never_ended : Ended x v ≡ Live → ⊥
            never_ended q = absurd cc
        by (stops x) e w q i o = absurd (never_stopped (ap (λ (y : Outcome). (moved run y).state) (sym e) ∙ q))
          where
            never_stopped : Stopped x ≡ Live → ⊥
            never_stopped q = absurd cc

    -- what came of a message that is understood
    sent : {x : Sent} {c : Option ℕ} → Sends run f x c → (means s).understands x ≡ true
        → (v : Value) × may s x v s' × (f' ≡ with_answer c v f)
    sent (short {i} at) u = elim (send_told run.parts.literals means may (code_context_of run.parts) i (run.place + 2 * i.pairs) run.height f s st.outcome f' s' false i.opcode (arity_of i.opcode) (came_of at)) [
      | inl z ↦ z.1.1
      | inr z ↦ absurd (contrary u z.0)
    ]
    sent (selector {i} {super = w} {n} at l) u =
        elim (send_told run.parts.literals means may (code_context_of run.parts) i (run.place + 2 * i.pairs) run.height f s st.outcome f' s' w n (i.argument % 256)
        (subst (λ (l : Option Literal). Exec run.parts.literals means may (given (selector_of l) (λ n. sending (code_context_of run.parts) i (run.place + 2 * i.pairs) run.height w n (i.argument % 256))) f s st.outcome f' s') l (came_of at))) [
          | inl z ↦ z.1.1
          | inr z ↦ absurd (contrary u z.0)
        ]
    sent (branch {i} {when = w} at not_true not_false) u = on (landing_of run.parts.code Forward (run.place + 2 * i.pairs) i.argument) (came_of at)
      where
        on : (l : Option ℕ)
            → Exec run.parts.literals means may (given l (λ r. act (read_cell (working_base run.parts + (run.height - 1))) (branching (code_context_of run.parts) i (run.place + 2 * i.pairs) run.height w r))) f s st.outcome f' s'
            → (v : Value) × may s (message false must_be_boolean (top_of run f) []) v s' × (f' ≡ f)
        on None x = absurd x
        on (Some r) x = elim (branch_told run.parts.literals means may (code_context_of run.parts) i (run.place + 2 * i.pairs) run.height f s st.outcome f' s' w r (top_of run f) x) [
          | inl z ↦ elim z.0 [ inl y ↦ absurd (not_true y) | inr y ↦ absurd (not_false y) ]
          | inr z ↦ elim z.2 [ inl y ↦ y.1.1 | inr y ↦ absurd (contrary u y.0) ]
        ]

    -- what came of a store
    stored : {row : Row} {n : ℕ} → Stores run row n → means s' ≡ with_cell (means s) row n (top_of run f)
    stored (to_variable at) = let x = came_of at in ap means x.2.2 ∙ x.1
    stored (to_binding {i} {n} at l) =
        let x = subst (λ (l : Option Literal). Exec run.parts.literals means may (given (binding_of l) (λ n.
        act (read_cell (working_base run.parts + (run.height - 1))) (λ v. act (write_row Bindings n v) (λ _.
        act (write_cell (working_base run.parts + (run.height - 1)) Nil) (λ _. continue_at (run.place + 2 * i.pairs) run.height))))) f s st.outcome f' s') l (came_of at) in
        ap means x.2.2 ∙ x.1

    -- the host is left by what neither sends nor stores
    left : (MaySend k.operation → ⊥)
        → ((r : Row) (n : ℕ) → StoresTo run.parts.literals k.instruction.argument k.operation r n → ⊥) → s' ≡ s
    left none unstored =
        host_left run.parts.literals means may NotStuck
        (script_at run.parts run.place run.height k.instruction k.operation) f s st.outcome f' s'
        (all_leave run.parts run.place run.height k.instruction run.variable_count run.binding_count k.operation none unstored _ (next_permitted sound.ready))
        (came_of k.stands)

    -- a conditional jump that sends nothing
    decided : (w : Bool) → InstructionAt run.parts.code run.place k.instruction (Branch w)
        → ((x : Sent) (c : Option ℕ) → Sends run f x c → ⊥)
        → ((top_of run f ≡ True) ⊎ (top_of run f ≡ False)) × (f' ≡ f) × (s' ≡ s)
    decided w at none = on (landing_of run.parts.code Forward (run.place + 2 * k.instruction.pairs) k.instruction.argument) (came_of at)
      where
        on : (l : Option ℕ)
            → Exec run.parts.literals means may (given l (λ r. act (read_cell (working_base run.parts + (run.height - 1))) (branching (code_context_of run.parts) k.instruction (run.place + 2 * k.instruction.pairs) run.height w r))) f s st.outcome f' s'
            → ((top_of run f ≡ True) ⊎ (top_of run f ≡ False)) × (f' ≡ f) × (s' ≡ s)
        on None x = absurd x
        on (Some r) x = elim (branch_told run.parts.literals means may (code_context_of run.parts) k.instruction (run.place + 2 * k.instruction.pairs) run.height f s st.outcome f' s' w r (top_of run f) x) [
          | inl z ↦ (z.0, z.2, z.3)
          | inr z ↦ absurd (none _ _ (branch at z.0 z.1))
        ]

    untouched : ((x : Sent) (c : Option ℕ) → Sends run f x c → ⊥)
        → ((row : Row) (n : ℕ) → Stores run row n → ⊥) → s' ≡ s
    untouched none unstored = by k.operation k.stands refl (operand sound.ready)
      where
        by : (o : Operation) → InstructionAt run.parts.code run.place k.instruction o → k.operation ≡ o
            → OperandFits run.parts run.variable_count k.instruction.argument o → s' ≡ s
        by Send at e fit = absurd (none _ _ (short at))
        by (SendSelector w) at e fit = absurd (none _ _ (selector at fit.1))
        by (Branch w) at e fit = (decided w at none).2
        by (Store target.Variable) at e fit = absurd (unstored _ _ (to_variable at))
        by (Store target.Binding) at e fit = absurd (unstored _ _ (to_binding at fit.1))
        by o at e fit = left (λ x. subst MaySend e x) (λ r n x. subst (λ (u : Operation). StoresTo run.parts.literals k.instruction.argument u r n) e x)

    pub progress : run.state ≡ Live → Progress means may run f s a run' f' s'
    progress live = record {
      unrefused = st.fine;
      led = led;
      not_understood = λ n. (
        λ e. unknown n (stopped_from live (NotUnderstood n) e),
        λ x. stopped_to (NotUnderstood n) (told x.0 x.1 x.2 x.3 ∙ ap (λ (k : ℕ). stops (NotUnderstood k)) x.4),
      );
      no_block = (λ e. blockless (stopped_from live NoBlock e), λ x. stopped_to NoBlock (lacking x));
      sent = sent;
      stored = stored;
      untouched = untouched;
      below = kept_below;
      behind = kept_behind;
      unwritten = kept_elsewhere;
    }

    -- an untrusted run's step keeps the trusted cells
    pub keeps : ((s t : S) (m : Sent) (v : Value) → may s m v t → Kept (means s) (means t))
        → t ≡ false → marks_of (means s) ≡ m → Kept (means s) (means s')
    keeps lawful u e =
        kept run.parts.literals means may lawful m NotStuck
        (script_at run.parts run.place run.height k.instruction k.operation) f s st.outcome f' s' e
        (all_open run.parts run.place run.height k.instruction run.variable_count run.binding_count m k.operation
        (sound.stores u run.place k.instruction k.operation (starts sound) k.stands) _ (next_permitted sound.ready))
        (came_of k.stands)

  -- a step that is not refused, from its answer
  unrefused : (run : RunView) (g : List Value) (t : S) (run'' : RunView) (g' : List Value) (t' : S)
      → Step means may run g t (Ok tt) run'' g' t' → Made run g t (Ok tt) run'' g' t'
  unrefused run g t run'' g' t' x = by (first (step_tests run g (means t))) refl x
    where
      by : (o : Option Fault) → first (step_tests run g (means t)) ≡ o
          → StepUnless means may o run g t (Ok tt) run'' g' t' → Made run g t (Ok tt) run'' g' t'
      by (Some y) e p = let z = p.0 in absurd cc
      by None e p = record { outcome = p.0; fine = refl; run_is = p.2; came = p.3 }

  module _ (run : RunView) (m : Marks) (u : Bool) (sound : Sound m u run)
      (f : List Value) (s : S) (run' : RunView) (f' : List Value) (s' : S) (a : CallAnswer) (st : Made run f s a run' f' s')
      (g : List Value) (t : S) (run'' : RunView) (g' : List Value) (t' : S) (st' : Made run g t (Ok tt) run'' g' t')
      (agree : AgreeBelow (counts_of run) f (means s) g (means t)) where
    abbrev at : ValidInstruction (context run.parts (unmarked run.variable_count run.binding_count) true) run.place
    at = here sound.ready

    both : Alike run.parts.literals (counts_of run) means may
        (script_at run.parts run.place run.height at.instruction at.operation) st.outcome f' s' st'.outcome g' t'
    both =
        alike run.parts.literals (counts_of run) means may NotStuck
        (script_at run.parts run.place run.height at.instruction at.operation) f s st.outcome f' s' g t st'.outcome g' t'
        (settles run.parts run.place run.height at.instruction at.operation)
        (subst (λ (c : Script). Within run.parts.literals (counts_of run) c) (script_is run.parts run.place run.height at.stands) (placed sound).within)
        agree
        (came_of run m u sound f s a run' f' s' st at.stands)
        (came_of run m u sound g t (Ok tt) run'' g' t' st' at.stands)

    same_run : run'' ≡ run'
    same_run = st'.run_is ∙ ap (moved run) both.0 ∙ sym st.run_is

    -- the tops agree
    same_top : 1 ≤ run.height → top_of run g ≡ top_of run f
    same_top some =
        let r = sound.ready in
        let low = path_low run.parts.code (limit_of run.parts.layout) r.heights r.path in
        let fits = r.fits in
        let there : working_base run.parts + (run.height - 1) < (counts_of run).cells = omega (arith, some, low, fits) in
        sym (get_or-take (counts_of run).cells g (working_base run.parts + (run.height - 1)) Nil there)
        ∙ ap (λ (x : List Value). get_or x (working_base run.parts + (run.height - 1)) Nil) agree.frames
        ∙ get_or-take (counts_of run).cells f (working_base run.parts + (run.height - 1)) Nil there

    same_writes : ((x : Sent) (c : Option ℕ) → Sends run f x c → ⊥) → AgreeBelow (counts_of run) f' (means s') g' (means t')
    same_writes none = by at.operation at.stands refl (operand sound.ready)
      where
        by : (o : Operation) → InstructionAt run.parts.code run.place at.instruction o → at.operation ≡ o
            → OperandFits run.parts run.variable_count at.instruction.argument o
            → AgreeBelow (counts_of run) f' (means s') g' (means t')
        by Send x e fit = absurd (none _ _ (short x))
        by (SendSelector w) x e fit = absurd (none _ _ (selector x fit.1))
        by (Branch w) x e fit =
            let some : 1 ≤ run.height = subst (λ (o : Operation). (effect_of o at.instruction).takes ≤ run.height) e (need sound.ready) in
            let here = decided run m u sound f s a run' f' s' st w x none in
            let there = decided run m u sound g t (Ok tt) run'' g' t' st' w x (unsent some here.0) in
            subst (λ (h : List Value). AgreeBelow (counts_of run) h (means s') g' (means t')) (sym here.1)
            (subst (λ (h : List Value). AgreeBelow (counts_of run) f (means s') h (means t')) (sym there.1)
            (subst (λ (h : S). AgreeBelow (counts_of run) f (means h) g (means t')) (sym here.2)
            (subst (λ (h : S). AgreeBelow (counts_of run) f (means s) g (means h)) (sym there.2) agree)))
          where
            unsent : 1 ≤ run.height → (top_of run f ≡ True) ⊎ (top_of run f ≡ False)
                → (y : Sent) (c : Option ℕ) → Sends run g y c → ⊥
            unsent some d _ _ (short z) = let v = (same_at z x).1 in absurd cc
            unsent some d _ _ (selector z l) = let v = (same_at z x).1 in absurd cc
            unsent some d _ _ (branch z not_true not_false) = elim d [
              | inl v ↦ not_true (same_top some ∙ v)
              | inr v ↦ not_false (same_top some ∙ v)
            ]
        by o x e fit =
            both.1 (all_silent run.parts run.place run.height at.instruction run.variable_count run.binding_count at.operation
            (λ y. subst MaySend e y) _ (next_permitted sound.ready))

  pub same_within : (run : RunView) (m : Marks) (u : Bool) → Sound m u run
      → (f : List Value) (s : S) (a : CallAnswer) (run' : RunView) (f' : List Value) (s' : S)
      → Made run f s a run' f' s' → SameWithin means may run f s run' f' s'
  same_within run m u sound f s a run' f' s' st g g' t t' run'' agree x =
      let st' = unrefused run g t run'' g' t' x in (
        same_run run m u sound f s run' f' s' a st g t run'' g' t' st' agree,
        same_writes run m u sound f s run' f' s' a st g t run'' g' t' st' agree,
      )
