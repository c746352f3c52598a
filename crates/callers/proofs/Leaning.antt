-- What callers rely on follows from the clauses of a step.
use Rattle.std.proofs.Common.{◌≡◌, ℕ, ◌+◌, ◌-◌, ◌*◌, ◌/◌, ◌<◌, ◌≤◌, ◌⊎◌, eqb, ◌&&◌, inl, inr, Bool, true, false, not, List, length, take, slice_index_or, Some, None, Ok, Err, Option, Result, sym, refl, ap, ◌∙◌, subst, arith}
use Rattle.std.specs.Prelude.{◌↔◌}
use Rattle.std.proofs.lemmas.Bool.{eqb-true, ltb-false}
use Rattle.std.proofs.lemmas.List.{get_or-set_same}
use Rattle.std.proofs.lemmas.Option.{none-some, same_Some}
use Rattle.values.specs.Order.{first}
use Rattle.values.specs.declared.faults.Fault.{Fault}
use Rattle.values.specs.declared.kinds.Value.{Value}
use Rattle.values.specs.declared.kinds.Value.TheVariants.{Nil}
use Rattle.hosts.specs.Meaning.{Meaning, Sent, row_of}
use Rattle.hosts.specs.declared.rows.Row.{Row}
use Rattle.hosts.specs.declared.rows.Row.TheVariants.{Variables, Bindings}
use Rattle.parcels.specs.Opcodes.{operation_of, effect_of}
use Rattle.parcels.specs.Instructions.{InstructionAt}
use Rattle.parcels.specs.Reading.{starts_at}
use Rattle.parcels.specs.declared.opcodes.Operation.{Operation}
use Rattle.parcels.specs.declared.opcodes.Operation.TheVariants.{Store, Jump, Branch, Pop, End, Line}
use Rattle.parcels.specs.declared.opcodes.Target.TheVariants as target
use Rattle.parcels.specs.declared.reading.Instruction.{Instruction}
use Rattle.soundness.specs.Paths.{Path}
use Rattle.soundness.proofs.Transfers.{start_even}
use Rattle.soundness.proofs.Orders.{first_none, same_read}
use Rattle.semantics.specs.Properties.{row_count, AgreeBelow}
use Rattle.semantics.specs.Steps.{RunView, CallAnswer, StepUnless, Step, step_tests, is_live, frame_cells, working_base}
use Rattle.semantics.specs.declared.states.State.{State}
use Rattle.semantics.specs.declared.states.State.TheVariants.{Live, Ended, Stopped}
use Rattle.semantics.specs.declared.states.Stop.{Stop}
use Rattle.safety.specs.Histories.{counts_of, ExtendsHistory, WellPlaced, Progress, SameWithin, EveryHistoryIsSafe, WritesCell}
use Rattle.safety.proofs.Safety.{held_length}
use Rattle.callers.specs.Relying.{WritesNone, Reached, SheetStays, Regardless, Measured, MadeFor, Explained, SeenRight}

live_of : (st : State) → not (is_live st) ≡ false → st ≡ Live
live_of Live e = refl
live_of (Ended w v) e = absurd cc
live_of (Stopped x) e = absurd cc

-- the stop in a state
abbrev pub made_in : State → Option Stop
made_in Live = None
made_in (Ended w v) = None
made_in (Stopped x) = Some x

made_is : (st : State) (x : Stop) → (made_in st ≡ Some x) ↔ (st ≡ Stopped x)
made_is Live x = ((λ e. absurd (none-some x e)), (λ e. absurd cc))
made_is (Ended w v) x = ((λ e. absurd (none-some x e)), (λ e. absurd cc))
made_is (Stopped y) x = ((λ e. ap Stopped (same_Some _ _ e)), (λ e. ap made_in e))

iff_trans : {P Q R : Type 0} → P ↔ Q → Q ↔ R → P ↔ R
iff_trans a b = ((λ p. b.0 (a.0 p)), (λ r. a.1 (b.1 r)))

-- one instruction stands at a place
same_instruction : {code : List ℕ} {p : ℕ} {i j : Instruction} {o u : Operation}
    → InstructionAt code p i o → InstructionAt code p j u → (i ≡ j) × (o ≡ u)
same_instruction {code} {p} {i} {j} s t =
    let e = same_read code p i j s.rest t.rest s.read t.read in
    (e, same_Some _ _ (sym s.known ∙ ap (λ (k : Instruction). operation_of k.opcode) e ∙ t.known))

-- both of two tests
both_true : (a b : Bool) → not (a && b) ≡ false → (a ≡ true) × (b ≡ true)
both_true true true e = (refl, refl)
both_true true false e = absurd cc
both_true false b e = absurd cc

module _ {S : Type 0} (means : S → Meaning) (may : S → Sent → Value → S → Type 0) where
  -- what is known of a step that is not refused
  record Unrefused (run : RunView) (f : List Value) (s : S) : Type 0 where
    live : run.state ≡ Live
    variables : length (means s).variables ≡ run.variable_count
    bindings : length (means s).bindings ≡ run.binding_count
    long : frame_cells run.parts ≤ length f

  -- a step is refused, and leaves all, or is not
  abbrev Parted : RunView → RunView → List Value → List Value → S → S → CallAnswer → Type 0
  Parted run run' f f' s s' a =
      ((x : Fault) × (a ≡ Err x) × (run' ≡ run) × (f' ≡ f) × (s' ≡ s)) ⊎ ((a ≡ Ok tt) × Unrefused run f s)

  parted : (run run' : RunView) (f f' : List Value) (s s' : S) (a : CallAnswer)
      → Step means may run f s a run' f' s' → Parted run run' f f' s s' a
  parted run run' f f' s s' a st = by (first (step_tests run f (means s))) refl st
    where
      by : (t : Option Fault) → first (step_tests run f (means s)) ≡ t → StepUnless means may t run f s a run' f' s'
          → ((x : Fault) × (a ≡ Err x) × (run' ≡ run) × (f' ≡ f) × (s' ≡ s)) ⊎ ((a ≡ Ok tt) × Unrefused run f s)
      by (Some t) e p = inl (t, p.0, p.1, p.2, p.3)
      by None e p =
          let q = first_none (step_tests run f (means s)) e in
          let c = both_true (eqb (length (means s).variables) run.variable_count) (eqb (length (means s).bindings) run.binding_count) q.1.0 in
          inr (
            p.1,
            record {
              live = live_of run.state q.0;
              variables = eqb-true _ _ c.0;
              bindings = eqb-true _ _ c.1;
              long = ltb-false _ _ q.1.1.0;
            },
          )

  module _ (safe : EveryHistoryIsSafe means may) (s s' : S) (run run' : RunView) where
    placed : Reached means may s run → run.state ≡ Live → WellPlaced run
    placed x live = (safe x.0 x.1 s x.2 x.4).well_placed x.3 run x.5 live

    -- what is seen of a run that a call led to
    pub seen_right : ExtendsHistory means may s run s' (Some run') → Reached means may s run → run'.state ≡ Live
        → SeenRight run' (Some (record { pair = run'.place / 2; height = run'.height }))
    seen_right on x live =
        let held = get_or-set_same x.2 x.3 (Some run') None (held_length x.2 x.3 run x.5) in
        let here = (safe x.0 x.1 s' _ (on x.0 x.1 x.2 x.3 x.4 x.5)).well_placed x.3 run' held live in
        let even = start_even run'.parts.code run'.place here.starts in
        let whole : 2 * (run'.place / 2) ≡ run'.place = omega (arith, even) in (
          subst (λ (q : ℕ). starts_at run'.parts.code q ≡ true) (sym whole) here.starts,
          subst (λ (q : ℕ). Path run'.parts.code q run'.height) (sym whole) here.reached,
          (λ h path. here.only h (subst (λ (q : ℕ). Path run'.parts.code q h) whole path)),
        )

    module _ (f f' : List Value) (a : CallAnswer) (st : Step means may run f s a run' f' s') where
      came : Reached means may s run → Unrefused run f s
          → Progress means may run f s a run' f' s' × SameWithin means may run f s run' f' s'
      came x u = (safe x.0 x.1 s x.2 x.4).progress x.3 run x.5 u.live f f' a run' s' u.long st

      pub sheet_stays : SheetStays means may s run f f'
      sheet_stays = record { behind = behind; below = below; unwritten = elsewhere; whole = whole }
        where
          none : (i : Instruction) (o : Operation) (n : ℕ) → WritesNone o → WritesCell (working_base run.parts) run.height i o n → ⊥
          none i Pop n w e = e
          none i (Jump direction) n w e = e
          none i (Branch when) n w e = e
          none i Line n w e = e
          none i (End how) n w e = e
          none i (Store target.Variable) n w e = e
          none i o n w e = absurd w

          elsewhere : Reached means may s run → (i : Instruction) (o : Operation)
              → InstructionAt run.parts.code run.place i o
              → (n : ℕ) → (WritesCell (working_base run.parts) run.height i o n → ⊥)
              → slice_index_or f' n Nil ≡ slice_index_or f n Nil
          elsewhere x i o at n other = elim (parted run run' f f' s s' a st) [
            | inl r ↦ ap (λ (g : List Value). slice_index_or g n Nil) r.3
            | inr u ↦ (came x u.1).0.unwritten at n other
          ]

          whole : Reached means may s run → (i : Instruction) (o : Operation)
              → InstructionAt run.parts.code run.place i o → WritesNone o
              → (n : ℕ) → slice_index_or f' n Nil ≡ slice_index_or f n Nil
          whole x i o at w n = elsewhere x i o at n (none i o n w)

          behind : Reached means may s run → (n : ℕ) → frame_cells run.parts ≤ n
              → slice_index_or f' n Nil ≡ slice_index_or f n Nil
          behind x n past = elim (parted run run' f f' s s' a st) [
            | inl r ↦ ap (λ (g : List Value). slice_index_or g n Nil) r.3
            | inr u ↦ (came x u.1).0.behind n past
          ]

          below : Reached means may s run → (i : Instruction) (o : Operation)
              → InstructionAt run.parts.code run.place i o
              → (n : ℕ) → working_base run.parts ≤ n
              → n < working_base run.parts + (run.height - (effect_of o i).takes)
              → slice_index_or f' n Nil ≡ slice_index_or f n Nil
          below x i o at n low high = elim (parted run run' f f' s s' a st) [
            | inl r ↦ ap (λ (g : List Value). slice_index_or g n Nil) r.3
            | inr u ↦ (came x u.1).0.below at n low high
          ]

      -- a step that is answered by Ok is not refused
      accepted : a ≡ Ok tt → Unrefused run f s
      accepted e = elim (parted run run' f f' s s' a st) [
        | inl r ↦ (let z = sym r.1 ∙ e in absurd cc)
        | inr u ↦ u.1
      ]

      -- a sheet with the same counted cells agrees below the counts
      agree : Unrefused run f s → (g : List Value) → frame_cells run.parts ≤ length g
          → take (frame_cells run.parts) g ≡ take (frame_cells run.parts) f
          → AgreeBelow (counts_of run) f (means s) g (means s)
      agree u g long same = record {
        frames = same;
        rows = λ row i l. refl;
        receiver = refl;
        understands = refl;
        long = (u.long, long);
        counted = λ row. (counted row, counted row);
      }
        where
          counted : (row : Row) → row_count (counts_of run) row ≤ length (row_of (means s) row)
          counted Variables = omega (arith, u.variables)
          counted Bindings = omega (arith, u.bindings)

      pub regardless : Regardless means may s run f a run' f'
      regardless x e g g' t run'' long same other =
          let u = accepted e in
          let w = (came x u).1 g g' s t run'' (agree u g long same) other in
          (w.0, λ none. (w.1 none).frames)

      pub measured : run'.state ≡ Live → a ≡ Ok tt → Measured means may s run run' (Ok (Some (run.height, run'.height)))
      measured live e = (
        live,
        refl,
        λ x i o at.
            let u = accepted e in
            let w = placed x u.live in
            let d = same_instruction w.stands at in (
              subst (λ (u : Operation). (effect_of u i).takes ≤ run.height) d.1
                  (subst (λ (j : Instruction). (effect_of w.operation j).takes ≤ run.height) d.0 w.need),
              ((came x u).0.led at live).1,
            ),
      )

      -- a refusal is none that this caller meets
      pub not_refused : (t : Fault) → a ≡ Err t → (r : Result (Option Stop) Fault) → Explained means may s run f r f' s'
      not_refused t e r x live long =
          let ok = ((safe x.0 x.1 s x.2 x.4).progress x.3 run x.5 live f f' a run' s' long st).0.unrefused in absurd cc

      pub explained : (made : Option Stop) → made ≡ made_in run'.state → Explained means may s run f (Ok made) f' s'
      explained made e x live long =
          subst (λ (m : Option Stop). MadeFor means may s run f m f' s') (sym e) (record {
            not_understood = λ n. iff_trans (made_is run'.state _) (next.not_understood n);
            no_block = iff_trans (made_is run'.state _) next.no_block;
            sent = next.sent;
            stored = next.stored;
            untouched = next.untouched;
          })
        where
          next : Progress means may run f s a run' f' s'
          next = ((safe x.0 x.1 s x.2 x.4).progress x.3 run x.5 live f f' a run' s' long st).0
