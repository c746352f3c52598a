-- What readiness gives at the place of a live run.
use Rattle.std.proofs.Common.{◌≡◌, ℕ, ◌+◌, ◌*◌, ◌≤◌, true, false, List, length, replicate, Some, None, Ok, Err, sym, ap, ◌∙◌, subst, arith}
use Rattle.std.proofs.lemmas.Option.{same_Some}
use mathlib.Core.Bool.{Bool-set}
use mathlib.Core.HLevel.{⊥_prop}
use mathlib.Core.Logic.{∥∥₁_elim, ∥∥₁_map}
use native.Mathlib.Bridge.{le_prop}
use lib.ListN.{length-replicate}
use Rattle.parcels.specs.Layouts.{limit_of}
use Rattle.parcels.specs.Opcodes.{operation_of, effect_of, after, flow_of}
use Rattle.parcels.specs.Parts.{Parts}
use Rattle.parcels.specs.Reading.{read_at}
use Rattle.parcels.specs.declared.opcodes.Operation.{Operation}
use Rattle.parcels.specs.declared.reading.Instruction.{Instruction}
use Rattle.parcels.specs.declared.reading.Unreadable.{Unreadable}
use Rattle.stages.specs.Encoding.{landing_fits}
use Rattle.stages.specs.Operands.{operand_fits}
use Rattle.soundness.specs.Rules.{OperandFits, LandingFits}
use Rattle.soundness.proofs.Operands.{operand_fits_true, landing_fits_true}
use Rattle.parcels.specs.Instructions.{InstructionAt, Among, successors}
use Rattle.soundness.proofs.Orders.{same_read}
use Rattle.safety.specs.Ready.{Ready}
use Rattle.safety.proofs.Readiness.{here, path_low, ready_on}

module _ {p : Parts} {v b place h : ℕ} (t : ∥ Ready p v b place h ∥₁) where
  pub readable : (e : Unreadable) → read_at p.code place ≡ Err e → ⊥
  readable e q = ∥∥₁_elim t ⊥_prop (λ r. let s = (here r).stands.read in let z : ◌≡◌ {A = ℕ} 0 1 = cc in omega arith)

  -- the instruction that is read is the one that stands there
  same : (r : Ready p v b place h) (i : Instruction) (rest : List ℕ) → read_at p.code place ≡ Ok (i, rest) → (here r).instruction ≡ i
  same r i rest q = same_read p.code place (here r).instruction i (here r).stands.rest rest (here r).stands.read q

  pub known : (i : Instruction) (rest : List ℕ) → read_at p.code place ≡ Ok (i, rest) → operation_of i.opcode ≡ None → ⊥
  known i rest q n =
      ∥∥₁_elim t ⊥_prop (λ r.
      let e : Some (here r).operation ≡ None = sym (here r).stands.known ∙ ap (λ (j : Instruction). operation_of j.opcode) (same r i rest q) ∙ n in
      let z : ◌≡◌ {A = ℕ} 0 1 = cc in omega arith)

  module _ {i : Instruction} {o : Operation} (s : InstructionAt p.code place i o) where
    does : (r : Ready p v b place h) → (here r).operation ≡ o
    does r = same_Some _ _ (sym (here r).stands.known ∙ ap (λ (j : Instruction). operation_of j.opcode) (same r i s.rest s.read) ∙ s.known)

    pub need : (effect_of o i).takes ≤ h
    need = ∥∥₁_elim t le_prop (λ r. r.heights.need r.path s)

    pub within : after (effect_of o i) h ≤ limit_of p.layout
    within = ∥∥₁_elim t le_prop (λ r. r.heights.within r.path s)

    pub low : h ≤ limit_of p.layout
    low = ∥∥₁_elim t le_prop (λ r. path_low p.code (limit_of p.layout) r.heights r.path)

    pub locals : p.layout.local_count ≤ p.layout.slot_count
    locals = ∥∥₁_elim t le_prop (λ r. r.fits)

    pub operand : operand_fits p v i.argument o ≡ true
    operand = ∥∥₁_elim t (Bool-set _ _) (λ r.
        operand_fits_true p v i.argument o
        (subst (λ (n : ℕ). OperandFits p n i.argument o) (length-replicate v false)
        (subst (λ (j : Instruction). OperandFits p (length (replicate v false)) j.argument o) (same r i s.rest s.read)
        (subst (λ (x : Operation). OperandFits p (length (replicate v false)) (here r).instruction.argument x) (does r) (here r).operand))))

    pub lands : landing_fits p.code (place + 2 * i.pairs) i.argument (flow_of o) ≡ true
    lands = ∥∥₁_elim t (Bool-set _ _) (λ r.
        landing_fits_true p.code (place + 2 * i.pairs) i.argument (flow_of o)
        (subst (λ (j : Instruction). LandingFits p.code (place + 2 * j.pairs) j.argument (flow_of o)) (same r i s.rest s.read)
        (subst (λ (x : Operation). LandingFits p.code (place + 2 * (here r).instruction.pairs) (here r).instruction.argument (flow_of x)) (does r) (here r).lands)))

    -- readiness at a successor
    pub onward : (q k : ℕ) → Among q (successors p.code place i o) → k ≡ after (effect_of o i) h → ∥ Ready p v b q k ∥₁
    onward q k m e = ∥∥₁_map t (λ r. ready_on r s q k m e)
