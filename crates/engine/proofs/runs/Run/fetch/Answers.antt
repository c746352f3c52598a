use Rattle.std.proofs.Common.{◌≡◌, ℕ, ◌+◌, ◌*◌, true, sym, refl, ap, ◌∙◌, subst}
use Rattle.values.proofs.Smalls.{answered}
use Rattle.parcels.specs.Instructions.{InstructionAt}
use Rattle.parcels.specs.Opcodes.{flow_of}
use Rattle.parcels.specs.Reading.{read_at}
use Rattle.stages.specs.Encoding.{landing_fits}
use Rattle.engine.proofs.Fetching.{readable, known, need, within, low, locals, operand, lands}
use Rattle.engine.proofs.runs.Run.fetch.Goals as goal
use Rattle.engine.proofs.runs.Run.fetch.Goals.{In-Ok-try_from}

-- what is read at the place
stands : (c : In-Ok-try_from) → InstructionAt c.args.self.now.parcel.code.now c.args.self.now.place c.in-Ok.instruction c.in-Ok-try_from.operation
stands c =
    let p = c.at-reader.ensures.place in
    let code = c.at-reader.ensures.code in
    record {
      rest = c.in-Ok.field-0-1.now;
      read = sym (c.in-Ok.ensures.reads ∙ (λ i. read_at (code i) (p i)));
      known = sym (answered _ _ c.in-Ok-try_from.ensures);
    }

-- the place after it
following : (c : In-Ok-try_from) → c.advance.new.self.place ≡ c.args.self.now.place + 2 * c.in-Ok.instruction.pairs
following c = c.in-Ok.ensures.place ∙ ap (λ (x : ℕ). x + 2 * c.in-Ok.instruction.pairs) c.at-reader.ensures.place

pub unreachable-requires : goal.unreachable-requires
unreachable-requires c =
    let p = c.at-reader.ensures.place in
    let code = c.at-reader.ensures.code in
    readable (c.args.self.now.ready c.requires) c.in_default.field-0 (sym (c.in_default.ensures.reads ∙ (λ i. read_at (code i) (p i))))

pub unreachable-requires-in_default-try_from : goal.unreachable-requires-in_default-try_from
unreachable-requires-in_default-try_from c =
    let p = c.at-reader.ensures.place in
    let code = c.at-reader.ensures.code in
    known (c.args.self.now.ready c.requires) c.in-Ok.instruction c.in-Ok.field-0-1.now (sym (c.in-Ok.ensures.reads ∙ (λ i. read_at (code i) (p i)))) (sym (answered _ _ c.in_default-try_from.ensures))

pub invariant_of-result : goal.invariant_of-result
invariant_of-result c =
    let d = (goal.at.invariant_of-result c).In-Ok-try_from in
    let t = c.args.self.now.ready c.requires in
    let s = stands d in
    record {
      operand = operand t s;
      lands = subst (λ (x : ℕ). landing_fits c.args.self.now.parcel.code.now x c.in-Ok.instruction.argument (flow_of c.in-Ok-try_from.operation) ≡ true) (sym (following d)) (lands t s);
      need = need t s;
      within = within t s;
      low = low t s;
      locals = locals t s;
    }

pub returns : goal.returns
returns c = let d = (goal.at.returns c).In-Ok-try_from in record { parcel = refl; variables = refl; stands = stands d; following = following d; at = refl }
