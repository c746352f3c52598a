use Rattle.std.proofs.Common.{rules, sym, ap, ◌∙◌}
use Rattle.values.proofs.Firsts.{here, on}
use Rattle.values.specs.Order.{unless}
use Rattle.parcels.specs.Literals.{literal_fault}
use Rattle.parcels.proofs.literals.check_literals.Goals as goal

pub returns-in_err-check_literal : goal.returns-in_err-check_literal
returns-in_err-check_literal c =
    let finds = literal_fault c.args.literals.now c.args.bindings in
    let fault = c.in_err-check_literal.field-0.0 in
    let first =
    here tt finds c.loop-k.k c.args.count c.loop-k-test.true fault
    (sym c.in_err-check_literal.was ∙ c.check_literal.ensures)
    ∙ ap (λ o. unless o tt) c.loop-k.invariant
    in
    search rules

pub loop-k-preserved : goal.loop-k-preserved
loop-k-preserved c =
    let finds = literal_fault c.args.literals.now c.args.bindings in
    on tt finds c.loop-k.k c.args.count c.loop-k-test.true
    (sym c.in_ok-check_literal.was ∙ c.check_literal.ensures)
    ∙ c.loop-k.invariant
