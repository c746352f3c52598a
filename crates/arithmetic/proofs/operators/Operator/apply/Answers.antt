use Rattle.std.proofs.Common.{sym, ap, ◌∙◌}
use Rattle.values.proofs.Smalls.{answered}
use Rattle.arithmetic.specs.Division.{floor_quotient, floor_remainder}
use Rattle.values.specs.Kinds.{integer}
use Rattle.arithmetic.proofs.Results.{unless_zero}
use Rattle.arithmetic.proofs.Widths.{sum_is, difference_is, product_is, given_is, nonzero}
use Rattle.arithmetic.proofs.operators.Operator.apply.Goals as goal

pub returns-in-Add : goal.returns-in-Add
returns-in-Add c =
    let e = sum_is c.args.x c.args.y _ _ c.from-a.ensures c.from-b.ensures in
    rw c.in-Add.is (c.ok.ensures.value ∙ answered _ _ c.try_from.ensures ∙ ap integer e)

pub returns-in-Subtract : goal.returns-in-Subtract
returns-in-Subtract c =
    let e = difference_is c.args.x c.args.y _ _ c.from-a.ensures c.from-b.ensures in
    let answer = answered _ _ c.try_from-in-Subtract.ensures in
    rw c.in-Subtract.is (c.ok-in-Subtract.ensures.value ∙ answer ∙ ap integer e)

pub returns-in-Multiply : goal.returns-in-Multiply
returns-in-Multiply c =
    let e = product_is c.args.x c.args.y _ _ c.from-a.ensures c.from-b.ensures in
    let answer = answered _ _ c.try_from-in-Multiply.ensures in
    rw c.in-Multiply.is (c.ok-in-Multiply.ensures.value ∙ answer ∙ ap integer e)

pub returns-in-Remainder : goal.returns-in-Remainder
returns-in-Remainder c =
    let e = given_is floor_remainder c.args.x c.args.y _ _ _ c.from-a.ensures c.from-b.ensures
    (record { sfits = c.floor_remainder.type_inv }) c.floor_remainder.ensures in
    let answer = answered _ _ c.try_from-in-Remainder.ensures in
    let other = nonzero c.args.y _ c.from-b.ensures c.if-b-ne0.true in
    rw c.in-Remainder.is
    (c.ok-in-Remainder.ensures.value ∙ answer ∙ ap integer e ∙ sym (unless_zero _ _ other))

pub returns-in-Quotient : goal.returns-in-Quotient
returns-in-Quotient c =
    let e = given_is floor_quotient c.args.x c.args.y _ _ _ c.from-a.ensures c.from-b.ensures
    (record { sfits = c.floor_quotient.type_inv }) c.floor_quotient.ensures in
    let answer = answered _ _ c.try_from-in-Quotient.ensures in
    let other = nonzero c.args.y _ c.from-b.ensures c.if-b-ne0-2.true in
    rw c.in-Quotient.is
    (c.ok-in-Quotient.ensures.value ∙ answer ∙ ap integer e ∙ sym (unless_zero _ _ other))
