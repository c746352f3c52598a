use Rattle.std.proofs.Common.{rules, ◌≡◌, ap, ◌∙◌, arith, w64, SFits}
use Rattle.std.proofs.lemmas.Int.{ints, to_z-of_z}
use Rattle.values.specs.Kinds.{integer, integer_of}
use Rattle.values.proofs.Smalls.{answered}
use Rattle.values.proofs.Parts.{signed_back}
use Rattle.values.proofs.kinds.of_kind.Goals as goal

pub returns-in-3 : goal.returns-in-3
returns-in-3 c =
    let n = c.args.number in
    let fits : SFits w64 c.from.result = omega (arith, ints, c.from.type_inv) in
    let back = signed_back c.cast_signed.result n c.ranges.number.fits c.cast_signed.ensures in
    let made : c.ok.result ≡ integer_of n =
    c.ok.ensures.value ∙ answered _ _ c.try_from.ensures
    ∙ ap integer (to_z-of_z w64 c.from.result fits ∙ c.from.ensures ∙ back) in
    search rules
