use Rattle.std.proofs.Common.{rules, ◌≡◌, Some, sym, ap, ◌∙◌, arith, w64, SFits}
use Rattle.std.proofs.lemmas.Int.{ints, to_z-of_z}
use Rattle.values.specs.Kinds.{integer}
use Rattle.values.proofs.Smalls.{answered}
use Rattle.semantics.specs.Scripts.{integer as pushed}
use Rattle.engine.proofs.decoded.Decoded.value_from.Goals as goal

pub returns-in-Integer : goal.returns-in-Integer
returns-in-Integer g c =
    let fits : SFits w64 c.from.result = omega (arith, ints, c.from.type_inv) in
    let made : Some c.unwrap.result ≡ pushed c.args.self.now.instruction.argument =
    answered _ _ (sym c.unwrap.ensures ∙ c.try_from.ensures) ∙ ap integer (to_z-of_z w64 c.from.result fits ∙ c.from.ensures) in
    search rules
