use Rattle.std.proofs.Common.{ℤ, Some, ap, ◌∙◌, subst, w64, SFits}
use mathlib.Core.Path.{subst⁻¹}
use Rattle.std.proofs.lemmas.Int.{to_z-of_z}
use Rattle.planning.specs.Words.{ArgumentOf}
use Rattle.planning.specs.declared.options.Awaited.{Awaited}
use Rattle.planning.proofs.Asking.{counted, argued}
use Rattle.planning.proofs.options.Draft.take_number.Goals as goal
use Rattle.planning.proofs.options.Draft.take_number.Goals.{in-Steps+in_ok-self-in-Steps, in-Argument+in_ok-number-in-Argument+in_ok-push-in-Argument}

pub returns : goal.returns
returns c =
    let d = c.args.self.now in
    let word = c.args.word.now in
    elim c.match-option.branch [
      | in-Steps+in_ok-self-in-Steps w ↦
          rw w.self-is (counted word d w.in_ok-self-in-Steps.field-0 (c.requires ∙ ap (λ (o : Awaited). Some o) w.in-Steps.is) w.in_ok-self-in-Steps.ensures.0)
      | in-Argument+in_ok-number-in-Argument+in_ok-push-in-Argument w ↦
          let n = w.in_ok-number-in-Argument.field-0 in
          let v = w.argument_value-argument.result in
          let is = w.in_ok-number-in-Argument.ensures.0 in
          rw w.self-is (argued word d n v w.push.new.self (c.requires ∙ ap (λ (o : Awaited). Some o) w.in-Argument.is) is
          (subst (λ (z : ℤ). ArgumentOf z v) (to_z-of_z w64 n (subst⁻¹ (λ (z : ℤ). SFits w64 z) is.1 is.0.1)) w.argument_value-argument.ensures)
          w.in_ok-push-in-Argument.ensures.items)
    ]
