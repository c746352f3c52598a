use Rattle.std.proofs.Common.{ℕ, ◌%◌, refl, ap, ◌∙◌, w64, of_z}
use Rattle.std.proofs.lemmas.Int.{to_z-of_z}
use Rattle.values.specs.Low.{signed31}
use Rattle.planning.proofs.Arguments.{low_of}
use Rattle.planning.proofs.options.argument_value.Goals as goal

pub returns : goal.returns
returns c = (
  c.new.result,
  refl,
  c.new.ensures ∙ low_of c.cast_signed.result c.cast_unsigned.result c.cast_signed.ensures
      ∙ ap (λ (u : ℕ). signed31 (u % 2147483648)) (c.cast_unsigned.ensures ∙ ap (of_z w64) (to_z-of_z w64 c.args.n c.ranges.n)),
)
