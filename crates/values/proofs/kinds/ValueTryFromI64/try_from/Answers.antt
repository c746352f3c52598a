use Rattle.std.proofs.Common.{sym, ap, ◌∙◌, w64}
use Rattle.std.specs.Option.{ok_or, option_map}
use Rattle.std.proofs.lemmas.Int.{to_z-of_z}
use Rattle.values.specs.Small.{small}
use Rattle.values.specs.declared.kinds.Value.TheVariants.{Integer}
use Rattle.values.proofs.Smalls.{answered}
use Rattle.values.proofs.kinds.ValueTryFromI64.try_from.Goals as goal

pub returns : goal.returns
returns c =
    ap (λ o. ok_or (option_map Integer o) (record { 0 = c.args.n }))
    (answered _ _ (sym c.in_ok-try_from.was ∙ c.try_from.ensures)
    ∙ ap small (to_z-of_z w64 c.args.n c.ranges.n))
