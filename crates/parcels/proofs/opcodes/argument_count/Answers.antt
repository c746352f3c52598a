use Rattle.std.proofs.Common.{refl, ap, ◌∙◌}
use Rattle.std.specs.Option.{unwrap_or}
use Rattle.parcels.proofs.Tables.{looked_up}
use Rattle.parcels.proofs.opcodes.argument_count.Goals as goal

pub returns : goal.returns
returns c =
    let found = c.get.ensures.lookup in
    c.unwrap_or.ensures
    ∙ ap (λ o. unwrap_or o 0) c.copied.ensures
    ∙ looked_up _ c.get.result c.args.message found.0 found.1 refl
