use Rattle.std.proofs.Common.{Some, ap, ◌∙◌}
use Rattle.values.specs.Bytes.{at}
use Rattle.values.specs.Kinds.{value_of}
use Rattle.week_file.specs.Cells.{trusted_by, stored_by}
use Rattle.week_file.proofs.cells.FileCell.read.Goals as goal

pub returns : goal.returns
returns c =
    let s = c.args.cell.now in
    ap (λ o. stored_by o (Some c.in_ok-value.value)) c.in_ok-trusted.ensures
    ∙ ap (stored_by (trusted_by (at s 0)))
    (c.in_ok-value.ensures.made ∙ ap (value_of (at s 1)) c.from_be_bytes.ensures)
