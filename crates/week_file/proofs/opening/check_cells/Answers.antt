use Rattle.std.proofs.Common.{Err, sym, ap, ◌∙◌}
use Rattle.values.specs.Order.{unless}
use Rattle.week_file.proofs.Searching.{answered_by}
use Rattle.week_file.proofs.opening.check_cells.Goals as goal

pub returns-in-Some : goal.returns-in-Some
returns-in-Some c =
    let e = sym c.in-Some.is ∙ c.first_wrong_cell.ensures in
    ap Err c.at.ensures
    ∙ ap (λ o. unless o tt) (answered_by c.args.bytes.now _ _ c.as_chunks.ensures.front e)

pub returns-in-None : goal.returns-in-None
returns-in-None c =
    let e = sym c.in-None.is ∙ c.first_wrong_cell.ensures in
    ap (λ o. unless o tt) (answered_by c.args.bytes.now _ _ c.as_chunks.ensures.front e)
