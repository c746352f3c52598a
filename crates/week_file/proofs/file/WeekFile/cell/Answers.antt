use Rattle.std.proofs.Common.{◌≡◌, Ok, vec_items, ap, ◌∙◌, rules}
use Rattle.std.proofs.option.Match.{if_some}
use Rattle.week_file.specs.Cells.{raw_at, filed}
use Rattle.week_file.specs.Rows.{filed_by}
use Rattle.week_file.proofs.Asking.{read_at}
use Rattle.week_file.proofs.file.WeekFile.cell.Goals as goal

pub unwrap-requires-2 : goal.unwrap-requires-2
unwrap-requires-2 c =
    let chunk = if_some _ _ _ c.unwrap.ensures c.first_chunk.ensures.cases in
    let b = vec_items c.args.self.now.bytes in
    let place = c.in_ok-place.ensures in
    let read = read_at b c.args.row c.args.i _ _ _ place c.deref.ensures.value chunk.same in
    search rules

pub returns : goal.returns
returns c =
    let b = vec_items c.args.self.now.bytes in
    let chunk = if_some _ _ _ c.unwrap.ensures c.first_chunk.ensures.cases in
    let place = c.in_ok-place.ensures in
    let read = c.read.ensures
    ∙ read_at b c.args.row c.args.i _ _ _ place c.deref.ensures.value chunk.same in
    let same : c.unwrap-2.result ≡ filed (raw_at b c.in_ok-place.place) =
    cc (c.unwrap-2.ensures, read) in
    ap Ok same ∙ ap (filed_by b) place
