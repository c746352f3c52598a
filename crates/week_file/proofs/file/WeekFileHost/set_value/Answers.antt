use Rattle.std.proofs.Common.{vec_items, sym}
use Rattle.week_file.proofs.Asking.{cell_at, put_past}
use Rattle.week_file.proofs.file.WeekFileHost.set_value.Goals as goal

pub put-requires : goal.put-requires
put-requires c =
    cell_at (vec_items c.args.self.now.bytes) c.args.row c.args.i _ c.in_ok-place.ensures

pub returns-in_err-place-clause-after : goal.returns-in_err-place-clause-after
returns-in_err-place-clause-after c =
    let b = vec_items c.args.self.now.bytes in
    sym (put_past b c.args.row c.args.i _ c.args.v c.in_err-place.ensures)
