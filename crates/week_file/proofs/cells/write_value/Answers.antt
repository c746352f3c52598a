use Rattle.std.proofs.Common.{◌≡◌, arith, rules}
use Rattle.week_file.specs.Cells.{five_bytes}
use Rattle.week_file.proofs.Pieces.{five_made, five_put}
use Rattle.week_file.proofs.cells.write_value.Goals as goal

pub returns-clause-written : goal.returns-clause-written
returns-clause-written c =
    let made = five_made c.args.v c.kind.result c.number.result c.to_be_bytes.result
    c.kind.ensures c.number.ensures (omega arith) c.to_be_bytes.ensures in
    let after = c.copy_from_slice.ensures.after in
    let bytes : c.copy_from_slice.new.self ≡ five_bytes c.args.v = cc in
    search (rules, five_put)
