use Rattle.std.proofs.Common.{arith}
use Rattle.parcels.proofs.Entries.{literal_read}
use Rattle.parcels.proofs.literals.literal_at.Goals as goal

pub returns : goal.returns
returns c =
    let part = c.in_ok-get.ensures.lookup.0 in
    literal_read
    c.args.literals.now c.in_ok-get.field-0.now c.args.k c.from_be_bytes.result c.of_parts.result
    part.2 (omega (arith, part.3, c.in-len6-up.len_at_least))
    c.from_be_bytes.ensures c.of_parts.ensures
