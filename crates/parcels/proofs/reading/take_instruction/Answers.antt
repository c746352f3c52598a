use Rattle.std.proofs.Common.{arith, rules}
use Rattle.parcels.proofs.Pairs.{more, last}
use Rattle.parcels.proofs.reading.take_instruction.Goals as goal

pub loop-rest-preserved : goal.loop-rest-preserved
loop-rest-preserved c =
    more _ _ _ _ c.loop-rest.invariant
    (search rules) (search rules) (search rules) (search rules)

pub returns-in-len2-up : goal.returns-in-len2-up
returns-in-len2-up c =
    let l = last _ _ _ _ c.loop-rest.invariant (search rules) (search rules) in
    record {
      reads = l.reads_so;
      place = l.behind;
      within = l.inside;
      some = omega arith;
      few = l.few;
    }
