use Rattle.std.proofs.Common.{◌≡◌, ◌-◌}
use Rattle.values.specs.Order.{first_from}
use Rattle.parcels.specs.Literals.{literal_fault, literals_fault}
use Rattle.parcels.proofs.literals.check_literals.Given as goal

-- what is left to find from literal k on is what there was to find
abbrev pub invariant-loop-k : goal.invariant-loop-k
invariant-loop-k l =
    first_from (literal_fault l.literals l.bindings) l.k (l.count - l.k)
    ≡ literals_fault l.literals l.count l.bindings
