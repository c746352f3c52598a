-- The numbers of the check are as said.
use Rattle.std.proofs.Common.{refl}
use Rattle.stages.specs.Numbers.{CheckNumbers}

pub check_numbers : CheckNumbers
check_numbers = record { clean = refl; returning = refl; no_height = refl; max_pairs = refl }
