-- The numbers of the check.
use Rattle.std.specs.Prelude.{◌≡◌}
use Rattle.stages.specs.declared.encoding.TheConstants.{CLEAN, RETURNING}
use Rattle.stages.specs.declared.heights.TheConstants.{NO_HEIGHT, MAX_PAIRS}

-- what each number of the check is, by the name that it has in the code
pub record CheckNumbers : Type 0 where
  -- the chain use of a clean block, and that of a block that may end by a method return
  pub clean : CLEAN ≡ 0
  pub returning : RETURNING ≡ 31
  -- the height byte of a pair without a height
  pub no_height : NO_HEIGHT ≡ 255
  -- the most pairs of a code
  pub max_pairs : MAX_PAIRS ≡ 2048
