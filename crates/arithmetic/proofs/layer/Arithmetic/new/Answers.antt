use Rattle.std.proofs.Common.{refl}
use Rattle.arithmetic.proofs.Comparisons.{compares}
use Rattle.arithmetic.proofs.Divisions.{divides, only_so}
use Rattle.arithmetic.proofs.Others.{only_these}
use Rattle.arithmetic.proofs.Results.{computes, range_settles_answer, always_left, never_by_zero}
use Rattle.arithmetic.proofs.layer.Arithmetic.new.Goals as goal

pub returns : goal.returns
returns g c = record {
  holds = refl;
  divides = divides;
  only_so = only_so;
  computes = computes;
  settles = range_settles_answer;
  left = always_left;
  by_zero = never_by_zero;
  compares = compares;
  only = only_these;
  worked = record {
    down = refl;
    down_too = refl;
    up_to = refl;
    left = refl;
    left_negative = refl;
    left_none = refl;
    least_by_minus_one = refl;
    least_left = refl;
    product_inside = refl;
    product_outside = refl;
    product_least = refl;
    sum_inside = refl;
    sum_outside = refl;
    difference_inside = refl;
    difference_outside = refl;
    by_zero = refl;
    by_zero_left = refl;
    less_equal = refl;
    at_most_equal = refl;
  };
}
