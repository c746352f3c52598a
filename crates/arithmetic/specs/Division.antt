-- Division that rounds down.
use Rattle.std.specs.Prelude.{suc, ℤ, pos, negsuc, neg_ℤ}
use Rattle.std.specs.Int.{int_div_euclid, int_rem_euclid}

-- the quotient of x by y, rounded down: -7 by 2 is -4; by a negative y it is that of -x by -y
abbrev pub floor_quotient : ℤ → ℤ → ℤ
floor_quotient x (pos n) = int_div_euclid x (pos n)
floor_quotient x (negsuc n) = int_div_euclid (neg_ℤ x) (pos (suc n))

-- what is left of x then, with the sign of y: -7 by 2 leaves 1, and 7 by -2 leaves -1
abbrev pub floor_remainder : ℤ → ℤ → ℤ
floor_remainder x (pos n) = int_rem_euclid x (pos n)
floor_remainder x (negsuc n) = neg_ℤ (int_rem_euclid (neg_ℤ x) (pos (suc n)))
