-- The small integers themselves: which numbers are one, and when two are the same.
use Rattle.std.specs.Prelude.{◌≡◌, ◌-◌, ◌^◌, Bool, true, false, T, ℤ, pos, negsuc, ◌≤ℤ◌, ◌<ℤ◌, Some, None, Option, nat_lt, refl}
use Rattle.std.proofs.Common.{ap, le_of_suc-le-suc as le-of-lt-suc, le→leb, ltb→lt}
use Rattle.std.proofs.Math.Path.{subst⁻¹}
use mathlib.Core.HLevel.{Σ_prop_path}
use Rattle.values.specs.declared.small.SmallInteger.{SmallInteger}
use Rattle.values.specs.contracts.small.SmallInteger.{the_propositions, the_values, the_ghost}

-- a small integer out of its value and the proofs of its bounds
abbrev made : (v : the_values) × the_ghost v → SmallInteger
made u = record { value = u.0.0; low = u.1.0; high = u.1.1.0 }

-- two small integers with one value are one
pub same_small : (x y : SmallInteger) → x.value ≡ y.value → x ≡ y
same_small x y p =
    ap made
    (Σ_prop_path the_propositions
    {u = ((x.value, tt), (x.low, (x.high, tt)))}
    {v = ((y.value, tt), (y.low, (y.high, tt)))}
    (ap (λ z. (z, tt)) p))

-- from -2 ^ 30 to 2 ^ 30 - 1
abbrev pub in_range : ℤ → Bool
in_range (pos n) = nat_lt n (2 ^ 30)
in_range (negsuc n) = nat_lt n (2 ^ 30)

-- what is in range is not below the least
pub range_low : (z : ℤ) → in_range z ≡ true → negsuc (2 ^ 30 - 1) ≤ℤ z
range_low (pos n) e = record { le = tt }
range_low (negsuc n) e =
    record { le = le→leb n (2 ^ 30 - 1) (le-of-lt-suc (ltb→lt n (2 ^ 30) (subst⁻¹ T e tt))) }

-- what is in range is not above the greatest
pub range_high : (z : ℤ) → in_range z ≡ true → z <ℤ pos (2 ^ 30)
range_high (pos n) e = record { lt = subst⁻¹ T e tt }
range_high (negsuc n) e = record { lt = tt }

-- z as a small integer, by whether it is in range
abbrev pub small_if : (z : ℤ) (b : Bool) → in_range z ≡ b → Option SmallInteger
small_if z true e = Some (record { value = z; low = range_low z e; high = range_high z e })
small_if z false e = None

-- the small integer that z is, if z is one
abbrev pub small : ℤ → Option SmallInteger
small z = small_if z (in_range z) refl
