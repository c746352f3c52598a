-- The low 31 bits of a number, signed.
use Rattle.std.specs.Prelude.{ℕ, suc, ◌-◌, ◌%◌, ◌^◌, if◌then◌else◌, ℤ, pos, negsuc, nat_lt}
use Rattle.std.proofs.Common.{of_z}
use Rattle.std.specs.Int.{w32}

-- a number below 2 ^ 31 as the 31 bits of a signed one
abbrev pub signed31 : ℕ → ℤ
signed31 m = if nat_lt m (2 ^ 30) then pos m else negsuc (2 ^ 31 - suc m)

-- what is left of z in 31 bits, signed
abbrev pub low31 : ℤ → ℤ
low31 z = signed31 (of_z w32 z % 2 ^ 31)
