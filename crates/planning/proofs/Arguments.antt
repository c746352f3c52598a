-- The low 31 bits of 64, by way of 32.
use Rattle.std.proofs.Common.{◌≡◌, ℕ, ◌%◌, ◌<◌, ℤ, ap, ◌∙◌, arith, w32, to_z, of_z}
use Rattle.std.proofs.lemmas.Int.{of_z-to_z}
use Rattle.values.specs.Low.{signed31, low31}

below : (u : ℕ) → u % 4294967296 < 4294967296
below u = omega arith

twice : (u : ℕ) → u % 4294967296 % 2147483648 ≡ u % 2147483648
twice u = omega arith

pub low_of : (z : ℤ) (u : ℕ) → z ≡ to_z w32 (u % 4294967296) → low31 (to_z w32 (of_z w32 z)) ≡ signed31 (u % 2147483648)
low_of z u e =
    let back = of_z-to_z w32 (u % 4294967296) (below u) in
    ap (λ (k : ℕ). signed31 (of_z w32 (to_z w32 k) % 2147483648)) (ap (of_z w32) e ∙ back)
    ∙ ap (λ (k : ℕ). signed31 (k % 2147483648)) back
    ∙ ap signed31 (twice u)
