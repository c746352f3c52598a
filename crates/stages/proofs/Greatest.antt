-- The greatest height, byte after byte.
use Rattle.std.proofs.Common.{◌≡◌, ℕ, max, unwrap_or, List, [], ◌∷◌, arith}
use Rattle.std.specs.List.{fold}
use Rattle.stages.specs.Examination.{height_of, greatest_height}

-- the height that a byte counts as
abbrev pub counted_height : ℕ → ℕ
counted_height b = unwrap_or (height_of b) 0

greatest_fold : (m : ℕ) (bs : List ℕ)
    → fold (λ a b. max a (counted_height b)) m bs ≡ max m (greatest_height bs)
greatest_fold m [] = omega arith
greatest_fold m (b ∷ bs) = let e = greatest_fold (max m (counted_height b)) bs in omega (arith, e)

pub greatest_first : (bs : List ℕ)
    → fold (λ a b. max a (counted_height b)) 0 bs ≡ greatest_height bs
greatest_first bs = let e = greatest_fold 0 bs in omega (arith, e)
