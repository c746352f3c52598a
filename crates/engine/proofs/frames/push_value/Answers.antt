use Rattle.std.proofs.Common.{◌≡◌, ℕ, ◌+◌, ◌-◌, ◌<◌, cond, ltb, List, Ok, Err, Result, length, set, ap, ◌∙◌, le_refl, arith}
use borrow.Rule.Slice.PartMut.{put_mid, mid_of, set_mid_at, mid_len}
use Rattle.std.proofs.lemmas.Bool.{cond-true, lt-ltb}
use Rattle.std.specs.Result.{is_ok}
use Rattle.engine.proofs.frames.push_value.Goals as goal

-- a push onto the part from low on is a write to the whole
whole : {X : Type 0} (xs ys : List X) (low h : ℕ) (v : X) (r : Result (Unit {0}) X) → low + h < length xs → r ≡ cond (ltb h (length (mid_of low (length xs - low) xs))) (Ok tt) (Err v)
    → ys ≡ cond (is_ok r) (set (mid_of low (length xs - low) xs) h v) (mid_of low (length xs - low) xs)
    → put_mid low (length xs - low) xs ys ≡ set xs (low + h) v
whole xs ys low h v r l s e =
    let n = mid_len low (length xs) xs (le_refl (length xs)) in
    let lt : h < length (mid_of low (length xs - low) xs) = omega (arith, n, l) in
    ap (put_mid low (length xs - low) xs) (e ∙ cond-true (is_ok r) _ _ (ap is_ok (s ∙ cond-true _ _ _ (lt-ltb _ _ lt)))) ∙ set_mid_at low (length xs - low) h xs v lt

pub returns : goal.returns
returns c = whole c.args.frame.now _ c.args.base c.args.h c.args.v _ c.requires c.push_working.ensures.said c.push_working.ensures.cells
