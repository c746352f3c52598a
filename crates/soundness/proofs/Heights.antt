-- Height bytes, and the heights that they are.
use Rattle.std.proofs.Common.{◌≡◌, ◌↔◌, ℕ, ◌*◌, ◌<◌, eqb, List, get_or, unwrap_or, Some, None, Option, sym, ap, ◌∙◌, inl, inr, arith}
use Rattle.std.proofs.lemmas.Bool.{cases_eq, cond-false, ne_eqb}
use Rattle.stages.specs.Check.{pairs}
use Rattle.stages.specs.Examination.{height_of}
use Rattle.stages.specs.declared.heights.TheConstants.{NO_HEIGHT}
use Rattle.soundness.specs.Paths.{Path}
use Rattle.soundness.specs.Verdicts.{HeightsOfPaths, OnlyHeights}

-- a byte that is a height
pub height_of_some : (b : ℕ) → (b ≡ NO_HEIGHT → ⊥) → height_of b ≡ Some b
height_of_some b ne = cond-false (eqb b NO_HEIGHT) None (Some b) (ne_eqb b NO_HEIGHT ne)

-- and the byte that is none
pub height_of_none : (b : ℕ) → b ≡ NO_HEIGHT → height_of b ≡ None
height_of_none b e = ap height_of e

-- a height is not that byte
pub some_height : (b h : ℕ) → height_of b ≡ Some h → b ≡ NO_HEIGHT → ⊥
some_height b h s e = let n = height_of_none b e in let z : ◌≡◌ {A = ℕ} 0 1 = cc in omega arith

-- but its own
pub some_byte : (b h : ℕ) → height_of b ≡ Some h → b ≡ h
some_byte b h s =
    elim (cases_eq b NO_HEIGHT) [
      | inl e ↦ absurd (some_height b h s e)
      | inr ne ↦ (let n = height_of_some b ne in cc)
    ]

pub counted_known : (b : ℕ) → (b ≡ NO_HEIGHT → ⊥) → unwrap_or (height_of b) 0 ≡ b
counted_known b ne = ap (λ (o : Option ℕ). unwrap_or o 0) (height_of_some b ne)

-- what heights of paths say of each byte
module _ {code hs : List ℕ} {top : ℕ} (a : HeightsOfPaths code hs top) (k : ℕ)
    (l : k < pairs code) where
  -- a byte is a path's height, if it is one
  pub reached_byte : (h : ℕ) → h < NO_HEIGHT → (get_or hs k 0 ≡ h) ↔ Path code (2 * k) h
  reached_byte h s = (
    λ e. (a.reached k h l).0
        (ap height_of e ∙ height_of_some h (λ q. omega arith)),
    λ path. some_byte (get_or hs k 0) h ((a.reached k h l).1 path),
  )

  -- and else there is no path
  pub blank_byte : (get_or hs k 0 ≡ NO_HEIGHT) ↔ ((h : ℕ) → Path code (2 * k) h → ⊥)
  blank_byte = (
    λ e h path. some_height (get_or hs k 0) h ((a.reached k h l).1 path) e,
    λ none. elim (cases_eq (get_or hs k 0) NO_HEIGHT) [
      | inl e ↦ e
      | inr ne ↦ absurd (none _ ((a.reached k _ l).0 (height_of_some _ ne)))
    ],
  )

-- there is one list of heights, and one greatest
pub only_heights : (code hs : List ℕ) (top : ℕ)
    → HeightsOfPaths code hs top → OnlyHeights code hs top
only_heights code hs top a gs g b = (greatest, same)
  where
    greatest : g ≡ top
    greatest = let u = a.most _ _ b.some.1 in let v = b.most _ _ a.some.1 in omega arith

    same : (k : ℕ) → k < pairs code → get_or gs k 0 ≡ get_or hs k 0
    same k l = elim (cases_eq (get_or gs k 0) NO_HEIGHT) [
      | inl e ↦ e ∙ sym ((blank_byte a k l).1 ((blank_byte b k l).0 e))
      | inr ne ↦ sym (some_byte _ _
          ((a.reached k _ l).1 ((b.reached k _ l).0 (height_of_some _ ne))))
    ]
