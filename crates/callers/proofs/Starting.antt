-- The height at place 0, as a verdict means it.
use Rattle.std.proofs.Common.{◌≡◌, ℕ, ◌<◌, Bool, true, false, cond, eqb, List, [], ◌∷◌, length, Some, None, Ok, Err, Result, ap, sym, ◌∙◌, arith}
use Rattle.std.specs.List.{slice_get}
use Rattle.std.specs.Result.{result_ok}
use Rattle.std.proofs.lemmas.Option.{same_Some}
use Rattle.values.specs.declared.faults.Fault.{Fault}
use Rattle.stages.specs.Check.{Question, pairs, Checked}
use Rattle.stages.specs.Examination.{height_of, height_at}
use Rattle.stages.specs.declared.heights.TheConstants.{NO_HEIGHT}
use Rattle.parcels.specs.Parts.{parcel}
use Rattle.soundness.specs.Paths.{start}
use Rattle.soundness.specs.Verdicts.{VerdictMeans}
use Rattle.callers.specs.Judging.{height_of_start}

-- a byte that holds a height holds that number
byte_is : (b h : ℕ) → height_of b ≡ Some h → b ≡ h
byte_is b h e = by (eqb b NO_HEIGHT) e
  where
    by : (c : Bool) → cond c None (Some b) ≡ Some h → b ≡ h
    by true q = absurd cc
    by false q = same_Some _ _ q

-- the first entry of a list that has height 0 there
first_entry : (hs : List ℕ) → 0 < length hs → height_at hs 0 ≡ Some 0 → slice_get hs 0 ≡ Some 0
first_entry [] l e = absurd (omega arith)
first_entry (h ∷ hs) l e = ap (λ (x : ℕ). Some x) (byte_is h 0 e)

module _ (q : Question) (c : Checked) (means : VerdictMeans q c) where
  pub starts_low : (top : ℕ) → c.verdict ≡ Ok top → length c.heights ≡ length q.heights
      → slice_get c.heights 0 ≡ height_of_start c.verdict
  starts_low top e same =
      let k = means.keeps top e in
      let some : 0 < pairs (parcel q.bytes).code = omega (arith, k.0.in_encoding.some, k.0.in_encoding.even) in
      first_entry c.heights (omega (arith, same, some, k.1.heights)) (((means.heights top e).reached 0 0 some).1 start)
      ∙ sym (ap height_of_start e)

-- an answer that has a value is accepted
pub accepted : (r : Result ℕ Fault) (top : ℕ) → result_ok r ≡ Some top → r ≡ Ok top
accepted (Ok x) top e = cc
accepted (Err f) top e = absurd cc
