-- Every verdict has its meaning.
use Rattle.std.proofs.Common.{◌≡◌, ℕ, ◌<◌, ◌≤◌, ◌≢◌, List, drop, Ok, Err, Option, Result, refl, ap, ◌∙◌, subst, inl, inr, arith}
use Rattle.values.specs.Faults.{rule_stage}
use Rattle.values.specs.declared.faults.Fault.{Fault}
use Rattle.values.specs.declared.faults.Stage.TheVariants.{Heights}
use Rattle.parcels.specs.declared.layout.Kind.{Kind}
use Rattle.parcels.specs.declared.layout.Kind.TheVariants.{Method, Block}
use Rattle.parcels.specs.declared.layout.ParcelHeader.{ParcelHeader}
use Rattle.parcels.specs.declared.layout.TheConstants.{MAX_SLOTS}
use Rattle.parcels.specs.Layouts.{header, laid_out, laid_as, limit_of}
use Rattle.stages.specs.Examination.{greatest_height}
use Rattle.stages.specs.Check.{Question, pairs, Checked, concluded, checked}
use Rattle.stages.specs.declared.heights.TheConstants.{NO_HEIGHT}
use Rattle.soundness.specs.Paths.{ViolatesHeights, low, over, leaves, differ}
use Rattle.soundness.specs.Rules.{ValidEncoding}
use Rattle.soundness.specs.Verdicts.{asked_parcel, asked_code, asked_context, AskedIsValid, ListsSuffice, BeforeEncoding, HeightsOfPaths, OnlyHeights, FirstFault, on_path, VerdictMeans, EveryVerdictMeans}
use Rattle.soundness.proofs.Examining.{ResultIs, fine, broken, examination_is}
use Rattle.soundness.proofs.Heights.{only_heights}
use Rattle.soundness.proofs.Walking.{keeps_heights, heights_are, refutes}
use Rattle.soundness.proofs.Early as early
use Rattle.soundness.proofs.Early.{early_fault, AnsweredBy, stopped, passed, answered_by, EarlyMeans, kept, early_means, none_valid, early_or_path}

-- slots are at most 252
few_slots : (h : ParcelHeader) → (laid_out h).slot_count ≤ MAX_SLOTS
few_slots h = by h.kind
  where
    by : (k : Kind) → (laid_as k h).slot_count ≤ MAX_SLOTS
    by Method = omega arith
    by Block = omega arith

-- a broken height rule is a fault of the heights stage
in_heights_stage : {code : List ℕ} {limit : ℕ} {f : Fault}
    → ViolatesHeights code limit f → rule_stage f.rule ≡ Heights
in_heights_stage (low path t h) = refl
in_heights_stage (over path t need h) = refl
in_heights_stage (leaves path t need e) = refl
in_heights_stage (differ path other ne) = refl

-- an answer: accepted or refused
data Decided (q : Question) (c : Checked) : Type 0 where
  accepted : (top : ℕ) → c.verdict ≡ Ok top → AskedIsValid q → ListsSuffice q
      → HeightsOfPaths (asked_code q) c.heights top → Decided q c
  refused : (f : Fault) → c.verdict ≡ Err f → FirstFault q f → Decided q c

module _ (q : Question) where
  low_limit : limit_of (asked_parcel q).layout < NO_HEIGHT
  low_limit = omega (arith, few_slots (header q.bytes))

  -- the examination ended
  examined_so : BeforeEncoding q → ValidEncoding (asked_context q)
      → {r : Result (List ℕ) Fault} → ResultIs (asked_code q) (limit_of (asked_parcel q).layout) r
      → Decided q (concluded (pairs (asked_code q)) q.heights q.waiting r)
  examined_so k e (fine g x) =
      let limit = limit_of (asked_parcel q).layout in
      let valid : AskedIsValid q = record {
        in_header = k.0.0.0;
        in_flags = k.0.0.1;
        in_literals = k.0.1;
        in_encoding = e;
        in_heights = keeps_heights (asked_code q) limit g low_limit e.some x;
      } in
      accepted (greatest_height g) refl valid k.1
      (heights_are (asked_code q) limit g (drop (pairs (asked_code q)) q.heights)
      low_limit e.some e.even x)
  examined_so k e (broken f v) = refused f refl (on_path k e v)

  decided_by : {c : Checked} {o : Option Fault}
      → o ≡ early_fault q → AnsweredBy q c → EarlyMeans q o → Decided q c
  decided_by is (stopped f e v) (early.broken {f = g} x) =
      let same : g ≡ f = cc in refused f v (subst (λ (y : Fault). FirstFault q y) same x)
  decided_by is (stopped f e v) (kept k ke) = absurd cc
  decided_by is (passed e) (early.broken x) = absurd cc
  decided_by is (passed e) (kept k ke) =
      examined_so k ke
      (examination_is (asked_code q) (limit_of (asked_parcel q).layout) low_limit
      (pairs (asked_code q)) (omega (arith, ke.even)) (omega (arith, ke.some, ke.even)))

  decided : Decided q (checked q)
  decided = decided_by refl (answered_by q) (early_means q)

  -- no fault is found where every rule is kept
  no_fault : {f : Fault} → FirstFault q f → AskedIsValid q → ListsSuffice q → ⊥
  no_fault x k l = elim (early_or_path q x) [
    | inl e ↦ (let n = none_valid q k l in absurd cc)
    | inr v ↦ refutes v.1 k.in_heights
  ]

  -- of two first faults of which one is found before the heights, both are the same
  same_first : {f g : Fault}
      → FirstFault q f → FirstFault q g → rule_stage g.rule ≢ Heights → f ≡ g
  same_first x y ne = elim (early_or_path q y) [
    | inr v ↦ absurd (ne (in_heights_stage v.1))
    | inl e ↦ elim (early_or_path q x) [
      | inl d ↦ cc
      | inr v ↦ (let n = v.0 in absurd cc)
    ]
  ]

  means : (c : Checked) → Decided q c → VerdictMeans q c
  means c (accepted top e k long heights) = record {
    keeps = λ x d. (k, long);
    accepts = λ k l. (top, e);
    heights = λ x d.
        let same : top ≡ x = cc in
        subst (λ (y : ℕ). HeightsOfPaths (asked_code q) c.heights y) same heights;
    no_others = λ x d.
        let same : top ≡ x = cc in
        subst (λ (y : ℕ). OnlyHeights (asked_code q) c.heights y) same
        (only_heights (asked_code q) c.heights top heights);
    refused = λ f d. absurd cc;
    one_first = λ f x ne. absurd (no_fault x k long);
  }
  means c (refused f e x) = record {
    keeps = λ y d. absurd cc;
    accepts = λ k l. absurd (no_fault x k l);
    heights = λ y d. absurd cc;
    no_others = λ y d. absurd cc;
    refused = λ g d.
        let same : f ≡ g = cc in subst (λ (y : Fault). FirstFault q y) same x;
    one_first = λ g y ne. e ∙ ap Err (same_first x y ne);
  }

pub every_verdict_means : EveryVerdictMeans
every_verdict_means q = means q (checked q) (decided q)
