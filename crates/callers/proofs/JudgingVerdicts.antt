-- What callers of a check rely on follows from what a verdict means.
use Rattle.std.proofs.Common.{◌≡◌, ◌↔◌, ◌≢◌, ℕ, zero, suc, ◌*◌, ◌/◌, ◌%◌, ◌<◌, Bool, true, not, ◌⊎◌, List, [], ◌∷◌, length, Some, None, Ok, Err, Option, Result, IfSome, refl, sym, ap, ◌∙◌, subst, inl, inr, arith}
use Rattle.std.specs.Result.{result_ok, result_err}
use Rattle.std.proofs.lemmas.Bool.{lt-ltb, or_left}
use Rattle.std.proofs.lemmas.Option.{none-some}
use Rattle.values.specs.Faults.{fault, rule_stage}
use Rattle.values.specs.Order.{Test, first, unless, and_then}
use Rattle.values.specs.declared.faults.Fault.{Fault}
use Rattle.values.specs.declared.faults.Rule.{Rule}
use Rattle.values.specs.declared.faults.Rule.TheVariants.{ListShort, CodeCut, HeightLow, HeightOver, FallsOffEnd, HeightsDiffer}
use Rattle.values.specs.declared.faults.Stage.{Stage}
use Rattle.values.specs.declared.faults.Stage.TheVariants.{Header, Flags, Literals, Lists, Encoding, Heights}
use Rattle.parcels.specs.Instructions.{Among}
use Rattle.parcels.specs.Layouts.{header, header_tests, flag_tests, flagged, laid_out, limit_of}
use Rattle.parcels.specs.Opcodes.{flow_of, operation_of, successors_of}
use Rattle.parcels.specs.Parts.{Parts, parcel, parts, as_parts, parts_of, split}
use Rattle.parcels.specs.Reading.{starts_at, following_place, unreadable_rule}
use Rattle.parcels.specs.declared.layout.Layout.{Layout}
use Rattle.parcels.specs.declared.parts.Parcel.{Parcel}
use Rattle.parcels.specs.declared.opcodes.Flow.{Flow}
use Rattle.parcels.specs.declared.opcodes.Flow.TheVariants.{Follows, Jumps, Branches, Ends}
use Rattle.parcels.specs.declared.opcodes.Direction.TheVariants.{Forward}
use Rattle.parcels.specs.declared.opcodes.Operation.{Operation}
use Rattle.parcels.specs.declared.reading.Unreadable.{Unreadable}
use Rattle.parcels.specs.declared.reading.Unreadable.TheVariants.{FourthExtension, Cut}
use Rattle.stages.specs.Check.{Question, pairs, Checked}
use Rattle.stages.specs.Encoding.{Context, site_tests}
use Rattle.stages.specs.Examination.{height_at}
use Rattle.stages.specs.Sweep.{site, length_tests}
use Rattle.stages.specs.declared.encoding.Site.{Site}
use Rattle.soundness.specs.Paths.{Path, start, extend, ViolatesHeights, low, over, leaves, differ}
use Rattle.soundness.specs.Rules.{First, here, later, ValidHeader, ValidFlags, ValidLiterals, FirstViolation, unread, breaks}
use Rattle.soundness.specs.Verdicts.{asked_parcel, asked_code, ListsSuffice, BeforeLists, FirstFault, at_header, at_flags, at_literal, at_lists, at_length, at_instruction, on_path, HeightsOfPaths, OnlyHeights, VerdictMeans}
use Rattle.soundness.proofs.Transfers.{start_even, start_below, landing_among}
use Rattle.callers.specs.Judging.{HeightReached, Comes, SameHeights, before_lists, KeptBefore, ToldOfPaths}

-- every test finds a rule of the stage
abbrev AllOf : Stage → List Test → Type 0
AllOf s [] = Unit {0}
AllOf s (t ∷ ts) = (rule_stage t.finds.rule ≡ s) × AllOf s ts

-- and so does the first that applies
first_of : {s : Stage} {ts : List Test} {f : Fault}
    → AllOf s ts → First ts f → rule_stage f.rule ≡ s
first_of a (here e) = a.0
first_of a (later e x) = first_of a.1 x

-- the rules of an instruction are of the encoding
all_encoding : (x : Context) (s : Site) (o : Option Operation) → AllOf Encoding (site_tests x s o)
all_encoding x s None = (refl, tt)
all_encoding x s (Some o) = (refl, (refl, (refl, (refl, (refl, (refl, tt))))))

unreadable_stage : (e : Unreadable) → rule_stage (unreadable_rule e) ≡ Encoding
unreadable_stage FourthExtension = refl
unreadable_stage Cut = refl

violation_stage : {x : Context} {p : ℕ} {f : Fault}
    → FirstViolation x p f → rule_stage f.rule ≡ Encoding
violation_stage (unread e r) = unreadable_stage e
violation_stage {x} {p} (breaks i rest b f r t v) =
    first_of (all_encoding x (site p b i) (operation_of i.opcode)) v

-- a rule of another stage says nothing of paths
told_nothing : (l : Layout) (code : List ℕ) (r : Rule) (p : ℕ) (s : Stage)
    → rule_stage r ≡ s → s ≢ Heights → ToldOfPaths l code r p
told_nothing l code HeightLow p s e ne = absurd (ne (sym e))
told_nothing l code HeightOver p s e ne = absurd (ne (sym e))
told_nothing l code FallsOffEnd p s e ne = absurd (ne (sym e))
told_nothing l code HeightsDiffer p s e ne = absurd (ne (sym e))
told_nothing l code _ p s e ne = tt

-- the end is no place where an instruction starts
no_start_there : (code : List ℕ) → starts_at code (length code) ≡ true → ⊥
no_start_there code e = let l = start_below code (length code) e in omega (arith, l)

-- whatever has the end among its successors goes on to the following place, and that is the end
ends_there : (code : List ℕ) (f : Flow) (next by : ℕ)
    → Among (length code) (successors_of code f next by)
    → ((f ≡ Follows) ⊎ (f ≡ Branches)) × (next ≡ length code)
ends_there code Follows next by (inl e) = (inl refl, sym e)
ends_there code Follows next by (inr a) = absurd a
ends_there code (Jumps d) next by a =
    elim (landing_among code d next by (length code) (None ∷ []) a) [
      | inl t ↦ absurd (no_start_there code t)
      | inr x ↦ absurd x
    ]
ends_there code Branches next by a =
    elim (landing_among code Forward next by (length code) (Some next ∷ []) a) [
      | inl t ↦ absurd (no_start_there code t)
      | inr (inl e) ↦ (inr refl, sym e)
      | inr (inr x) ↦ absurd x
    ]
ends_there code Ends next by a = absurd a

-- a broken height rule, in a caller's words
told_by : (l : Layout) (code : List ℕ) {f : Fault}
    → ViolatesHeights code (limit_of l) f → ToldOfPaths l code f.rule f.place
told_by l code (low path t less) =
    (record { height = _; instruction = _; operation = _; path = path; stands = t }, less)
told_by l code (over path t need more) = (
  record { height = _; instruction = _; operation = _; path = path; stands = t },
  need,
  omega (arith, need, more),
)
told_by l code (leaves {p} {h} {i} {o} path t need a) = (
  record { height = _; instruction = _; operation = _; path = path; stands = t },
  need,
  ends_there code (flow_of o) (following_place p i) i.argument a,
)
told_by l code (differ path other ne) = (_, _, path, other, ne)

violates_stage : {code : List ℕ} {limit : ℕ} {f : Fault}
    → ViolatesHeights code limit f → rule_stage f.rule ≡ Heights
violates_stage (low path t h) = refl
violates_stage (over path t need h) = refl
violates_stage (leaves path t need e) = refl
violates_stage (differ path other ne) = refl

-- where a first fault is found: at a stage before the heights, or on a path
data Found (q : Question) (f : Fault) : Type 0 where
  early : (s : Stage) → rule_stage f.rule ≡ s → s ≢ Heights → KeptBefore q s → Found q f
  late : ViolatesHeights (asked_code q) (limit_of (asked_parcel q).layout) f
      → KeptBefore q Heights → Found q f

found : (q : Question) {f : Fault} → FirstFault q f → Found q f
found q (at_header x) =
    early Header (first_of (refl, (refl, (refl, (refl, (refl, tt))))) x) (λ e. absurd cc) tt
found q (at_flags k x) = early Flags (first_of (refl, (refl, tt)) x) (λ e. absurd cc) k
found q (at_literal k j l before x) =
    early Literals (first_of (refl, (refl, tt)) x) (λ e. absurd cc) k
found q (at_lists k x) = early Lists (first_of (refl, tt) x) (λ e. absurd cc) k
found q (at_length k x) = early Encoding (first_of (refl, (refl, tt)) x) (λ e. absurd cc) k
found q (at_instruction k pos even p s before v) =
    early Encoding (violation_stage v) (λ e. absurd cc) k
found q (on_path k e v) = late v (k, e)

kept_before : (q : Question) (f : Fault) → Found q f → KeptBefore q (rule_stage f.rule)
kept_before q f (early s e ne k) = subst (λ (t : Stage). KeptBefore q t) (sym e) k
kept_before q f (late v k) = subst (λ (t : Stage). KeptBefore q t) (sym (violates_stage v)) k

told : (q : Question) (f : Fault) → Found q f
    → ToldOfPaths (asked_parcel q).layout (asked_code q) f.rule f.place
told q f (early s e ne k) =
    told_nothing (asked_parcel q).layout (asked_code q) f.rule f.place s e ne
told q f (late v k) = told_by (asked_parcel q).layout (asked_code q) v

-- a stage that is not before the lists
past_parts : (q : Question) (s : Stage)
    → KeptBefore q s → not (before_lists s) ≡ true → BeforeLists q
past_parts q Header k e = absurd cc
past_parts q Flags k e = absurd cc
past_parts q Literals k e = absurd cc
past_parts q Lists k e = k
past_parts q Encoding k e = k.0
past_parts q Heights k e = k.0.0
past_parts q _ k e = absurd k

-- a code of less than a pair is cut at 0
cut_at_0 : (l : ℕ) → l < 2 → First (length_tests l) (fault CodeCut 0)
cut_at_0 zero h = here refl
cut_at_0 (suc zero) h = later refl (here refl)
cut_at_0 (suc (suc l)) h = absurd (omega (arith, h))

-- an answer that has a fault is refused
pub refused : (r : Result ℕ Fault) (f : Fault) → result_err r ≡ Some f → r ≡ Err f
refused (Ok x) f e = absurd cc
refused (Err g) f e = cc

-- what is read of bytes is their parcel
by_flags : (b : List ℕ) (p : Parts) (o : Option Fault)
    → and_then (unless o (laid_out (header b))) (λ l. Ok (split b l)) ≡ Ok p → parcel b ≡ p
by_flags b p (Some f) e = absurd cc
by_flags b p None e = cc

by_header : (b : List ℕ) (p : Parts) (o : Option Fault)
    → and_then (and_then (unless o (header b)) flagged) (λ l. Ok (split b l)) ≡ Ok p
    → parcel b ≡ p
by_header b p (Some f) e = absurd cc
by_header b p None e = by_flags b p (first (flag_tests (header b))) e

pub parcel_read : (b : List ℕ) (p : Parts) → parts_of b ≡ Ok p → parcel b ≡ p
parcel_read b p e = by_header b p (first (header_tests b)) e

pub code_read : (b : List ℕ) (r : Result Parcel Fault) (p : Parcel) → result_ok r ≡ Some p
    → as_parts r ≡ parts_of b → (parcel b).code ≡ p.code.now
code_read b (Ok x) p e a =
    let same : x ≡ p = cc in
    ap (λ (y : Parts). y.code) (parcel_read b (parts p) (sym a ∙ ap (λ (y : Parcel). Ok (parts y)) same))
code_read b (Err f) p e a = absurd cc

-- a path begins, or was at another place before
comes_by : {code : List ℕ} {p h : ℕ} → Path code p h → Comes code p h
comes_by start = inl (refl, refl)
comes_by (extend {p} {h} {s} {i} {o} path t need a) =
    inr (record {
      place = p;
      height = h;
      instruction = i;
      operation = o;
      path = path;
      stands = t;
      met = need;
      left = omega (arith, need);
      on = a;
    })

module _ (q : Question) (c : Checked) (means : VerdictMeans q c) where
  pub refusal_told : (r : Option Fault) → r ≡ result_err c.verdict
      → IfSome r (λ f. ToldOfPaths (asked_parcel q).layout (asked_code q) f.rule f.place)
  refusal_told r e = by c.verdict refl r e
    where
      by : (v : Result ℕ Fault) → c.verdict ≡ v → (r : Option Fault) → r ≡ result_err v
          → IfSome r (λ f. ToldOfPaths (asked_parcel q).layout (asked_code q) f.rule f.place)
      by v d None e = tt
      by (Ok top) d (Some f) e = absurd cc
      by (Err g) d (Some f) e =
          let same : g ≡ f = cc in
          subst (λ (y : Fault). ToldOfPaths (asked_parcel q).layout (asked_code q) y.rule y.place)
          same (told q g (found q (means.refused g d)))

  pub kept_before_refusal : (f : Fault) → c.verdict ≡ Err f → KeptBefore q (rule_stage f.rule)
  kept_before_refusal f e = kept_before q f (found q (means.refused f e))

  -- without lists, what keeps the stages before is refused by one of the next two
  module _ (no_heights : length q.heights ≡ 0) (no_waiting : length q.waiting ≡ 0) where
    by_next : BeforeLists q → (f : Fault) → c.verdict ≡ Err f
        → not (before_lists (rule_stage f.rule)) ≡ true
    by_next k f e = by (pairs (asked_code q)) refl
      where
        is : (g : Fault) → c.verdict ≡ Err g → not (before_lists (rule_stage g.rule)) ≡ true
            → not (before_lists (rule_stage f.rule)) ≡ true
        is g d n =
            let same : g ≡ f = cc in
            subst (λ (y : Fault). not (before_lists (rule_stage y.rule)) ≡ true) same n

        by : (n : ℕ) → pairs (asked_code q) ≡ n → not (before_lists (rule_stage f.rule)) ≡ true
        by zero d =
            let suffice : ListsSuffice q = record {
              heights = omega (arith, d);
              waiting = omega (arith, d);
            } in
            let cut = cut_at_0 (length (asked_code q)) (omega (arith, d)) in
            is (fault CodeCut 0)
            (means.one_first (fault CodeCut 0) (at_length (k, suffice) cut) (λ z. absurd cc)) refl
        by (suc n) d =
            let short =
            or_left _ _ (lt-ltb (length q.heights) (pairs (asked_code q))
            (omega (arith, d, no_heights)))
            in
            is (fault ListShort 0)
            (means.one_first (fault ListShort 0) (at_lists k (here short)) (λ z. absurd cc)) refl

    pub keeps_by_stage : (f : Fault) → c.verdict ≡ Err f
        → (b : Bool) → b ≡ before_lists (rule_stage f.rule)
        → (not b ≡ true) ↔ (ValidHeader q.bytes × ValidFlags (header q.bytes)
        × ValidLiterals (asked_parcel q) (length q.marks.bindings))
    keeps_by_stage f e b same = (
      (λ n.
          let k = past_parts q _ (kept_before_refusal f e) (sym (ap not same) ∙ n) in
          (k.0.0, k.0.1, k.1)),
      (λ k. ap not same ∙ by_next ((k.0, k.1), k.2) f e),
    )

  -- the height of the paths to a place
  module _ (top : ℕ) (e : c.verdict ≡ Ok top) (p : ℕ) where
    pub reached_there : p % 2 ≡ 0 → p < length (asked_code q)
        → HeightReached q p (height_at c.heights (p / 2))
    reached_there even l h =
        let k = means.keeps top e in
        let whole : 2 * (p / 2) ≡ p = omega (arith, even) in
        let r = (means.heights top e).reached (p / 2) h (omega (arith, even, l)) in (
          (λ x. (k.0, k.1, subst (λ (y : ℕ). Path (asked_code q) y h) whole (r.0 x))),
          (λ x. r.1 (subst (λ (y : ℕ). Path (asked_code q) y h) (sym whole) x.2)),
        )

    pub not_reached : (p % 2 ≡ 0 → p < length (asked_code q) → ⊥) → HeightReached q p None
    not_reached none h = (
      (λ x. absurd (none-some h x)),
      (λ x.
          let s = (means.heights top e).starts p h x.2 in
          absurd (none (start_even (asked_code q) p s) (start_below (asked_code q) p s))),
    )

    pub starts_there : (r : Option ℕ) → HeightReached q p r
        → IfSome r (λ h. starts_at (asked_code q) p ≡ true)
    starts_there None x = tt
    starts_there (Some h) x = (means.heights top e).starts p h ((x h).0 refl).2

  pub comes_there : (p : ℕ) (r : Option ℕ) → HeightReached q p r
      → IfSome r (Comes (asked_code q) p)
  comes_there p None x = tt
  comes_there p (Some h) x = comes_by ((x h).0 refl).2

-- two lists that are the paths' have the same heights, and one greatest
module _ (code hs gs : List ℕ) (top other : ℕ)
    (only : OnlyHeights code hs top) (are : HeightsOfPaths code gs other) where
  pub same_greatest : top ≡ other
  same_greatest = sym (only gs other are).0

  pub heights_same : SameHeights code hs gs
  heights_same k l = sym ((only gs other are).1 k l)
