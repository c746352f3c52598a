-- Where the examination ends well: its heights are the paths', and they keep the rules.
use Rattle.std.proofs.Common.{◌≡◌, ℕ, zero, suc, ◌*◌, ◌/◌, ◌%◌, ◌<◌, ◌≤◌, true, ◌⊎◌, List, [], ◌∷◌, ◌++◌, length, get_or, unwrap_or, Some, sym, refl, ap, ◌∙◌, subst, inl, inr, arith}
use Rattle.std.proofs.lemmas.List.{get_or_append_left}
use Rattle.std.proofs.lemmas.Bool.{cases_eq, cases_lt}
use Rattle.values.specs.declared.faults.Fault.{Fault}
use Rattle.parcels.specs.Opcodes.{effect_of, after, flow_of}
use Rattle.parcels.specs.Reading.{starts_at, following_place}
use Rattle.stages.specs.Check.{pairs}
use Rattle.stages.specs.Examination.{transfer_of, height_after, height_of, height_at, greatest_height}
use Rattle.stages.specs.declared.heights.Transfer.{Transfer}
use Rattle.stages.specs.declared.heights.TheConstants.{NO_HEIGHT}
use Rattle.parcels.specs.Instructions.{Among}
use Rattle.soundness.specs.Paths.{Path, start, extend, ValidHeights, ViolatesHeights, low, over, leaves, differ}
use Rattle.soundness.specs.Verdicts.{HeightsOfPaths}
use Rattle.soundness.proofs.Heights.{height_of_some, some_height, some_byte, counted_known}
use Rattle.soundness.proofs.Transfers.{stands_transfer, successor_even, successor_is, start_even}
use Rattle.soundness.proofs.Readings.{spans, next_starts, first_starts}
use Rattle.soundness.proofs.Visiting.{byte, HasHeight}
use Rattle.soundness.proofs.Examining.{Done, Explored}

-- a path's place has the path's height, and is done
pub record Walked (code : List ℕ) (limit : ℕ) (hs : List ℕ) (p h : ℕ) : Type 0 where
  pub even : p % 2 ≡ 0
  pub below : p < length code
  pub at : byte hs p ≡ h
  pub done : Done code limit hs p

module _ (code : List ℕ) (limit : ℕ) (hs : List ℕ) (small : limit < NO_HEIGHT)
    (pos : 0 < length code) (k : Explored code limit hs []) where
  done_of : (p : ℕ) → p % 2 ≡ 0 → p < length code → HasHeight hs p → Done code limit hs p
  done_of p e l has = elim (k.done p e l has) [ inl a ↦ absurd a | inr d ↦ d ]

  pub walked : {p h : ℕ} → Path code p h → Walked code limit hs p h
  walked start = record {
    even = omega arith;
    below = pos;
    at = k.first;
    done = done_of 0 (omega arith) pos (λ e. omega (arith, k.first, e));
  }
  walked (extend {p} {h} {s} {i} {o} path t need m) = by (walked path)
    where
      by : Walked code limit hs p h → Walked code limit hs s (after (effect_of o i) h)
      by w =
          let d = stands_transfer t in
          let among : Among s (transfer_of code p).to =
          subst (λ (x : Transfer). Among s x.to) (sym d) m
          in
          let n = w.done.next s among in
          let within = w.done.within in
          let e = successor_even code p s i o w.even m in
          let at : byte hs s ≡ after (effect_of o i) h =
          n.1 ∙ ap (height_after (transfer_of code p)) w.at
          ∙ ap (λ (x : Transfer). height_after x h) d
          in
          record {
            even = e;
            below = n.0;
            at = at;
            done = done_of s e n.0 (λ q. omega (arith, n.1, within, q));
          }

  pub keeps_heights : ValidHeights code limit
  keeps_heights = record {
    need = λ {p} {h} {i} {o} path t.
        let w = walked path in
        subst (λ (x : ℕ). (effect_of o i).takes ≤ x) w.at
        (subst (λ (d : Transfer). d.effect.takes ≤ byte hs p) (stands_transfer t) w.done.need);
    within = λ {p} {h} {i} {o} path t.
        let w = walked path in
        subst (λ (x : ℕ). after (effect_of o i) x ≤ limit) w.at
        (subst (λ (d : Transfer). height_after d (byte hs p) ≤ limit) (stands_transfer t)
        w.done.within);
    inside = λ {p} {h} {i} {o} path t m.
        let among =
        subst (λ (x : Transfer). Among (length code) x.to) (sym (stands_transfer t)) m
        in
        let n = ((walked path).done.next (length code) among).0 in
        omega arith;
    one = λ path other. sym (walked path).at ∙ (walked other).at;
  }

  -- a path is always where an instruction starts
  pub at_start : {p h : ℕ} → Path code p h → starts_at code p ≡ true
  at_start start = first_starts code pos
  at_start (extend {p} {h} {s} {i} {o} path t need m) =
      by (at_start path) (walked (extend path t need m)).below
    where
      by : starts_at code p ≡ true → s < length code → starts_at code s ≡ true
      by starts l = elim (successor_is code (flow_of o) (following_place p i) i.argument s m) [
        | inl e ↦ e
        | inr e ↦ subst (λ (q : ℕ). starts_at code q ≡ true) (sym e)
            (next_starts (spans code p i t.rest t.read) (start_even code p starts)
            (subst (λ (q : ℕ). q < length code) e l))
      ]

  -- a path's height is one
  pub low_path : {p h : ℕ} → Path code p h → h < NO_HEIGHT
  low_path start = omega arith
  low_path (extend path t need m) = omega (arith, keeps_heights.within path t)

-- the greatest height is that of a pair, or 0, and no pair has a greater one
most : (hs : List ℕ) (k : ℕ)
    → k < length hs → unwrap_or (height_of (get_or hs k 0)) 0 ≤ greatest_height hs
most [] k h = absurd (omega arith)
most (x ∷ xs) zero h = omega arith
most (x ∷ xs) (suc k) h = omega (arith, most xs k (omega arith))

-- pair k has the greatest height
abbrev HasGreatest : List ℕ → ℕ → Type 0
HasGreatest hs k =
    (k < length hs) × (unwrap_or (height_of (get_or hs k 0)) 0 ≡ greatest_height hs)

-- the pair that has it
greatest_at : (hs : List ℕ) → (greatest_height hs ≡ 0) ⊎ ((k : ℕ) × HasGreatest hs k)
greatest_at [] = inl refl
greatest_at (x ∷ xs) = by (greatest_at xs)
  where
    by : (greatest_height xs ≡ 0) ⊎ ((k : ℕ) × HasGreatest xs k)
        → (greatest_height (x ∷ xs) ≡ 0) ⊎ ((k : ℕ) × HasGreatest (x ∷ xs) k)
    by (inl z) = inr (0, (omega arith, omega (arith, z)))
    by (inr f) = elim (cases_lt (unwrap_or (height_of x) 0) (greatest_height xs)) [
      | inl l ↦ inr (suc f.0, (omega (arith, f.1.0), omega (arith, f.1.1)))
      | inr l ↦ inr (0, (omega arith, omega arith))
    ]

-- a code of pairs, whose heights g are explored; the list that holds them may go on
module _ (code : List ℕ) (limit : ℕ) (g rest : List ℕ) (small : limit < NO_HEIGHT)
    (pos : 0 < length code) (even : length code % 2 ≡ 0) (k : Explored code limit g []) where
  front : (j : ℕ) → j < pairs code → get_or (g ++ rest) j 0 ≡ get_or g j 0
  front j l = get_or_append_left g rest 0 j (omega (arith, k.long))

  at : (j : ℕ) → byte g (2 * j) ≡ get_or g j 0
  at j = let half : 2 * j / 2 ≡ j = omega arith in ap (λ (i : ℕ). get_or g i 0) half

  path_at : (j : ℕ) → j < pairs code → (get_or g j 0 ≡ NO_HEIGHT → ⊥)
      → Path code (2 * j) (get_or g j 0)
  path_at j l ne =
      subst (λ (h : ℕ). Path code (2 * j) h) (at j)
      (k.sound (2 * j) (omega arith) (omega (arith, even)) (λ e. ne (sym (at j) ∙ e)))

  -- a height is that of a path
  there : (j h : ℕ) → j < pairs code → height_at (g ++ rest) j ≡ Some h → Path code (2 * j) h
  there j h l s =
      let e = sym (front j l) ∙ some_byte (get_or (g ++ rest) j 0) h s in
      let ne = λ (z : get_or g j 0 ≡ NO_HEIGHT). some_height _ h s (front j l ∙ z) in
      subst (λ (x : ℕ). Path code (2 * j) x) e (path_at j l ne)

  -- and a path's height is there
  back : (j h : ℕ) → j < pairs code → Path code (2 * j) h → height_at (g ++ rest) j ≡ Some h
  back j h l path =
      let e : get_or (g ++ rest) j 0 ≡ h =
      front j l ∙ sym (at j) ∙ (walked code limit g small pos k path).at
      in
      let small_h = low_path code limit g small pos k path in
      ap height_of e ∙ height_of_some h (λ q. omega arith)

  top : (p h : ℕ) → Path code p h → h ≤ greatest_height g
  top p h path =
      let w = walked code limit g small pos k path in
      let b = low_path code limit g small pos k path in
      let known = counted_known (byte g p) (λ e. omega (arith, e, w.at)) in
      omega (arith, w.at, known, most g (p / 2) (omega (arith, w.below, k.long)))

  -- a path that has it
  path_of : (greatest_height g ≡ 0) ⊎ ((j : ℕ) × HasGreatest g j)
      → (p : ℕ) × Path code p (greatest_height g)
  path_of (inl z) = (0, subst (λ (h : ℕ). Path code 0 h) (sym z) start)
  path_of (inr f) = elim (cases_eq (get_or g f.0 0) NO_HEIGHT) [
    | inl e ↦ (
      0,
      subst (λ (h : ℕ). Path code 0 h)
          (sym (ap (λ (b : ℕ). unwrap_or (height_of b) 0) e) ∙ f.1.1) start,
    )
    | inr ne ↦ (
      2 * f.0,
      subst (λ (h : ℕ). Path code (2 * f.0) h)
          (sym (counted_known _ ne) ∙ f.1.1) (path_at f.0 (omega (arith, f.1.0, k.long)) ne),
    )
  ]

  pub heights_are : HeightsOfPaths code (g ++ rest) (greatest_height g)
  heights_are = record {
    reached = λ j h l. (there j h l, back j h l);
    starts = λ p h path. at_start code limit g small pos k path;
    most = top;
    some = path_of (greatest_at g);
  }

-- a path that breaks a rule, and the rules
pub refutes : {code : List ℕ} {limit : ℕ} {f : Fault}
    → ViolatesHeights code limit f → ValidHeights code limit → ⊥
refutes (low path t h) k = let n = k.need path t in omega arith
refutes (over path t need h) k = let n = k.within path t in omega arith
refutes (leaves path t need m) k = k.inside path t m
refutes (differ path other ne) k = ne (k.one path other)
