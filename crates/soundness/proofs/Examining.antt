-- The examination finds the heights of the paths, or a rule that a path breaks.
use Rattle.std.proofs.Common.{◌≡◌, ℕ, zero, suc, ◌+◌, ◌*◌, ◌/◌, ◌%◌, ◌<◌, ◌≤◌, Bool, true, false, cond, ltb, ◌⊎◌, List, [], ◌∷◌, length, set, Ok, Err, Result, sym, refl, ap, ◌∙◌, subst, inl, inr, arith, length-set}
use lib.ListN.{length-replicate, get_or-replicate}
use Rattle.std.proofs.lemmas.List.{get_or-set_same, get_or-set_other}
use Rattle.std.proofs.lemmas.Bool.{cases_eq, ltb-true, ltb-false}
use Rattle.values.specs.Faults.{fault}
use Rattle.values.specs.Order.{and_then}
use Rattle.values.specs.declared.faults.Fault.{Fault}
use Rattle.values.specs.declared.faults.Rule.TheVariants.{HeightLow, HeightOver, FallsOffEnd, HeightsDiffer}
use Rattle.parcels.specs.Reading.{following_place}
use Rattle.parcels.specs.Opcodes.{flow_of}
use Rattle.stages.specs.Examination.{transfer_of, height_after, Work, successors_reached, visited, iterate, examined}
use Rattle.stages.specs.Check.{no_heights}
use Rattle.stages.specs.declared.heights.Transfer.{Transfer}
use Rattle.stages.specs.declared.heights.TheConstants.{NO_HEIGHT}
use Rattle.stages.proofs.Worklist.{blanks, blanks_first}
use Rattle.parcels.specs.Instructions.{Among, successors}
use Rattle.soundness.specs.Paths.{Path, start, extend, ViolatesHeights, low, over, leaves, differ}
use Rattle.soundness.proofs.Transfers.{stands_transfer, StandsOrNot, stands, stands_not, stands_or_not, leads_to, start_below, successor_is, successor_even}
use Rattle.soundness.proofs.Readings.{spans}
use Rattle.soundness.proofs.Visiting as reaching
use Rattle.soundness.proofs.Visiting.{byte, HasHeight, WaitsIn, AreReached, ReachEnds, reach_ends}

-- a place is done: its rules hold at its height, and its successors have the height after
pub record Done (code : List ℕ) (limit : ℕ) (hs : List ℕ) (p : ℕ) : Type 0 where
  pub need : (transfer_of code p).effect.takes ≤ byte hs p
  pub within : height_after (transfer_of code p) (byte hs p) ≤ limit
  pub next : (s : ℕ) → Among s (transfer_of code p).to
      → (s < length code) × (byte hs s ≡ height_after (transfer_of code p) (byte hs p))

-- what the examination keeps of the heights hs and the waiting places ws
pub record Explored (code : List ℕ) (limit : ℕ) (hs ws : List ℕ) : Type 0 where
  pub long : length code ≡ 2 * length hs
  pub first : byte hs 0 ≡ 0
  pub sound : (p : ℕ) → p % 2 ≡ 0 → p < length code → HasHeight hs p → Path code p (byte hs p)
  pub low : (p : ℕ) → p % 2 ≡ 0 → p < length code → HasHeight hs p → byte hs p ≤ limit
  pub done : (p : ℕ) → p % 2 ≡ 0 → p < length code → HasHeight hs p
      → WaitsIn p ws ⊎ Done code limit hs p
  pub waits : (p : ℕ) → WaitsIn p ws → (p % 2 ≡ 0) × (p < length code) × HasHeight hs p

-- how the examination ends
pub data ResultIs (code : List ℕ) (limit : ℕ) : Result (List ℕ) Fault → Type 0 where
  fine : (hs : List ℕ) → Explored code limit hs [] → ResultIs code limit (Ok hs)
  broken : (f : Fault) → ViolatesHeights code limit f → ResultIs code limit (Err f)

-- a path at a place whose need is met goes on to every successor
pub path_on : (code : List ℕ) (p q h : ℕ) → Path code p h
    → (transfer_of code p).effect.takes ≤ h → Among q (transfer_of code p).to
    → Path code q (height_after (transfer_of code p) h)
path_on code p q h here need m =
    let t = leads_to code p q m in
    let is = stands_transfer t.stands in
    let met = subst (λ (d : Transfer). d.effect.takes ≤ h) is need in
    subst (λ (d : Transfer). Path code q (height_after d h)) (sym is)
    (extend here t.stands met t.among)

-- the successors of an even place are even
pub transfer_even : (code : List ℕ) (p q : ℕ)
    → p % 2 ≡ 0 → Among q (transfer_of code p).to → q % 2 ≡ 0
transfer_even code p q e m =
    let t = leads_to code p q m in successor_even code p q t.instruction t.operation e t.among

module _ (code : List ℕ) (limit : ℕ) (small : limit < NO_HEIGHT) where
  -- the newest place p is done
  visit_kept : (hs ws : List ℕ) (p : ℕ) (w : Work) → Explored code limit hs (p ∷ ws)
      → (transfer_of code p).effect.takes ≤ byte hs p
      → height_after (transfer_of code p) (byte hs p) ≤ limit
      → AreReached (length code) (height_after (transfer_of code p) (byte hs p))
      (transfer_of code p).to hs ws w
      → Explored code limit w.heights w.waiting
  visit_kept hs ws p w k need within v =
      let at = k.waits p (inl refl) in
      let here = k.sound p at.0 at.1 at.2 in
      record {
        long = k.long ∙ ap (λ (n : ℕ). 2 * n) (sym v.long);
        first = v.keeps 0 (omega arith) (λ i. omega (arith, k.first, i)) ∙ k.first;
        sound = λ q e l has. elim (v.from q e) [
          | inl x ↦ subst (λ (h : ℕ). Path code q h) (sym x) (k.sound q e l (λ i. has (x ∙ i)))
          | inr z ↦ subst (λ (h : ℕ). Path code q h) (sym z.0)
              (path_on code p q (byte hs p) here need z.1)
        ];
        low = λ q e l has. elim (v.from q e) [
          | inl x ↦ omega (arith, x, k.low q e l (λ i. has (x ∙ i)))
          | inr z ↦ omega (arith, z.0, within)
        ];
        done = λ q e l has. elim (cases_eq (byte hs q) NO_HEIGHT) [
          | inl blank ↦ inl (v.fresh q e blank has)
          | inr ne ↦ elim (k.done q e l ne) [
            | inl (inl i) ↦ inr (subst (λ (x : ℕ). Done code limit w.heights x) (sym i)
                (taken at.0 at.2))
            | inl (inr i) ↦ inl (v.waits q i)
            | inr d ↦ inr (still q e ne d)
          ]
        ];
        waits = λ q i. elim (v.newly q i) [
          | inl x ↦ (let y = k.waits q (inr x) in
              (y.0, y.1, λ j. y.2 (sym (v.keeps q y.0 y.2) ∙ j)))
          | inr x ↦ (let m = v.marked q x in
              (transfer_even code p q at.0 x, m.0, λ j. omega (arith, m.1, j, within)))
        ];
      }
    where
      taken : p % 2 ≡ 0 → HasHeight hs p → Done code limit w.heights p
      taken e has =
          let same = v.keeps p e has in
          record {
            need = omega (arith, same, need);
            within =
                subst (λ (h : ℕ). height_after (transfer_of code p) h ≤ limit) (sym same) within;
            next = λ s m.
                let n = v.marked s m in
                (n.0, n.1 ∙ ap (height_after (transfer_of code p)) (sym same));
          }

      still : (q : ℕ)
          → q % 2 ≡ 0 → HasHeight hs q → Done code limit hs q → Done code limit w.heights q
      still q e has d =
          let same = v.keeps q e has in
          record {
            need = omega (arith, same, d.need);
            within =
                subst (λ (h : ℕ). height_after (transfer_of code q) h ≤ limit) (sym same) d.within;
            next = λ s m.
                let n = d.next s m in
                let has_s : HasHeight hs s = λ i. omega (arith, n.1, i, d.within) in (
                  n.0,
                  v.keeps s (transfer_even code q s e m) has_s
                      ∙ n.1 ∙ ap (height_after (transfer_of code q)) (sym same),
                );
          }

  -- the height is below the need
  is_low : (hs : List ℕ) (p : ℕ) → Path code p (byte hs p)
      → byte hs p < (transfer_of code p).effect.takes → StandsOrNot code p
      → ViolatesHeights code limit (fault HeightLow p)
  is_low hs p here h (stands i o t) =
      low here t (subst (λ (d : Transfer). byte hs p < d.effect.takes) (stands_transfer t) h)
  is_low hs p here h (stands_not e) =
      absurd (omega (arith, ap (λ (d : Transfer). d.effect.takes) e, h))

  -- the height after is above the limit
  is_over : (hs : List ℕ) (p : ℕ) → Path code p (byte hs p) → byte hs p ≤ limit
      → (transfer_of code p).effect.takes ≤ byte hs p
      → limit < height_after (transfer_of code p) (byte hs p) → StandsOrNot code p
      → ViolatesHeights code limit (fault HeightOver p)
  is_over hs p here le need h (stands i o t) =
      let is = stands_transfer t in
      over here t
      (subst (λ (d : Transfer). d.effect.takes ≤ byte hs p) is need)
      (subst (λ (d : Transfer). limit < height_after d (byte hs p)) is h)
  is_over hs p here le need h (stands_not e) =
      absurd (omega (arith, ap (λ (d : Transfer). height_after d (byte hs p)) e, h, le))

  -- the visit at the newest place p
  one_visit : (hs ws : List ℕ) (p : ℕ) → Explored code limit hs (p ∷ ws)
      → (rest : Work → Result (List ℕ) Fault)
      → ((w : Work) → Explored code limit w.heights w.waiting
      → blanks w.heights + length w.waiting ≡ blanks hs + length ws → ResultIs code limit (rest w))
      → ResultIs code limit
      (and_then (visited code limit p (record { heights = hs; waiting = ws })) rest)
  one_visit hs ws p k rest more =
      let at = k.waits p (inl refl) in
      by (ltb h d.effect.takes) (ltb limit (height_after d h)) refl refl
      (k.sound p at.0 at.1 at.2) (k.low p at.0 at.1 at.2) at.0
    where
      -- the transfer at p, and its height
      d : Transfer
      d = transfer_of code p

      h : ℕ
      h = byte hs p

      reached : {r : Result Work Fault}
          → Path code p h → d.effect.takes ≤ h → height_after d h ≤ limit → p % 2 ≡ 0
          → ReachEnds (length code) p (height_after d h) d.to hs ws r
          → ResultIs code limit (and_then r rest)
      reached here need within e (reaching.reaches {w} v) =
          more w (visit_kept hs ws p w k need within v) v.count
      reached here need within e (reaching.leaves s m g) =
          let t = leads_to code p s m in
          let i = t.instruction in
          let is = stands_transfer t.stands in
          let end : s ≡ length code =
          elim
          (successor_is code (flow_of t.operation) (following_place p i) i.argument s t.among) [
            | inl q ↦ absurd (omega (arith, start_below code s q, g))
            | inr q ↦ omega (arith, q, (spans code p i t.stands.rest t.stands.read).fits, g)
          ]
          in
          broken (fault FallsOffEnd p)
          (leaves here t.stands (subst (λ (d : Transfer). d.effect.takes ≤ h) is need)
          (subst (λ (x : ℕ). Among x (successors code p i t.operation)) end t.among))
      reached here need within e (reaching.differs s m g has ne) =
          let there = k.sound s (transfer_even code p s e m) g has in
          broken (fault HeightsDiffer s) (differ there (path_on code p s h here need m) ne)

      by : (b c : Bool) → ltb h d.effect.takes ≡ b → ltb limit (height_after d h) ≡ c
          → Path code p h → h ≤ limit → p % 2 ≡ 0
          → ResultIs code limit (and_then
          (cond b (Err (fault HeightLow p))
          (cond c (Err (fault HeightOver p))
          (successors_reached (length code) p (height_after d h) d.to
          (record { heights = hs; waiting = ws })))) rest)
      by true c e f here le ev =
          broken (fault HeightLow p) (is_low hs p here (ltb-true _ _ e) (stands_or_not code p))
      by false true e f here le ev =
          broken (fault HeightOver p)
          (is_over hs p here le (ltb-false _ _ e) (ltb-true _ _ f) (stands_or_not code p))
      by false false e f here le ev =
          let within = ltb-false _ _ f in
          reached here (ltb-false _ _ e) within ev
          (reach_ends (length code) p (height_after d h) (length hs) k.long
          (omega (arith, within)) d.to hs ws (λ s m. transfer_even code p s ev m) refl)

  ended : (fuel : ℕ) (hs ws : List ℕ)
      → Explored code limit hs ws → blanks hs + length ws ≤ fuel
      → ResultIs code limit (iterate code limit fuel (record { heights = hs; waiting = ws }))
  ended zero hs [] k h = fine hs k
  ended zero hs (p ∷ ws) k h = absurd (omega arith)
  ended (suc n) hs [] k h = fine hs k
  ended (suc n) hs (p ∷ ws) k h =
      one_visit hs ws p k (iterate code limit n)
      (λ w kept c. ended n w.heights w.waiting kept (omega (arith, c, h)))

  -- before the first visit
  begun : (n : ℕ) → length code ≡ 2 * n → 0 < n
      → Explored code limit (set (no_heights n) 0 0) (0 ∷ [])
  begun n two pos =
      let long : length (no_heights n) ≡ n = length-replicate n NO_HEIGHT in
      let zeroth : byte hs 0 ≡ 0 =
      get_or-set_same (no_heights n) 0 0 0 (omega (arith, long))
      in
      record {
        long = omega (arith, two, length-set (no_heights n) 0 0, long);
        first = zeroth;
        sound = λ p e l has. elim (cases_eq p 0) [
          | inl i ↦ subst (λ (q : ℕ). Path code q (byte hs q)) (sym i)
              (subst (λ (h : ℕ). Path code 0 h) (sym zeroth) start)
          | inr ne ↦ absurd (has (blank p e l ne))
        ];
        low = λ p e l has. elim (cases_eq p 0) [
          | inl i ↦ subst (λ (q : ℕ). byte hs q ≤ limit) (sym i) (omega (arith, zeroth))
          | inr ne ↦ absurd (has (blank p e l ne))
        ];
        done = λ p e l has. elim (cases_eq p 0) [
          | inl i ↦ inl (inl i)
          | inr ne ↦ absurd (has (blank p e l ne))
        ];
        waits = λ p i. elim i [
          | inl j ↦ (
            omega (arith, j),
            omega (arith, j, two),
            λ x. omega (arith, zeroth, sym (ap (byte hs) j) ∙ x),
          )
          | inr x ↦ absurd x
        ];
      }
    where
      hs : List ℕ
      hs = set (no_heights n) 0 0

      blank : (p : ℕ) → p % 2 ≡ 0 → p < length code → (p ≡ 0 → ⊥) → byte hs p ≡ NO_HEIGHT
      blank p e l ne =
          get_or-set_other (no_heights n) 0 (p / 2) 0 0 (λ (i : p / 2 ≡ 0). ne (omega arith))
          ∙ get_or-replicate n (p / 2) NO_HEIGHT 0 (omega arith)

  -- the whole examination of a code of n pairs
  pub examination_is : (n : ℕ) → length code ≡ 2 * n → 0 < n
      → ResultIs code limit (examined code limit (no_heights n))
  examination_is n two pos =
      let bytes : List ℕ = no_heights n in
      let long : length bytes ≡ n = length-replicate n NO_HEIGHT in
      ended (length bytes) (set bytes 0 0) (0 ∷ []) (begun n two pos)
      (omega (arith, blanks_first bytes (omega (arith, long))))
