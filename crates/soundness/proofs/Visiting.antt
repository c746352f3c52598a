-- The successors of one place, reached in turn: how that ends.
use Rattle.std.proofs.Common.{◌≡◌, ℕ, ◌+◌, ◌*◌, ◌/◌, ◌%◌, ◌<◌, ◌≤◌, Bool, true, false, cond, eqb, leb, ◌⊎◌, List, [], ◌∷◌, length, get_or, set, Some, None, Ok, Err, Option, Result, sym, refl, ap, ◌∙◌, subst, inl, inr, arith, length-set}
use Rattle.std.proofs.lemmas.List.{get_or-set_same, get_or-set_other}
use Rattle.std.proofs.lemmas.Bool.{cases_eq, eqb-true, eqb-false, leb-true, leb-false}
use Rattle.values.specs.Faults.{fault}
use Rattle.values.specs.declared.faults.Fault.{Fault}
use Rattle.values.specs.declared.faults.Rule.TheVariants.{FallsOffEnd, HeightsDiffer}
use Rattle.stages.specs.Examination.{Work, noted, successors_reached}
use Rattle.stages.specs.declared.heights.TheConstants.{NO_HEIGHT}
use Rattle.stages.proofs.Worklist.{blanks, blanks_set}
use Rattle.parcels.specs.Instructions.{Among}

-- the height byte of a place
abbrev pub byte : List ℕ → ℕ → ℕ
byte hs p = get_or hs (p / 2) 0

-- p has a height
abbrev pub HasHeight : List ℕ → ℕ → Type 0
HasHeight hs p = byte hs p ≡ NO_HEIGHT → ⊥

-- p is one of the waiting places
abbrev pub WaitsIn : ℕ → List ℕ → Type 0
WaitsIn p [] = ⊥
WaitsIn p (q ∷ qs) = (p ≡ q) ⊎ WaitsIn p qs

-- a note at s leaves the other places
pub note_other : (hs : List ℕ) (s a p : ℕ) → p % 2 ≡ 0 → s % 2 ≡ 0 → (p ≡ s → ⊥)
    → byte (set hs (s / 2) a) p ≡ byte hs p
note_other hs s a p e f ne =
    get_or-set_other hs (s / 2) (p / 2) a 0 (λ (q : p / 2 ≡ s / 2). ne (omega arith))

-- what the successors ss, reached at height a, leave of the heights hs and the waiting places ws
pub record AreReached (l a : ℕ) (ss : List (Option ℕ)) (hs ws : List ℕ) (w : Work) : Type 0 where
  pub long : length w.heights ≡ length hs
  pub keeps : (p : ℕ) → p % 2 ≡ 0 → HasHeight hs p → byte w.heights p ≡ byte hs p
  pub marked : (s : ℕ) → Among s ss → (s < l) × (byte w.heights s ≡ a)
  pub waits : (p : ℕ) → WaitsIn p ws → WaitsIn p w.waiting
  pub fresh : (p : ℕ) → p % 2 ≡ 0 → byte hs p ≡ NO_HEIGHT → HasHeight w.heights p
      → WaitsIn p w.waiting
  pub from : (p : ℕ) → p % 2 ≡ 0
      → (byte w.heights p ≡ byte hs p) ⊎ ((byte w.heights p ≡ a) × Among p ss)
  pub newly : (p : ℕ) → WaitsIn p w.waiting → WaitsIn p ws ⊎ Among p ss
  pub count : blanks w.heights + length w.waiting ≡ blanks hs + length ws

-- how it ends, from p on
pub data ReachEnds (l p a : ℕ) (ss : List (Option ℕ)) (hs ws : List ℕ)
    : Result Work Fault → Type 0 where
  reaches : {w : Work} → AreReached l a ss hs ws w → ReachEnds l p a ss hs ws (Ok w)
  leaves : (s : ℕ) → Among s ss → l ≤ s
      → ReachEnds l p a ss hs ws (Err (fault FallsOffEnd p))
  differs : (s : ℕ) → Among s ss → s < l → HasHeight hs s → (byte hs s ≡ a → ⊥)
      → ReachEnds l p a ss hs ws (Err (fault HeightsDiffer s))

module _ (l p a n : ℕ) (two : l ≡ 2 * n) (low : a < NO_HEIGHT) where
  -- a successor that got a height
  new : (s : ℕ) (ss : List (Option ℕ)) (hs ws : List ℕ)
      → ((t : ℕ) → Among t (Some s ∷ ss) → t % 2 ≡ 0)
      → length hs ≡ n → s < l → byte hs s ≡ NO_HEIGHT → {r : Result Work Fault}
      → ReachEnds l p a ss (set hs (s / 2) a) (s ∷ ws) r → ReachEnds l p a (Some s ∷ ss) hs ws r
  new s ss hs ws even long h blank (reaches {w} v) =
      let half : s / 2 < length hs = omega arith in
      let put : byte (set hs (s / 2) a) s ≡ a = get_or-set_same hs (s / 2) a 0 half in
      let es = even s (inl refl) in
      let at : byte w.heights s ≡ a = v.keeps s es (λ i. omega (arith, put, i)) ∙ put in
      reaches {w = w} (record {
        long = v.long ∙ length-set hs (s / 2) a;
        keeps = λ q e ne.
            let same = note_other hs s a q e es (λ i. ne (ap (byte hs) i ∙ blank)) in
            v.keeps q e (λ i. ne (sym same ∙ i)) ∙ same;
        marked = λ t m. elim m [
          | inl i ↦ (subst (λ (x : ℕ). x < l) (sym i) h, ap (byte w.heights) i ∙ at)
          | inr x ↦ v.marked t x
        ];
        waits = λ q i. v.waits q (inr i);
        fresh = λ q e is ne. elim (cases_eq q s) [
          | inl i ↦ v.waits q (inl i)
          | inr other ↦ v.fresh q e (note_other hs s a q e es other ∙ is) ne
        ];
        from = λ q e. elim (cases_eq q s) [
          | inl i ↦ inr (ap (byte w.heights) i ∙ at, inl i)
          | inr other ↦ elim (v.from q e) [
            | inl x ↦ inl (x ∙ note_other hs s a q e es other)
            | inr z ↦ inr (z.0, inr z.1)
          ]
        ];
        newly = λ q i. elim (v.newly q i) [
          | inl (inl x) ↦ inr (inl x)
          | inl (inr x) ↦ inl x
          | inr x ↦ inr (inr x)
        ];
        count = omega (arith, v.count, blanks_set hs (s / 2) a half blank low);
      })
  new s ss hs ws even long h blank (leaves t m g) = leaves t (inr m) g
  new s ss hs ws even long h blank (differs t m g has ne) =
      let half : s / 2 < length hs = omega arith in
      let put : byte (set hs (s / 2) a) s ≡ a = get_or-set_same hs (s / 2) a 0 half in
      let other = λ (i : t ≡ s). ne (ap (byte (set hs (s / 2) a)) i ∙ put) in
      let same = note_other hs s a t (even t (inr m)) (even s (inl refl)) other in
      differs t (inr m) g (λ i. has (same ∙ i)) (λ i. ne (same ∙ i))

  -- a successor that had this height
  old : (s : ℕ) (ss : List (Option ℕ)) (hs ws : List ℕ)
      → s % 2 ≡ 0 → s < l → HasHeight hs s → byte hs s ≡ a → {r : Result Work Fault}
      → ReachEnds l p a ss hs ws r → ReachEnds l p a (Some s ∷ ss) hs ws r
  old s ss hs ws es h has is (reaches {w} v) =
      let at : byte w.heights s ≡ a = v.keeps s es has ∙ is in
      reaches {w = w} (record {
        long = v.long;
        keeps = v.keeps;
        marked = λ t m. elim m [
          | inl i ↦ (subst (λ (x : ℕ). x < l) (sym i) h, ap (byte w.heights) i ∙ at)
          | inr x ↦ v.marked t x
        ];
        waits = v.waits;
        fresh = v.fresh;
        from = λ q e. elim (v.from q e) [ inl x ↦ inl x | inr z ↦ inr (z.0, inr z.1) ];
        newly = λ q i. elim (v.newly q i) [ inl x ↦ inl x | inr x ↦ inr (inr x) ];
        count = v.count;
      })
  old s ss hs ws es h has is (leaves t m g) = leaves t (inr m) g
  old s ss hs ws es h has is (differs t m g x ne) = differs t (inr m) g x ne

  -- no successor
  skip : (ss : List (Option ℕ)) (hs ws : List ℕ) {r : Result Work Fault}
      → ReachEnds l p a ss hs ws r → ReachEnds l p a (None ∷ ss) hs ws r
  skip ss hs ws (reaches v) = reaches (record {
    long = v.long;
    keeps = v.keeps;
    marked = v.marked;
    waits = v.waits;
    fresh = v.fresh;
    from = v.from;
    newly = v.newly;
    count = v.count;
  })
  skip ss hs ws (leaves t m g) = leaves t m g
  skip ss hs ws (differs t m g x ne) = differs t m g x ne

  pub reach_ends : (ss : List (Option ℕ)) (hs ws : List ℕ)
      → ((t : ℕ) → Among t ss → t % 2 ≡ 0) → length hs ≡ n
      → ReachEnds l p a ss hs ws
      (successors_reached l p a ss (record { heights = hs; waiting = ws }))
  reach_ends [] hs ws even long = reaches (record {
    long = refl;
    keeps = λ q e ne. refl;
    marked = λ t m. absurd m;
    waits = λ q i. i;
    fresh = λ q e is ne. absurd (ne is);
    from = λ q e. inl refl;
    newly = λ q i. inl i;
    count = refl;
  })
  reach_ends (None ∷ ss) hs ws even long = skip ss hs ws (reach_ends ss hs ws even long)
  reach_ends (Some s ∷ ss) hs ws even long =
      by
      (reach_ends ss (set hs (s / 2) a) (s ∷ ws) (λ t m. even t (inr m))
      (length-set hs (s / 2) a ∙ long))
      (reach_ends ss hs ws (λ t m. even t (inr m)) long)
      (leb l s) (eqb (byte hs s) NO_HEIGHT) (eqb (byte hs s) a) refl refl refl
    where
      -- the work before s
      w₀ : Work
      w₀ = record { heights = hs; waiting = ws }

      by : ReachEnds l p a ss (set hs (s / 2) a) (s ∷ ws)
          (successors_reached l p a ss (noted s a w₀))
          → ReachEnds l p a ss hs ws (successors_reached l p a ss w₀)
          → (b c d : Bool)
          → leb l s ≡ b → eqb (byte hs s) NO_HEIGHT ≡ c → eqb (byte hs s) a ≡ d
          → ReachEnds l p a (Some s ∷ ss) hs ws
          (cond b (Err (fault FallsOffEnd p))
          (cond c (successors_reached l p a ss (noted s a w₀))
          (cond d (successors_reached l p a ss w₀) (Err (fault HeightsDiffer s)))))
      by x y true c d e f g = leaves s (inl refl) (leb-true l s e)
      by x y false true d e f g =
          new s ss hs ws even long (leb-false l s e) (eqb-true (byte hs s) NO_HEIGHT f) x
      by x y false false true e f g =
          old s ss hs ws (even s (inl refl)) (leb-false l s e)
          (eqb-false (byte hs s) NO_HEIGHT f) (eqb-true (byte hs s) a g) y
      by x y false false false e f g =
          differs s (inl refl) (leb-false l s e)
          (eqb-false (byte hs s) NO_HEIGHT f) (eqb-false (byte hs s) a g)
