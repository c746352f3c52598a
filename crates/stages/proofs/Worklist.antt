-- What the examination keeps, from visited to visited.
use Rattle.std.proofs.Common.{◌≡◌, ℕ, zero, suc, ◌+◌, ◌-◌, ◌*◌, ◌/◌, ◌<◌, ◌≤◌, Bool, true, false, cond, eqb, ltb, leb, List, [], ◌∷◌, length, get_or, drop, set, Some, None, Ok, Err, Option, Result, sym, refl, ap, ◌∙◌, subst, ⊎_elim, le_of_suc-le-suc, not-suc-le-zero, add-one, arith, length-set, drop-cons, get_or-set_other, get_or-set_same}
use Rattle.std.proofs.lemmas.Bool.{cond-true, cond-false, lt-ltb, le-ltb, le-leb, lt-leb, eq-eqb, ne_eqb, cases_eq}
use Rattle.std.proofs.lemmas.List.{drop_all}
use Rattle.values.specs.Faults.{fault}
use Rattle.values.specs.Order.{and_then}
use Rattle.values.specs.declared.faults.Fault.{Fault}
use Rattle.values.specs.declared.faults.Rule.TheVariants.{HeightLow, HeightOver, FallsOffEnd, HeightsDiffer}
use Rattle.stages.specs.declared.heights.Transfer.{Transfer}
use Rattle.stages.specs.Examination.{Work, transfer_of, height_after, noted, successors_reached, visited_by, visited, by_newest, iterate, examined}
use Rattle.stages.specs.declared.heights.TheConstants.{NO_HEIGHT}

-- how many places have no height yet
abbrev pub blanks : List ℕ → ℕ
blanks [] = 0
blanks (x ∷ xs) = cond (eqb x NO_HEIGHT) 1 0 + blanks xs

pub blanks_set : (xs : List ℕ) (i a : ℕ)
    → i < length xs → get_or xs i 0 ≡ NO_HEIGHT → a < NO_HEIGHT
    → blanks (set xs i a) + 1 ≡ blanks xs
blanks_set [] i a h e l = absurd (not-suc-le-zero h)
blanks_set (x ∷ xs) zero a h e l =
    let was = cond-true {A = ℕ} (eqb x NO_HEIGHT) 1 0 (eq-eqb x NO_HEIGHT e) in
    let is =
    cond-false {A = ℕ} (eqb a NO_HEIGHT) 1 0 (ne_eqb a NO_HEIGHT (λ q. omega arith))
    in
    omega arith
blanks_set (x ∷ xs) (suc i) a h e l =
    omega (arith, blanks_set xs i a (le_of_suc-le-suc h) e l)

blanks_le : (xs : List ℕ) → blanks xs ≤ length xs
blanks_le [] = omega arith
blanks_le (x ∷ xs) = by (eqb x NO_HEIGHT) (blanks_le xs)
  where
    by : (b : Bool) → blanks xs ≤ length xs → cond b 1 0 + blanks xs ≤ length (x ∷ xs)
    by true h = omega arith
    by false h = omega arith

pub blanks_first : (xs : List ℕ) → 0 < length xs → blanks (set xs 0 0) + 1 ≤ length xs
blanks_first [] h = absurd (not-suc-le-zero h)
blanks_first (x ∷ xs) h = omega (arith, blanks_le xs)

-- the first n cells as a stack, the newest first
abbrev pub stacked : List ℕ → ℕ → List ℕ
stacked ws zero = []
stacked ws (suc n) = get_or ws n 0 ∷ stacked ws n

stacked_above : (ws : List ℕ) (n k s : ℕ) → n ≤ k → stacked (set ws k s) n ≡ stacked ws n
stacked_above ws zero k s h = refl
stacked_above ws (suc n) k s h =
    let e = get_or-set_other ws k n s 0 (λ (q : n ≡ k). omega arith) in
    let t = stacked_above ws n k s (omega arith) in
    λ i. e i ∷ t i

stacked_push : (ws : List ℕ) (n s : ℕ)
    → n < length ws → stacked (set ws n s) (n + 1) ≡ s ∷ stacked ws n
stacked_push ws n s h =
    let e = get_or-set_same ws n s 0 h in
    let t = stacked_above ws n n s (omega arith) in
    ap (stacked (set ws n s)) (add-one n) ∙ (λ i. e i ∷ t i)

stacked_pop : (ws : List ℕ) (n : ℕ)
    → 0 < n → stacked ws n ≡ get_or ws (n - 1) 0 ∷ stacked ws (n - 1)
stacked_pop ws zero h = absurd (omega arith)
stacked_pop ws (suc n) h =
    let e : n ≡ suc n - 1 = omega arith in
    λ i. get_or ws (e i) 0 ∷ stacked ws (e i)

-- the work that the two lists hold, with n places waiting
abbrev pub work : List ℕ → List ℕ → ℕ → Work
work hs ws n = record { heights = hs; waiting = stacked ws n }

-- what makes each access safe
pub record WorkFits (hs ws : List ℕ) (n : ℕ) : Type 0 where
  pub room : n + blanks hs ≤ length hs
  pub wide : length hs ≡ length ws
  pub inside : (k : ℕ) → k < n → get_or ws k 0 / 2 < length hs

-- what is left of the examination gives R
pub record ExaminedSofar (code : List ℕ) (limit : ℕ) (R : Result (List ℕ) Fault)
    (hs ws : List ℕ) (n : ℕ) : Type 0 where
  pub fuel : ℕ
  pub enough : n + blanks hs ≤ fuel
  pub same : iterate code limit fuel (work hs ws n) ≡ R
  pub ready : WorkFits hs ws n

zeroth : (ws : List ℕ) → 0 < length ws → get_or (set ws 0 0) 0 0 ≡ 0
zeroth ws h = get_or-set_same ws 0 0 0 h

-- place 0 waits with height 0
pub start : (code : List ℕ) (limit : ℕ) (hs ws : List ℕ) → 0 < length hs → length hs ≡ length ws
    → ExaminedSofar code limit (examined code limit hs) (set hs 0 0) (set ws 0 0) 1
start code limit hs ws h l = record {
  fuel = length hs;
  enough = omega (arith, blanks_first hs h);
  same =
      let z = zeroth ws (omega arith) in
      λ i. iterate code limit (length hs) (record { heights = set hs 0 0; waiting = z i ∷ [] });
  ready = record {
    room = omega (arith, length-set hs 0 0, blanks_first hs h);
    wide = omega (arith, length-set hs 0 0, length-set ws 0 0);
    inside = λ k b.
        let z : k ≡ 0 = omega arith in
        let is = ap (λ (j : ℕ). get_or (set ws 0 0) j 0) z ∙ zeroth ws (omega arith) in
        omega (arith, length-set hs 0 0, is);
  };
}

-- the newest waiting place p is taken, and what comes of its visit gives R
pub record Taken (code : List ℕ) (limit : ℕ) (R : Result (List ℕ) Fault)
    (hs ws : List ℕ) (n p : ℕ) : Type 0 where
  pub fuel : ℕ
  pub enough : n + blanks hs ≤ fuel
  pub same : and_then (visited code limit p (work hs ws n)) (iterate code limit fuel) ≡ R
  pub ready : WorkFits hs ws n
  pub spare : n + blanks hs < length hs

pub take : (code : List ℕ) (limit : ℕ) (R : Result (List ℕ) Fault) (hs ws : List ℕ) (n p : ℕ)
    → ExaminedSofar code limit R hs ws n → 0 < n → p ≡ get_or ws (n - 1) 0
    → Taken code limit R hs ws (n - 1) p
take code limit R hs ws n p s h e = by s.fuel s.enough s.same
  where
    r : WorkFits hs ws n
    r = s.ready

    go_on : ℕ → ℕ → Work → Result (List ℕ) Fault
    go_on f k w = and_then (visited code limit k w) (iterate code limit f)

    by : (f : ℕ) → n + blanks hs ≤ f → iterate code limit f (work hs ws n) ≡ R
        → Taken code limit R hs ws (n - 1) p
    by zero en q = absurd (omega arith)
    by (suc f) en q = record {
      fuel = f;
      enough = omega arith;
      same =
          ap (λ (k : ℕ). go_on f k (work hs ws (n - 1))) e
          ∙ ap (by_newest (go_on f) hs)
          (sym (stacked_pop ws n h))
          ∙ q;
      ready = record {
        room = omega (arith, r.room);
        wide = r.wide;
        inside = λ k b. r.inside k (omega arith);
      };
      spare = omega (arith, r.room);
    }

-- none waits
pub none : (code : List ℕ) (limit : ℕ) (R : Result (List ℕ) Fault) (hs ws : List ℕ) (n : ℕ)
    → ExaminedSofar code limit R hs ws n → n ≡ 0 → Ok hs ≡ R
none code limit R hs ws n s z = by s.fuel s.same
  where
    by : (f : ℕ) → iterate code limit f (work hs ws n) ≡ R → Ok hs ≡ R
    by zero q = q
    by (suc f) q = ap (λ (k : ℕ). iterate code limit (suc f) (work hs ws k)) (sym z) ∙ q

-- the visit at p: each successor is reached at height a, and what comes of it gives R
pub record Reaching (code : List ℕ) (limit : ℕ) (R : Result (List ℕ) Fault)
    (p a : ℕ) (ss : List (Option ℕ)) (hs ws : List ℕ) (n : ℕ) : Type 0 where
  pub fuel : ℕ
  pub enough : n + blanks hs ≤ fuel
  pub same :
      and_then (successors_reached (length code) p a ss (work hs ws n)) (iterate code limit fuel)
      ≡ R
  pub ready : WorkFits hs ws n
  pub spare : n + blanks hs < length hs

module _ {code : List ℕ} {limit : ℕ} {R : Result (List ℕ) Fault} {hs ws : List ℕ} {n p : ℕ}
    (t : Taken code limit R hs ws n p) (d : Transfer) (is : d ≡ transfer_of code p) where
  -- the height at p
  abbrev here : ℕ
  here = get_or hs (p / 2) 0

  -- the visit at p with the transfer d
  abbrev visit : Transfer → Result Work Fault
  visit d = visited_by (length code) limit p here d (work hs ws n)

  tested : (x : Result Work Fault) → x ≡ visit d → and_then x (iterate code limit t.fuel) ≡ R
  tested x e =
      ap (λ (y : Result Work Fault). and_then y (iterate code limit t.fuel)) (e ∙ ap visit is)
      ∙ t.same

  pub low : here < d.effect.takes → Err (fault HeightLow p) ≡ R
  low h =
      tested (Err (fault HeightLow p))
      (sym (cond-true (ltb here d.effect.takes) _ _ (lt-ltb _ _ h)))

  module _ (g : d.effect.takes ≤ here) where
    pub high : limit < height_after d here → Err (fault HeightOver p) ≡ R
    high h =
        tested (Err (fault HeightOver p))
        (sym (cond-false (ltb here d.effect.takes) _ _ (le-ltb _ _ g)
        ∙ cond-true (ltb limit (height_after d here)) _ _ (lt-ltb _ _ h)))

    pub reaching : height_after d here ≤ limit
        → Reaching code limit R p (height_after d here) d.to hs ws n
    reaching h = record {
      fuel = t.fuel;
      enough = t.enough;
      same =
          tested (successors_reached (length code) p (height_after d here) d.to (work hs ws n))
          (sym (cond-false (ltb here d.effect.takes) _ _ (le-ltb _ _ g)
          ∙ cond-false (ltb limit (height_after d here)) _ _ (le-ltb _ _ h)));
      ready = t.ready;
      spare = t.spare;
    }

-- what the successors from the i-th on give is what they all give from the work w₀
pub record ReachedSofar (l p a : ℕ) (ss : List (Option ℕ)) (i : ℕ) (w₀ : Work) (c₀ : ℕ)
    (hs ws : List ℕ) (n : ℕ) : Type 0 where
  pub same : successors_reached l p a (drop i ss) (work hs ws n) ≡ successors_reached l p a ss w₀
  pub count : n + blanks hs ≤ c₀
  pub ready : WorkFits hs ws n
  pub spare : n + blanks hs < length hs

-- the same of lists under other names
pub moved : {l p a : ℕ} {ss : List (Option ℕ)} {i : ℕ} {w₀ : Work} {c₀ : ℕ}
    {hs ws : List ℕ} {n : ℕ} {hs₁ ws₁ : List ℕ} {n₁ : ℕ}
    → hs₁ ≡ hs → ws₁ ≡ ws → n₁ ≡ n
    → ReachedSofar l p a ss i w₀ c₀ hs ws n → ReachedSofar l p a ss i w₀ c₀ hs₁ ws₁ n₁
moved {l} {p} {a} {ss} {i} {w₀} {c₀} {hs} {ws} {n} {hs₁} {ws₁} {n₁} e f g v =
    subst (λ (k : ℕ). ReachedSofar l p a ss i w₀ c₀ hs₁ ws₁ k) (sym g)
    (subst (λ (xs : List ℕ). ReachedSofar l p a ss i w₀ c₀ hs₁ xs n) (sym f)
    (subst (λ (xs : List ℕ). ReachedSofar l p a ss i w₀ c₀ xs ws n) (sym e) v))

module _ {l p a : ℕ} {ss : List (Option ℕ)} {i : ℕ} {w₀ : Work} {c₀ : ℕ} {hs ws : List ℕ} {n : ℕ}
    (v : ReachedSofar l p a ss i w₀ c₀ hs ws n) where
  -- what the successors xs give from here
  abbrev from_here : List (Option ℕ) → Result Work Fault
  from_here xs = successors_reached l p a xs (work hs ws n)

  -- what they all give
  abbrev whole : Result Work Fault
  whole = successors_reached l p a ss w₀

  -- the i-th successor is in front
  next : (x : Option ℕ) → i < length ss → get_or ss i None ≡ x
      → from_here (x ∷ drop (i + 1) ss) ≡ whole
  next x h e =
      let back = sym e in
      ap from_here ((λ j. back j ∷ drop (add-one i j) ss) ∙ sym (drop-cons ss i None h)) ∙ v.same

  pub ended : length ss ≤ i → Ok (work hs ws n) ≡ whole
  ended h = ap from_here (sym (drop_all i ss h)) ∙ v.same

  pub skip : i < length ss → get_or ss i None ≡ None → ReachedSofar l p a ss (i + 1) w₀ c₀ hs ws n
  skip h e = record { same = next None h e; count = v.count; ready = v.ready; spare = v.spare }

  module _ (s : ℕ) (h : i < length ss) (e : get_or ss i None ≡ Some s) where
    -- the height byte of s
    abbrev there : ℕ
    there = get_or hs (s / 2) 0

    pub past : l ≤ s → Err (fault FallsOffEnd p) ≡ whole
    past q = sym (cond-true (leb l s) _ _ (le-leb _ _ q)) ∙ next (Some s) h e

    within : s < l
        → cond (eqb there NO_HEIGHT)
        (successors_reached l p a (drop (i + 1) ss) (noted s a (work hs ws n)))
        (cond (eqb there a) (from_here (drop (i + 1) ss)) (Err (fault HeightsDiffer s)))
        ≡ whole
    within q = sym (cond-false (leb l s) _ _ (lt-leb _ _ q)) ∙ next (Some s) h e

    pub other : s < l → (there ≡ NO_HEIGHT → ⊥) → (there ≡ a → ⊥)
        → Err (fault HeightsDiffer s) ≡ whole
    other q b m =
        sym (cond-false (eqb there NO_HEIGHT) _ _ (ne_eqb _ NO_HEIGHT b)
        ∙ cond-false (eqb there a) _ _ (ne_eqb _ a m))
        ∙ within q

    pub known : s < l → (there ≡ NO_HEIGHT → ⊥) → there ≡ a
        → ReachedSofar l p a ss (i + 1) w₀ c₀ hs ws n
    known q b m = record {
      same =
          sym (cond-false (eqb there NO_HEIGHT) _ _ (ne_eqb _ NO_HEIGHT b)
          ∙ cond-true (eqb there a) _ _ (eq-eqb _ a m))
          ∙ within q;
      count = v.count;
      ready = v.ready;
      spare = v.spare;
    }

    pub new : s < l → l ≡ 2 * length hs → there ≡ NO_HEIGHT → a < NO_HEIGHT
        → ReachedSofar l p a ss (i + 1) w₀ c₀ (set hs (s / 2) a) (set ws n s) (n + 1)
    new q two m b =
        let r = v.ready in
        let half : s / 2 < length hs = omega arith in
        let d = blanks_set hs (s / 2) a half m b in
        let lh = length-set hs (s / 2) a in
        let lw = length-set ws n s in
        let room : n < length ws = omega (arith, v.spare, r.wide) in
        record {
          same =
              ap
              (λ (xs : List ℕ).
              successors_reached l p a (drop (i + 1) ss)
              (record { heights = set hs (s / 2) a; waiting = xs }))
              (stacked_push ws n s room)
              ∙ sym (cond-true (eqb there NO_HEIGHT) _ _ (eq-eqb _ NO_HEIGHT m)) ∙ within q;
          count = omega (arith, v.count);
          spare = omega (arith, v.spare);
          ready = record {
            room = omega (arith, r.room);
            wide = omega (arith, r.wide);
            inside = λ k g.
                ⊎_elim
                (λ (z : k ≡ n).
                let at = ap (λ (j : ℕ). get_or (set ws n s) j 0) z in
                let is = at ∙ get_or-set_same ws n s 0 room in
                omega arith)
                (λ (z : k ≡ n → ⊥).
                omega (arith, get_or-set_other ws n k s 0 z, r.inside k (omega arith)))
                (cases_eq k n);
          };
        }

module _ {code : List ℕ} {limit : ℕ} {R : Result (List ℕ) Fault} {p a : ℕ} {ss : List (Option ℕ)}
    {hs₁ ws₁ : List ℕ} {n₁ : ℕ} (t : Reaching code limit R p a ss hs₁ ws₁ n₁) where
  -- all are reached: the examination goes on
  pub again : {i : ℕ} {hs ws : List ℕ} {n : ℕ}
      → ReachedSofar (length code) p a ss i (work hs₁ ws₁ n₁) (n₁ + blanks hs₁) hs ws n
      → length ss ≤ i → ExaminedSofar code limit R hs ws n
  again v h = record {
    fuel = t.fuel;
    enough = omega (arith, v.count, t.enough);
    same =
        ap (λ (x : Result Work Fault). and_then x (iterate code limit t.fuel)) (ended v h) ∙ t.same;
    ready = v.ready;
  }

  -- a fault among them
  pub fault_reached : (f : Fault)
      → Err f ≡ successors_reached (length code) p a ss (work hs₁ ws₁ n₁) → Err f ≡ R
  fault_reached f e =
      ap (λ (x : Result Work Fault). and_then x (iterate code limit t.fuel)) e ∙ t.same
