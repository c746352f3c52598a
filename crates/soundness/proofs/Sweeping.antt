-- The encoding stage visits the places where instructions start, in order, and finds the first
-- broken rule.
use Rattle.std.proofs.Common.{◌≡◌, ◌↔◌, ℕ, zero, suc, ◌+◌, ◌%◌, ◌<◌, ◌≤◌, Bool, true, false, cond, leb, ◌⊎◌, List, length, Some, None, Ok, Err, Option, sym, refl, ap, subst, inl, inr, arith}
use Rattle.std.specs.Option.{option_or}
use Rattle.std.proofs.lemmas.Bool.{leb-true, leb-false, cases_lt, cases_order}
use Rattle.values.specs.Faults.{fault}
use Rattle.values.specs.Order.{first}
use Rattle.values.specs.declared.faults.Fault.{Fault}
use Rattle.parcels.specs.Opcodes.{operation_of}
use Rattle.parcels.specs.Reading.{Reading, read_at, starts_at, unreadable_rule, following_place}
use Rattle.parcels.specs.declared.reading.Instruction.{Instruction}
use Rattle.parcels.specs.declared.reading.Unreadable.{Unreadable}
use Rattle.stages.specs.Encoding.{Context, site_tests}
use Rattle.stages.specs.Sweep.{pushes_block, site, found_at, swept}
use Rattle.soundness.specs.Rules.{First, AfterBlock, ValidInstruction, FirstViolation, unread, breaks}
use Rattle.soundness.proofs.Transfers.{start_even, start_below}
use Rattle.soundness.proofs.Readings.{spans, none_inside, next_starts, first_starts}
use Rattle.soundness.proofs.Orders.{first_none, first_some, rules_kept, rules_silent, same_read}
use Rattle.soundness.proofs.OneFirst.{first_one, not_first}

-- the instructions from p on keep the rules, as far as q
abbrev pub ValidBetween : Context → ℕ → ℕ → Type 0
ValidBetween x p q =
    (r : ℕ) → p ≤ r → r < q → starts_at x.parts.code r ≡ true → ValidInstruction x r

-- what is found from p on
pub data SweepFinds (x : Context) (p : ℕ) : Option Fault → Type 0 where
  nothing : ((q : ℕ) → p ≤ q → starts_at x.parts.code q ≡ true → ValidInstruction x q)
      → SweepFinds x p None
  stops : {f : Fault} (q : ℕ) → p ≤ q → starts_at x.parts.code q ≡ true → ValidBetween x p q
      → FirstViolation x q f → SweepFinds x p (Some f)

module _ (x : Context) where
  -- what starts at p, or further on, keeps the rules
  from : (p n : ℕ) → ((q : ℕ) → n ≤ q → starts_at x.parts.code q ≡ true → ValidInstruction x q)
      → (q : ℕ) → (q ≡ p) ⊎ (n ≤ q) → ValidInstruction x p → starts_at x.parts.code q ≡ true
      → ValidInstruction x q
  from p n all q (inl e) k s = subst (λ (r : ℕ). ValidInstruction x r) (sym e) k
  from p n all q (inr h) k s = all q h s

  -- nothing starts at the end or behind it
  past : (p : ℕ) → length x.parts.code ≤ p → SweepFinds x p None
  past p h = nothing (λ q l s. absurd (omega (arith, start_below x.parts.code q s, h, l)))

  -- a rule is broken at p itself
  stops_here : (p : ℕ) {f : Fault} → starts_at x.parts.code p ≡ true → FirstViolation x p f
      → SweepFinds x p (Some f)
  stops_here p starts v = stops p (omega arith) starts (λ r l g t. absurd (omega arith)) v

  module _ (p : ℕ) (starts : starts_at x.parts.code p ≡ true) (i : Instruction) (rest : List ℕ)
      (read : read_at x.parts.code p ≡ Ok (i, rest)) where
    even : p % 2 ≡ 0
    even = start_even x.parts.code p starts

    -- the instruction before the next place is this one
    before : AfterBlock x (following_place p i) → pushes_block x.parts.literals i ≡ true
    before a =
        let here = spans x.parts.code p i rest read in
        let there = spans x.parts.code a.place a.instruction a.rest a.read in
        let n = a.next in
        let is : a.place ≡ p = elim (cases_order a.place p) [
          | inl e ↦ e
          | inr (inl l) ↦ absurd (none_inside
              there (start_even x.parts.code a.place a.starts) p l (omega (arith, here.some, n))
              starts)
          | inr (inr l) ↦ absurd (none_inside
              here even a.place l (omega (arith, there.some, n)) a.starts)
        ] in
        let read_here =
        subst (λ (q : ℕ). read_at x.parts.code q ≡ Ok (a.instruction, a.rest)) is a.read
        in
        let same = same_read x.parts.code p a.instruction i a.rest rest read_here read in
        subst (λ (j : Instruction). pushes_block x.parts.literals j ≡ true) same a.pushes

    -- it is, whenever it pushes a block
    tells : (pushes_block x.parts.literals i ≡ true) ↔ AfterBlock x (following_place p i)
    tells = (
      λ e. record {
        place = p;
        instruction = i;
        rest = rest;
        starts = starts;
        read = read;
        next = refl;
        pushes = e;
      },
      before,
    )

    -- what starts from p on is this instruction, or lies behind it
    behind : (q : ℕ) → p ≤ q → starts_at x.parts.code q ≡ true → (q ≡ p) ⊎ (following_place p i ≤ q)
    behind q l s = elim (cases_order q p) [
      | inl e ↦ inl e
      | inr (inl h) ↦ absurd (omega arith)
      | inr (inr h) ↦ elim (cases_lt q (following_place p i)) [
        | inl g ↦ absurd (none_inside (spans x.parts.code p i rest read) even q h g s)
        | inr g ↦ inr g
      ]
    ]

    -- on to the next place
    onward : {o : Option Fault}
        → ValidInstruction x p → SweepFinds x (following_place p i) o → SweepFinds x p o
    onward k (nothing all) =
        nothing (λ q l s. from p (following_place p i) all q (behind q l s) k s)
    onward k (stops q l s all m) =
        stops q (omega (arith, l)) s
        (λ r g h t. elim (behind r g t) [
          | inl e ↦ subst (λ (y : ℕ). ValidInstruction x y) (sym e) k
          | inr b ↦ all r b h t
        ])
        m

  pub sweep_finds : (n : ℕ) (b : Bool) (p : ℕ) → length x.parts.code ≤ p + n
      → (p < length x.parts.code → starts_at x.parts.code p ≡ true)
      → ((b ≡ true) ↔ AfterBlock x p) → SweepFinds x p (swept x n b p)
  sweep_finds zero b p h s word = past p (omega arith)
  sweep_finds (suc n) b p h s word =
      by (leb (length x.parts.code) p) refl (λ i rest read starts.
      sweep_finds n (pushes_block x.parts.literals i) (following_place p i)
      (omega (arith, h, (spans x.parts.code p i rest read).some))
      (next_starts (spans x.parts.code p i rest read) (start_even x.parts.code p starts))
      (tells p starts i rest read))
    where
      -- what is found behind an instruction
      further : Instruction → Option Fault
      further i = swept x n (pushes_block x.parts.literals i) (following_place p i)

      -- the same of every instruction that may stand at p
      Further : Type 0
      Further =
          (i : Instruction) (rest : List ℕ) → read_at x.parts.code p ≡ Ok (i, rest)
          → starts_at x.parts.code p ≡ true → SweepFinds x (following_place p i) (further i)

      tested : (i : Instruction) (rest : List ℕ) → read_at x.parts.code p ≡ Ok (i, rest)
          → starts_at x.parts.code p ≡ true → SweepFinds x (following_place p i) (further i)
          → (o : Option Fault) → first (site_tests x (site p b i) (operation_of i.opcode)) ≡ o
          → SweepFinds x p (option_or o (further i))
      tested i rest read starts next (Some f) e =
          stops_here p starts (breaks i rest b f read word (first_some _ f e))
      tested i rest read starts next None e =
          onward p starts i rest read (rules_kept x p b i rest read word.0 (first_none _ e)) next

      reading : (r : Reading) → read_at x.parts.code p ≡ r → starts_at x.parts.code p ≡ true
          → Further → SweepFinds x p (found_at x (swept x n) b p r)
      reading (Err e) read starts next = stops_here p starts (unread e read)
      reading (Ok r) read starts next =
          tested r.0 r.1 read starts (next r.0 r.1 read starts)
          (first (site_tests x (site p b r.0) (operation_of r.0.opcode))) refl

      by : (c : Bool) → leb (length x.parts.code) p ≡ c → Further
          → SweepFinds x p (cond c None (found_at x (swept x n) b p (read_at x.parts.code p)))
      by true e next = past p (leb-true _ _ e)
      by false e next = reading (read_at x.parts.code p) refl (s (leb-false _ _ e)) next

  -- the whole code
  pub whole_sweep : 0 < length x.parts.code → SweepFinds x 0 (swept x (length x.parts.code) false 0)
  whole_sweep h =
      sweep_finds (length x.parts.code) false 0 (omega arith)
      (λ l. first_starts x.parts.code l) (
        λ e. absurd cc,
        λ a.
            let t = spans x.parts.code a.place a.instruction a.rest a.read in
            absurd (omega (arith, a.next, t.some)),
      )

-- an instruction that keeps its rules meets none
pub met : (x : Context) (p : ℕ) {f : Fault} → FirstViolation x p f → ValidInstruction x p → ⊥
met x p (unread e q) r =
    let g = r.stands.read in
    let z : ◌≡◌ {A = ℕ} 0 1 = cc in
    omega arith
met x p (breaks i rest c f read word y) r = not_first y (rules_silent x p c i rest read word.1 r)

-- one that meets a rule meets no other
module _ (x : Context) (p : ℕ) where
  same_word : (b c : Bool)
      → ((b ≡ true) ↔ AfterBlock x p) → ((c ≡ true) ↔ AfterBlock x p) → b ≡ c
  same_word true c v w = sym (w.1 (v.0 refl))
  same_word false true v w = v.1 (w.0 refl)
  same_word false false v w = refl

  meets_one : {f g : Fault} → FirstViolation x p f → FirstViolation x p g → f ≡ g
  meets_one (unread e q) (unread d r) =
      let same : e ≡ d = cc in ap (λ (u : Unreadable). fault (unreadable_rule u) p) same
  meets_one (unread e q) (breaks i rest b g read w y) =
      let z : ◌≡◌ {A = ℕ} 0 1 = cc in absurd (omega arith)
  meets_one (breaks i rest b f read w y) (unread e q) =
      let z : ◌≡◌ {A = ℕ} 0 1 = cc in absurd (omega arith)
  meets_one (breaks i rest b f read w y) (breaks j rest' c g read' w' z) =
      let same = same_read x.parts.code p i j rest rest' read read' in
      let at_i =
      subst (λ (o : Instruction). First (site_tests x (site p c o) (operation_of o.opcode)) g)
      (sym same) z
      in
      first_one y
      (subst (λ (d : Bool). First (site_tests x (site p d i) (operation_of i.opcode)) g)
      (sym (same_word b c w w')) at_i)

  -- the first violation is what is found
  pub sweep_one : {o : Option Fault} {f : Fault}
      → SweepFinds x 0 o → starts_at x.parts.code p ≡ true
      → ((r : ℕ) → r < p → starts_at x.parts.code r ≡ true → ValidInstruction x r)
      → FirstViolation x p f → o ≡ Some f
  sweep_one (nothing all) s earlier v = absurd (met x p v (all p (omega arith) s))
  sweep_one (stops {f = g} q l t all w) s earlier v = elim (cases_order q p) [
    | inl e ↦ ap Some (meets_one (subst (λ (r : ℕ). FirstViolation x r g) e w) v)
    | inr (inl c) ↦ absurd (met x q w (earlier q c t))
    | inr (inr c) ↦ absurd (met x p v (all p (omega arith) c s))
  ]

-- nothing is found where every instruction keeps the rules
pub sweep_none : (x : Context) {o : Option Fault} → SweepFinds x 0 o
    → ((p : ℕ) → starts_at x.parts.code p ≡ true → ValidInstruction x p) → o ≡ None
sweep_none x (nothing all) each = refl
sweep_none x (stops q l t all w) each = absurd (met x q w (each q t))
