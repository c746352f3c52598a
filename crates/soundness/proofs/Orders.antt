-- The rules of each stage, and the tests that find them broken.
use Rattle.std.proofs.Common.{◌≡◌, ℕ, zero, suc, ◌%◌, ◌<◌, ◌≤◌, Bool, true, false, cond, not, ◌&&◌, List, [], ◌∷◌, is_some, Some, None, Ok, Err, Option, sym, refl, ap, ◌∙◌, subst, arith}
use Rattle.std.proofs.lemmas.Bool.{not-true, not-false, not_from_true, or_parts, or_from, eqb-true, eqb-false, eq-eqb, ne_eqb, le-ltb, lt-leb, ltb-false, leb-false}
use Rattle.values.specs.Order.{Test, first}
use Rattle.values.specs.declared.faults.Fault.{Fault}
use Rattle.parcels.specs.Layouts.{header_tests, flag_tests}
use Rattle.parcels.specs.Literals.{literal, binding_missing, literal_tests}
use Rattle.parcels.specs.Opcodes.{operation_of, flow_of}
use Rattle.parcels.specs.Reading.{Reading, read_at, following_place}
use Rattle.parcels.specs.declared.layout.ParcelHeader.{ParcelHeader}
use Rattle.parcels.specs.declared.literals.Literal.{Literal}
use Rattle.parcels.specs.declared.literals.Literal.TheVariants.{Constant, Selector, Binding}
use Rattle.parcels.specs.declared.opcodes.Operation.{Operation}
use Rattle.parcels.specs.declared.reading.Instruction.{Instruction}
use Rattle.stages.specs.Encoding.{Context, is_clean, permits_return, returns_method, makes_closure, operation_tests, site_tests}
use Rattle.stages.specs.Sweep.{site, length_tests}
use Rattle.stages.specs.Check.{list_tests}
use Rattle.soundness.specs.Rules.{First, here, later, ValidHeader, ValidFlags, ValidLiteral, AfterBlock, ValidInstruction}
use Rattle.soundness.proofs.Operands.{operand_fits_true, operand_fits_back, landing_fits_true, landing_fits_back, is_clean_back, permits_return_back, returns_method_back, makes_closure_back}

-- none of the tests applies
abbrev pub Silent : List Test → Type 0
Silent [] = Unit {0}
Silent (t ∷ ts) = (t.applies ≡ false) × Silent ts

pub first_none : (ts : List Test) → first ts ≡ None → Silent ts
first_none [] e = tt
first_none (t ∷ ts) e = by (first_none ts) t.applies refl e
  where
    by : (first ts ≡ None → Silent ts) → (b : Bool) → t.applies ≡ b
        → cond b (Some t.finds) (first ts) ≡ None → (t.applies ≡ false) × Silent ts
    by more true f q = absurd cc
    by more false f q = (f, more q)

pub silent_none : (ts : List Test) → Silent ts → first ts ≡ None
silent_none [] s = refl
silent_none (t ∷ ts) s =
    ap (λ (b : Bool). cond b (Some t.finds) (first ts)) s.0 ∙ silent_none ts s.1

pub first_some : (ts : List Test) (f : Fault) → first ts ≡ Some f → First ts f
first_some [] f e = absurd cc
first_some (t ∷ ts) f e = by (first_some ts f) t.applies refl e
  where
    by : (first ts ≡ Some f → First ts f) → (b : Bool) → t.applies ≡ b
        → cond b (Some t.finds) (first ts) ≡ Some f → First (t ∷ ts) f
    by more true g q =
        let same : t.finds ≡ f = cc in subst (λ (x : Fault). First (t ∷ ts) x) same (here g)
    by more false g q = later g (more q)

and_false : (x y : Bool) → (x && y) ≡ false → x ≡ true → y ≡ false
and_false true y e f = e
and_false false y e f = absurd cc

false_and : (x y : Bool) → (x ≡ true → y ≡ false) → (x && y) ≡ false
false_and true y f = f refl
false_and false y f = refl

-- the header
pub header_kept : (b : List ℕ) → Silent (header_tests b) → ValidHeader b
header_kept b s = record {
  ten = ltb-false _ _ s.0;
  known = ltb-false _ _ s.1.0;
  few = ltb-false _ _ s.1.1.0;
  short = ltb-false _ _ s.1.1.1.0;
  ends = eqb-true _ _ (not-false _ s.1.1.1.1.0);
}

pub header_silent : (b : List ℕ) → ValidHeader b → Silent (header_tests b)
header_silent b k = (
  le-ltb _ _ k.ten,
  (
    le-ltb _ _ k.known,
    (le-ltb _ _ k.few, (le-ltb _ _ k.short, (not_from_true _ (eq-eqb _ _ k.ends), tt))),
  ),
)

-- the flags
pub flags_kept : (h : ParcelHeader) → Silent (flag_tests h) → ValidFlags h
flags_kept h s = record { zeros = s.0; locals = ltb-false _ _ s.1.0 }

pub flags_silent : (h : ParcelHeader) → ValidFlags h → Silent (flag_tests h)
flags_silent h k = (k.zeros, (le-ltb _ _ k.locals, tt))

-- a literal
pub literal_kept : (ls : List ℕ) (bindings k : ℕ)
    → Silent (literal_tests ls bindings k) → ValidLiteral ls bindings k
literal_kept ls bindings k s = record {
  formed = there (literal ls k) refl s.0;
  bound = λ n e. leb-false bindings n (sym (ap (binding_missing bindings) e) ∙ s.1.0);
}
  where
    there : (o : Option Literal) → literal ls k ≡ o → not (is_some o) ≡ false
        → (l : Literal) × (literal ls k ≡ Some l)
    there (Some l) e f = (l, e)
    there None e f = absurd cc

pub literal_silent : (ls : List ℕ) (bindings k : ℕ)
    → ValidLiteral ls bindings k → Silent (literal_tests ls bindings k)
literal_silent ls bindings k s =
    let l = s.formed.0 in
    let e = s.formed.1 in (
      ap (λ (o : Option Literal). not (is_some o)) e,
      (ap (binding_missing bindings) e ∙ named l e, tt),
    )
  where
    named : (l : Literal) → literal ls k ≡ Some l → binding_missing bindings (Some l) ≡ false
    named (Constant v) e = refl
    named (Selector n c) e = refl
    named (Binding n) e = lt-leb bindings n (s.bound n e)

-- the lists
pub lists_kept : (n h w : ℕ) → Silent (list_tests n h w) → (n ≤ h) × (n ≤ w)
lists_kept n h w s = let o = or_parts _ _ s.0 in (ltb-false _ _ o.0, ltb-false _ _ o.1)

pub lists_silent : (n h w : ℕ) → n ≤ h → n ≤ w → Silent (list_tests n h w)
lists_silent n h w e f = (or_from _ _ (le-ltb _ _ e) (le-ltb _ _ f), tt)

-- the length of the code
pub length_kept : (l : ℕ) → Silent (length_tests l) → (0 < l) × (l % 2 ≡ 0)
length_kept l s =
    let a = eqb-false l 0 s.0 in
    let b = eqb-false (l % 2) 1 s.1.0 in
    (above l a, even l b)
  where
    above : (l : ℕ) → (l ≡ 0 → ⊥) → 0 < l
    above zero a = absurd (a refl)
    above (suc l) a = omega arith

    even : (l : ℕ) → (l % 2 ≡ 1 → ⊥) → l % 2 ≡ 0
    even l b = rest (l % 2) (omega arith) b
      where
        rest : (r : ℕ) → r < 2 → (r ≡ 1 → ⊥) → r ≡ 0
        rest zero h b = refl
        rest (suc zero) h b = absurd (b refl)
        rest (suc (suc r)) h b = absurd (omega arith)

pub length_silent : (l : ℕ) → 0 < l → l % 2 ≡ 0 → Silent (length_tests l)
length_silent l h e = (ne_eqb l 0 (λ q. omega arith), (ne_eqb (l % 2) 1 (λ q. omega arith), tt))

-- an instruction
module _ (x : Context) (p : ℕ) (b : Bool) (i : Instruction) (rest : List ℕ)
    (read : read_at x.parts.code p ≡ Ok (i, rest)) (tells : b ≡ true → AfterBlock x p) where
  kept : (o : Operation) → operation_of i.opcode ≡ Some o
      → Silent (operation_tests x (site p b i) o) → ValidInstruction x p
  kept o e s = record {
    instruction = i;
    operation = o;
    stands = record { rest = rest; read = read; known = e };
    operand = operand_fits_back x.parts _ i.argument o (not-false _ s.0);
    clear = λ q. and_false _ _ s.1.0 (ap is_clean q);
    unmarked = λ q. and_false _ _ s.1.1.0 (ap not q);
    returns = λ q.
        permits_return_back x.parts.layout.kind
        (not-false _ (and_false _ _ s.1.1.1.0 (ap returns_method q)));
    lands =
        landing_fits_back x.parts.code (following_place p i) i.argument (flow_of o)
        (not-false _ s.1.1.1.1.0);
    closure = λ q. tells (not-false _ (and_false _ _ s.1.1.1.1.1.0 (ap makes_closure q)));
  }

  pub rules_kept : Silent (site_tests x (site p b i) (operation_of i.opcode)) → ValidInstruction x p
  rules_kept s = by (operation_of i.opcode) refl s
    where
      by : (o : Option Operation) → operation_of i.opcode ≡ o
          → Silent (site_tests x (site p b i) o) → ValidInstruction x p
      by (Some o) e s = kept o e s
      by None e s = let q = s.0 in absurd cc

abbrev instruction_of : Reading → Instruction → Instruction
instruction_of (Ok r) d = r.0
instruction_of (Err e) d = d

pub same_read : (code : List ℕ) (p : ℕ) (i j : Instruction) (r s : List ℕ)
    → read_at code p ≡ Ok (i, r) → read_at code p ≡ Ok (j, s) → i ≡ j
same_read code p i j r s e f = ap (λ (x : Reading). instruction_of x i) (sym e ∙ f)

pub rules_silent : (x : Context) (p : ℕ) (b : Bool) (i : Instruction) (rest : List ℕ)
    → read_at x.parts.code p ≡ Ok (i, rest) → (AfterBlock x p → b ≡ true) → ValidInstruction x p
    → Silent (site_tests x (site p b i) (operation_of i.opcode))
rules_silent x p b i rest read tells k =
    let same =
    same_read x.parts.code p k.instruction i k.stands.rest rest k.stands.read read
    in
    let all : Silent (site_tests x (site p b k.instruction) (operation_of k.instruction.opcode)) =
    subst (λ (o : Option Operation). Silent (site_tests x (site p b k.instruction) o))
    (sym k.stands.known) known
    in
    subst
    (λ (j : Instruction). Silent (site_tests x (site p b j) (operation_of j.opcode))) same all
  where
    known : Silent (operation_tests x (site p b k.instruction) k.operation)
    known = (
      not_from_true _ (operand_fits_true x.parts _ k.instruction.argument k.operation k.operand),
      (
        false_and _ _ (λ q. k.clear (is_clean_back x.parts.layout.kind q)),
        (
          false_and _ _ (λ q. k.unmarked (not-true x.trusted q)),
          (
            false_and _ _
                (λ q.
                not_from_true _
                (ap permits_return (k.returns (returns_method_back k.operation q)))),
            (
              not_from_true _
                  (landing_fits_true x.parts.code (following_place p k.instruction)
                  k.instruction.argument
                  (flow_of k.operation) k.lands),
              (
                false_and _ _
                    (λ q. not_from_true _ (tells (k.closure (makes_closure_back k.operation q)))),
                tt,
              ),
            ),
          ),
        ),
      ),
    )
