-- From acceptance to readiness, and from readiness to the next script.
use Rattle.std.proofs.Common.{◌≡◌, ℕ, ◌+◌, ◌*◌, ◌<◌, ◌≤◌, Bool, true, false, List, length, drop, sym, refl, ap, ◌∙◌, subst, inl, inr, arith, length-drop, length-take}
use lib.ListN.{length-replicate}
use Rattle.std.proofs.lemmas.Bool.{cases_lt}
use Rattle.std.proofs.lemmas.Option.{same_Some}
use Rattle.hosts.specs.Meaning.{Marks}
use Rattle.parcels.specs.declared.layout.Kind.{Kind}
use Rattle.parcels.specs.declared.layout.Kind.TheVariants.{Method, Block}
use Rattle.parcels.specs.Layouts.{limit_of, kind_in, literal_count_field, laid_as, header}
use Rattle.parcels.specs.Opcodes.{operation_of, effect_of, after, flow_of}
use Rattle.parcels.specs.Parts.{Parts}
use Rattle.parcels.specs.Reading.{read_at, starts_at}
use Rattle.parcels.specs.Instructions.{InstructionAt, Among, successors}
use Rattle.parcels.specs.declared.literals.Literal.TheVariants.{Binding}
use Rattle.parcels.specs.declared.opcodes.Operation.{Operation}
use Rattle.parcels.specs.declared.reading.Instruction.{Instruction}
use Rattle.stages.specs.Encoding.{context, stores_trusted}
use Rattle.soundness.specs.Paths.{Path, start, extend, ValidHeights}
use Rattle.soundness.specs.Rules.{OperandFits, ValidInstruction}
use Rattle.parcels.specs.Parts.{parcel}
use Rattle.soundness.specs.Verdicts.{IsValid}
use Rattle.soundness.proofs.Transfers.{start_even, successor_is}
use Rattle.soundness.proofs.Orders.{same_read}
use Rattle.soundness.proofs.Readings.{spans, next_starts, first_starts}
use Rattle.semantics.specs.Steps.{script_read, script_for, script_at}
use Rattle.safety.specs.Ready.{unmarked, Ready}
use Rattle.safety.proofs.Permitting.{literal_there, Permits, permitted}

-- the rules at a place do not hang on the marks, but for the stores
rules_copied : (p : Parts) (m n : Marks) (t : Bool) (q : ℕ) → length m.variables ≡ length n.variables → ValidInstruction (context p m t) q → ValidInstruction (context p n true) q
rules_copied p m n t q e k = record {
  instruction = k.instruction;
  operation = k.operation;
  stands = k.stands;
  operand = subst (λ (v : ℕ). OperandFits p v k.instruction.argument k.operation) e k.operand;
  clear = k.clear;
  unmarked = λ x. absurd cc;
  returns = k.returns;
  lands = k.lands;
  closure = λ x.
      let a = k.closure x in
      record { place = a.place; instruction = a.instruction; rest = a.rest; starts = a.starts; read = a.read; next = a.next; pushes = a.pushes };
}

-- the layout has the literals of the header, whatever the kind
same_literals : (b : List ℕ) → (parcel b).layout.literal_count ≡ literal_count_field b
same_literals b = by (kind_in b)
  where
    by : (k : Kind) → (laid_as k (header b)).literal_count ≡ literal_count_field b
    by Method = refl
    by Block = refl

-- an accepted parcel is ready at its beginning
pub accepted_ready : (m : Marks) (t : Bool) (b : List ℕ) → IsValid m t b → Ready (parcel b) (length m.variables) (length m.bindings) 0 0
accepted_ready m t b k =
    let h = k.in_header in
    let n = same_literals b in
    let long : length (parcel b).literals ≡ 6 * (parcel b).layout.literal_count = omega (arith, length-take (6 * (parcel b).layout.literal_count) (drop 10 b), length-drop 10 b, h.ends, n) in
    record {
      pool = long;
      bound = λ j x e. (k.in_literals j (literal_there (parcel b).literals (parcel b).layout.literal_count j (Binding x) long e)).bound x e;
      fits = k.in_flags.locals;
      encoding = record {
        some = k.in_encoding.some;
        even = k.in_encoding.even;
        each = λ p s. rules_copied (parcel b) m (unmarked (length m.variables) (length m.bindings)) t p (sym (length-replicate (length m.variables) false)) (k.in_encoding.each p s);
      };
      heights = k.in_heights;
      path = start;
    }

-- no store of an untrusted parcel names a trusted cell
pub accepted_open : (m : Marks) (b : List ℕ) → IsValid m false b → (p : ℕ) (i : Instruction) (o : Operation) → starts_at (parcel b).code p ≡ true → InstructionAt (parcel b).code p i o
    → stores_trusted m (parcel b).literals i.argument o ≡ false
accepted_open m b k p i o s t =
    let r = k.in_encoding.each p s in
    let same = same_read (parcel b).code p r.instruction i r.stands.rest t.rest r.stands.read t.read in
    let does : r.operation ≡ o = same_Some _ _ (sym r.stands.known ∙ ap (λ (j : Instruction). operation_of j.opcode) same ∙ t.known) in
    subst (λ (j : Instruction). stores_trusted m (parcel b).literals j.argument o ≡ false) same
    (subst (λ (x : Operation). stores_trusted m (parcel b).literals r.instruction.argument x ≡ false) does (r.unmarked refl))

-- a path is where an instruction starts
pub path_starts : (code : List ℕ) (limit : ℕ) → 0 < length code → ValidHeights code limit → {q h : ℕ} → Path code q h → starts_at code q ≡ true
path_starts code limit pos kh start = first_starts code pos
path_starts code limit pos kh (extend {p = q} {s = s} {i = i} {o = o} path t n m) = by (path_starts code limit pos kh path)
  where
    by : starts_at code q ≡ true → starts_at code s ≡ true
    by starts = elim (successor_is code (flow_of o) (q + 2 * i.pairs) i.argument s m) [
      | inl e ↦ e
      | inr e ↦ elim (cases_lt s (length code)) [
        | inl l ↦ subst (λ (x : ℕ). starts_at code x ≡ true) (sym e) (next_starts (spans code q i t.rest t.read) (start_even code q starts) (subst (λ (x : ℕ). x < length code) e l))
        | inr l ↦ absurd (kh.inside path t (subst (λ (x : ℕ). Among x (successors code q i o)) (omega (arith, e, l, (spans code q i t.rest t.read).fits)) m))
      ]
    ]

-- and no higher than the limit
pub path_low : (code : List ℕ) (limit : ℕ) → ValidHeights code limit → {q h : ℕ} → Path code q h → h ≤ limit
path_low code limit kh start = omega arith
path_low code limit kh (extend path t n m) = kh.within path t

-- the script of what stands at a place
pub script_is : (p : Parts) (place height : ℕ) {i : Instruction} {o : Operation}
    → InstructionAt p.code place i o
    → script_read p place height (read_at p.code place) ≡ script_at p place height i o
script_is p place height {i} {o} s =
    ap (script_read p place height) s.read ∙ ap (script_for p place height i) s.known

module _ {p : Parts} {variables bindings place height : ℕ} (r : Ready p variables bindings place height) where
  -- the rules at the place
  pub here : ValidInstruction (context p (unmarked variables bindings) true) place
  here = r.encoding.each place (path_starts p.code (limit_of p.layout) r.encoding.some r.heights r.path)

  pub operand : OperandFits p variables here.instruction.argument here.operation
  operand =
      subst (λ (v : ℕ). OperandFits p v here.instruction.argument here.operation)
      (length-replicate variables false) here.operand

  pub need : (effect_of here.operation here.instruction).takes ≤ height
  need = r.heights.need r.path here.stands

  -- what the next script reads and writes is permitted
  pub next_permitted : Permits p place height here.instruction variables bindings here.operation
      (script_at p place height here.instruction here.operation)
  next_permitted =
      permitted p place height here.instruction variables bindings r.pool r.bound here.operation
      operand here.lands need

  -- on to a successor
  pub ready_on : {i : Instruction} {o : Operation} → InstructionAt p.code place i o → (q h : ℕ)
      → Among q (successors p.code place i o) → h ≡ after (effect_of o i) height
      → Ready p variables bindings q h
  ready_on s q h m e = record {
    pool = r.pool;
    bound = r.bound;
    fits = r.fits;
    encoding = r.encoding;
    heights = r.heights;
    path = subst (λ (x : ℕ). Path p.code q x) (sym e) (extend r.path s (r.heights.need r.path s) m);
  }
