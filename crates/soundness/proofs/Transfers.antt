-- The transfer at a place, and the instruction that stands there.
use Rattle.std.proofs.Common.{◌≡◌, ℕ, ◌+◌, ◌-◌, ◌%◌, ◌<◌, Bool, true, false, cond, leb, ◌⊎◌, List, [], ◌∷◌, length, Some, None, Ok, Err, Option, refl, ap, ◌∙◌, subst, inl, inr, arith}
use Rattle.std.proofs.lemmas.Bool.{and_parts, eqb-true, ltb-true}
use Rattle.parcels.specs.Reading.{Reading, read_at, starts_at, following_place}
use Rattle.parcels.specs.Opcodes.{operation_of, flow_of, started, landing_of, successors_of}
use Rattle.parcels.specs.declared.opcodes.Direction.{Direction}
use Rattle.parcels.specs.declared.opcodes.Direction.TheVariants.{Back, Forward}
use Rattle.parcels.specs.declared.opcodes.Flow.{Flow}
use Rattle.parcels.specs.declared.opcodes.Flow.TheVariants.{Follows, Jumps, Branches, Ends}
use Rattle.parcels.specs.declared.opcodes.Operation.{Operation}
use Rattle.parcels.specs.declared.reading.Instruction.{Instruction}
use Rattle.stages.specs.Examination.{no_transfer, transfer_by, transfer_read, transfer_of}
use Rattle.stages.specs.declared.heights.Transfer.{Transfer}
use Rattle.parcels.specs.Instructions.{InstructionAt, Among, successors}

-- the transfer at p is that of the instruction that stands there
pub stands_transfer : {code : List ℕ} {p : ℕ} {i : Instruction} {o : Operation}
    → InstructionAt code p i o
    → transfer_of code p ≡ transfer_by code (following_place p i) i (Some o)
stands_transfer {code} {p} {i} {o} s =
    ap (transfer_read code p) s.read ∙ ap (transfer_by code (following_place p i) i) s.known

-- an instruction stands at p, or there is no transfer
pub data StandsOrNot (code : List ℕ) (p : ℕ) : Type 0 where
  stands : (i : Instruction) (o : Operation) → InstructionAt code p i o → StandsOrNot code p
  stands_not : transfer_of code p ≡ no_transfer → StandsOrNot code p

pub stands_or_not : (code : List ℕ) (p : ℕ) → StandsOrNot code p
stands_or_not code p = by (read_at code p) refl
  where
    known : (i : Instruction) (rest : List ℕ) → read_at code p ≡ Ok (i, rest)
        → (x : Option Operation) → operation_of i.opcode ≡ x → StandsOrNot code p
    known i rest e (Some o) f = stands i o (record { rest = rest; read = e; known = f })
    known i rest e None f =
        stands_not (ap (transfer_read code p) e ∙ ap (transfer_by code (following_place p i) i) f)

    by : (r : Reading) → read_at code p ≡ r → StandsOrNot code p
    by (Ok r) e = known r.0 r.1 e (operation_of r.0.opcode) refl
    by (Err x) e = stands_not (ap (transfer_read code p) e)

-- the instruction at p that has the successor s
pub record LeadsTo (code : List ℕ) (p s : ℕ) : Type 0 where
  pub instruction : Instruction
  pub operation : Operation
  pub stands : InstructionAt code p instruction operation
  pub among : Among s (successors code p instruction operation)

-- where a transfer has a successor, an instruction stands
pub leads_to : (code : List ℕ) (p s : ℕ) → Among s (transfer_of code p).to → LeadsTo code p s
leads_to code p s a = by (stands_or_not code p)
  where
    by : StandsOrNot code p → LeadsTo code p s
    by (stands i o t) = record {
      instruction = i;
      operation = o;
      stands = t;
      among = subst (λ (d : Transfer). Among s d.to) (stands_transfer t) a;
    }
    by (stands_not e) = absurd (subst (λ (d : Transfer). Among s d.to) e a)

-- a place where an instruction starts is even and below the end
pub start_even : (code : List ℕ) (p : ℕ) → starts_at code p ≡ true → p % 2 ≡ 0
start_even code p e = eqb-true (p % 2) 0 (and_parts _ _ e).0

pub start_below : (code : List ℕ) (p : ℕ) → starts_at code p ≡ true → p < length code
start_below code p e = ltb-true p (length code) (and_parts _ _ (and_parts _ _ e).1).0

-- a landing place is one where an instruction starts
started_among : (code : List ℕ) (q s : ℕ) (xs : List (Option ℕ)) (b : Bool)
    → starts_at code q ≡ b → Among s (cond b (Some q) None ∷ xs)
    → (starts_at code s ≡ true) ⊎ Among s xs
started_among code q s xs true e (inl i) = inl (ap (starts_at code) i ∙ e)
started_among code q s xs true e (inr a) = inr a
started_among code q s xs false e a = inr a

pub landing_among : (code : List ℕ) (d : Direction) (next by s : ℕ) (xs : List (Option ℕ))
    → Among s (landing_of code d next by ∷ xs) → (starts_at code s ≡ true) ⊎ Among s xs
landing_among code Forward next by s xs a =
    started_among code (next + by) s xs (starts_at code (next + by)) refl a
landing_among code Back next by s xs a = before (leb by next) a
  where
    before : (b : Bool) → Among s (cond b (started code (next - by)) None ∷ xs)
        → (starts_at code s ≡ true) ⊎ Among s xs
    before true a = started_among code (next - by) s xs (starts_at code (next - by)) refl a
    before false a = inr a

-- a successor is a place where an instruction starts, or the following place
pub successor_is : (code : List ℕ) (f : Flow) (next by s : ℕ)
    → Among s (successors_of code f next by) → (starts_at code s ≡ true) ⊎ (s ≡ next)
successor_is code Follows next by s (inl i) = inr i
successor_is code Follows next by s (inr a) = absurd a
successor_is code (Jumps d) next by s a =
    elim (landing_among code d next by s (None ∷ []) a) [ inl e ↦ inl e | inr x ↦ absurd x ]
successor_is code Branches next by s a =
    elim (landing_among code Forward next by s (Some next ∷ []) a) [
      | inl e ↦ inl e
      | inr (inl i) ↦ inr i
      | inr (inr x) ↦ absurd x
    ]
successor_is code Ends next by s a = absurd a

-- the successors of an even place are even
pub successor_even : (code : List ℕ) (p s : ℕ) (i : Instruction) (o : Operation)
    → p % 2 ≡ 0 → Among s (successors code p i o) → s % 2 ≡ 0
successor_even code p s i o e a =
    elim (successor_is code (flow_of o) (following_place p i) i.argument s a) [
      | inl t ↦ start_even code s t
      | inr q ↦ omega (arith, e, q)
    ]
