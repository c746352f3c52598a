-- What opening has of a parcel that the check accepts.
use Rattle.std.proofs.Common.{◌≡◌, ℕ, Bool, List, [], ◌∷◌, length, Some, None, Ok, Option, Result, sym, refl, ap, ◌∙◌, subst}
use Rattle.std.proofs.lemmas.Bool.{cond-false}
use Rattle.values.specs.Order.{Test, first, unless, and_then}
use Rattle.values.specs.declared.faults.Fault.{Fault}
use Rattle.values.specs.declared.kinds.Value.{Value}
use Rattle.hosts.specs.Meaning.{Meaning, marks_of}
use Rattle.parcels.specs.Layouts.{header, header_tests, flag_tests, flagged, laid_out}
use Rattle.parcels.specs.Parts.{Parts, split, parts_of}
use Rattle.stages.specs.Check.{question_on, checked}
use Rattle.stages.proofs.Trust.{marks_length}
use Rattle.parcels.specs.Parts.{parcel}
use Rattle.soundness.specs.Verdicts.{IsValid}
use Rattle.soundness.proofs.Orders.{Silent, header_silent, flags_silent}
use Rattle.soundness.proofs.Verdict.{every_verdict_means}
use Rattle.semantics.specs.Steps.{RunView, CallAnswer}
use Rattle.semantics.specs.Opening.{Opened, open_tests, begun, laid_out_frame, opened_unless, opened_by, opened}
use Rattle.safety.specs.Ready.{Ready}
use Rattle.safety.proofs.Readiness.{accepted_ready}
use Rattle.engine.specs.Decoding.{if_ok}

silent_none : (ts : List Test) → Silent ts → first ts ≡ None
silent_none [] s = refl
silent_none (t ∷ ts) s = cond-false t.applies (Some t.finds) (first ts) s.0 ∙ silent_none ts s.1

-- its parts are those that its bytes have
parts_are : (b : List ℕ) → first (header_tests b) ≡ None → first (flag_tests (header b)) ≡ None → parts_of b ≡ Ok (parcel b)
parts_are b e f =
    ap (λ (o : Option Fault). and_then (and_then (unless o (header b)) flagged) (λ l. Ok (split b l))) e
    ∙ ap (λ (o : Option Fault). and_then (unless o (laid_out (header b))) (λ l. Ok (split b l))) f

-- opening, by what beginning answers
abbrev pub opened_so : CallAnswer → (top : ℕ) → Parts → Meaning → (args f : List Value) → RunView → Opened
opened_so r top p m args f run = record {
  answer = and_then r (λ _. Ok top);
  run = if_ok r (begun p (length m.variables) (length m.bindings)) run;
  frame = if_ok r (laid_out_frame p args f) f;
}

by_tests : (o : Option Fault) (top : ℕ) (p : Parts) (m : Meaning) (args f : List Value) (run : RunView)
    → opened_so (unless o tt) top p m args f run ≡ opened_unless o top p (marks_of m) args f run
by_tests None top p m args f run =
    ap (λ (v : ℕ). record { answer = Ok top; run = begun p v (length m.bindings); frame = laid_out_frame p args f }) (marks_length m.variables)
    ∙ ap (λ (b : ℕ). record { answer = Ok top; run = begun p (length (marks_of m).variables) b; frame = laid_out_frame p args f }) (marks_length m.bindings)
by_tests (Some x) top p m args f run = refl

module _ (m : Meaning) (t : Bool) (b hs ws : List ℕ) (top : ℕ) (e : Ok top ≡ (checked (question_on m t b hs ws)).verdict) where
  keeps : IsValid (marks_of m) t b
  keeps = ((every_verdict_means (question_on m t b hs ws)).keeps top (sym e)).0

  pub accepted_parts : parts_of b ≡ Ok (parcel b)
  accepted_parts = parts_are b (silent_none (header_tests b) (header_silent b keeps.in_header)) (silent_none (flag_tests (header b)) (flags_silent (header b) keeps.in_flags))

  pub accepted_begins : Ready (parcel b) (length m.variables) (length m.bindings) 0 0
  accepted_begins =
      subst (λ (x : ℕ). Ready (parcel b) x (length m.bindings) 0 0) (sym (marks_length m.variables))
      (subst (λ (y : ℕ). Ready (parcel b) (length (marks_of m).variables) y 0 0) (sym (marks_length m.bindings)) (accepted_ready (marks_of m) t b keeps))

  -- what was read is what the bytes have
  pub same_parts : (p : Parts) → Ok p ≡ parts_of b → p ≡ parcel b
  same_parts p q = let r = q ∙ accepted_parts in cc

  -- opening, once the check accepts, by what beginning answers
  pub opened_is : (args f : List Value) (run : RunView) (r : CallAnswer) (p : Parts)
      → Ok p ≡ parts_of b → r ≡ unless (first (open_tests p args f)) tt
      → opened_so r top p m args f run ≡ opened (question_on m t b hs ws) args f run
  opened_is args f run r p q x =
      let s = same_parts p q in
      ap (λ (y : CallAnswer). opened_so y top p m args f run) x
      ∙ by_tests (first (open_tests p args f)) top p m args f run
      ∙ ap (λ (y : Parts). opened_unless (first (open_tests y args f)) top y (marks_of m) args f run) s
      ∙ ap (λ (r : Result ℕ Fault). opened_by r (parcel b) (marks_of m) args f run) e
