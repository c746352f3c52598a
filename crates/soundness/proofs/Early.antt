-- The first fault before the heights stage: what it means, and that there is no other.
use Rattle.std.proofs.Common.{◌≡◌, ◌%◌, ◌<◌, false, ◌⊎◌, List, length, Some, None, Ok, Err, Option, refl, ap, ◌∙◌, inl, inr, arith}
use Rattle.std.specs.Option.{option_or}
use Rattle.values.specs.Order.{Test, first, unless, and_then}
use Rattle.values.specs.declared.faults.Fault.{Fault}
use Rattle.parcels.specs.Layouts.{header, header_tests, flag_tests, flagged, laid_out, limit_of}
use Rattle.parcels.specs.Literals.{literals_fault}
use Rattle.parcels.specs.Parts.{Parts, split}
use Rattle.stages.specs.Sweep.{length_tests, swept}
use Rattle.stages.specs.Check.{Question, pairs, list_tests, admission_fault, parts_examined, Checked, concluded, checked_by, checked}
use Rattle.soundness.specs.Paths.{ViolatesHeights}
use Rattle.soundness.specs.Rules.{ValidHeader, ValidEncoding}
use Rattle.soundness.specs.Verdicts.{asked_parcel, asked_code, asked_context, AskedIsValid, ListsSuffice, BeforeLiterals, BeforeLists, BeforeEncoding, FirstFault, at_header, at_flags, at_literal, at_lists, at_length, at_instruction, on_path}
use Rattle.soundness.proofs.Orders.{first_none, first_some, silent_none, header_kept, header_silent, flags_kept, flags_silent, lists_kept, lists_silent, length_kept, length_silent}
use Rattle.soundness.proofs.OneFirst.{first_is}
use Rattle.soundness.proofs.LiteralSearch.{LiteralsFind, nothing, wrong_at, literals_find, literals_one, literals_none}
use Rattle.soundness.proofs.Sweeping as sweeping
use Rattle.soundness.proofs.Sweeping.{SweepFinds, whole_sweep, sweep_one, sweep_none}

-- the first fault of the sweep, and of that and each stage before
abbrev pub from_sweep : Question → Option Fault
from_sweep q = swept (asked_context q) (length (asked_code q)) false 0

abbrev code_tests : Question → List Test
code_tests q = length_tests (length (asked_code q))

abbrev pub from_length : Question → Option Fault
from_length q = option_or (first (code_tests q)) (from_sweep q)

abbrev lent_tests : Question → List Test
lent_tests q = list_tests (pairs (asked_code q)) (length q.heights) (length q.waiting)

abbrev pub from_lists : Question → Option Fault
from_lists q = option_or (first (lent_tests q)) (from_length q)

abbrev pub literal_stage : Question → Option Fault
literal_stage q =
    literals_fault (asked_parcel q).literals (asked_parcel q).layout.literal_count
    (length q.marks.bindings)

abbrev pub from_literals : Question → Option Fault
from_literals q = option_or (literal_stage q) (from_lists q)

abbrev pub from_flags : Question → Option Fault
from_flags q = option_or (first (flag_tests (header q.bytes))) (from_literals q)

-- the first fault before the heights
abbrev pub early_fault : Question → Option Fault
early_fault q = option_or (first (header_tests q.bytes)) (from_flags q)

-- what a check answers by it: it, or what the examination gives
pub data AnsweredBy (q : Question) : Checked → Type 0 where
  stopped : {c : Checked} (f : Fault) → early_fault q ≡ Some f → c.verdict ≡ Err f → AnsweredBy q c
  passed : early_fault q ≡ None
      → AnsweredBy q
      (concluded (pairs (asked_code q)) q.heights q.waiting (parts_examined (asked_parcel q)))

module _ (q : Question) where
  -- the stages literals and lists over parts
  abbrev admission : Parts → Option Fault
  admission p = admission_fault q.marks p (length q.heights) (length q.waiting)

  in_sweep : (o : Option Fault) → early_fault q ≡ o
      → AnsweredBy q
      (concluded (pairs (asked_code q)) q.heights q.waiting
      (and_then (unless o (asked_parcel q)) parts_examined))
  in_sweep (Some f) e = stopped f e refl
  in_sweep None e = passed e

  in_length : (o : Option Fault) → early_fault q ≡ option_or o (from_sweep q)
      → AnsweredBy q
      (concluded (pairs (asked_code q)) q.heights q.waiting
      (and_then (unless (option_or o (from_sweep q)) (asked_parcel q)) parts_examined))
  in_length (Some f) e = stopped f e refl
  in_length None e = in_sweep (from_sweep q) e

  in_lists : (o : Option Fault) → early_fault q ≡ option_or o (from_length q)
      → AnsweredBy q (checked_by q (unless o (asked_parcel q)))
  in_lists (Some f) e = stopped f e refl
  in_lists None e = in_length (first (code_tests q)) e

  in_literals : (o : Option Fault) → early_fault q ≡ option_or o (from_lists q)
      → AnsweredBy q (checked_by q (unless (option_or o (first (lent_tests q))) (asked_parcel q)))
  in_literals (Some f) e = stopped f e refl
  in_literals None e = in_lists (first (lent_tests q)) e

  in_flags : (o : Option Fault) → early_fault q ≡ option_or o (from_literals q)
      → AnsweredBy q (checked_by q
      (and_then (and_then (unless o (laid_out (header q.bytes))) (λ l. Ok (split q.bytes l)))
      (λ p. unless (admission p) p)))
  in_flags (Some f) e = stopped f e refl
  in_flags None e = in_literals (literal_stage q) e

  in_header : (o : Option Fault) → early_fault q ≡ option_or o (from_flags q)
      → AnsweredBy q (checked_by q
      (and_then
      (and_then (and_then (unless o (header q.bytes)) flagged) (λ l. Ok (split q.bytes l)))
      (λ p. unless (admission p) p)))
  in_header (Some f) e = stopped f e refl
  in_header None e = in_flags (first (flag_tests (header q.bytes))) e

  pub answered_by : AnsweredBy q (checked q)
  answered_by = in_header (first (header_tests q.bytes)) refl

-- what it means
pub data EarlyMeans (q : Question) : Option Fault → Type 0 where
  kept : BeforeEncoding q → ValidEncoding (asked_context q) → EarlyMeans q None
  broken : {f : Fault} → FirstFault q f → EarlyMeans q (Some f)

module _ (q : Question) where
  by_sweep : BeforeEncoding q → 0 < length (asked_code q) → length (asked_code q) % 2 ≡ 0
      → {o : Option Fault} → SweepFinds (asked_context q) 0 o → EarlyMeans q o
  by_sweep k pos even (sweeping.nothing f) =
      kept k (record { some = pos; even = even; each = λ p s. f p (omega arith) s })
  by_sweep k pos even (sweeping.stops p l s f meets) =
      broken (at_instruction k pos even p s (λ r g. f r (omega arith) g) meets)

  by_length : BeforeEncoding q → (o : Option Fault)
      → first (code_tests q) ≡ o
      → EarlyMeans q (option_or o (from_sweep q))
  by_length k (Some f) e = broken (at_length k (first_some (code_tests q) f e))
  by_length k None e =
      let l = length_kept (length (asked_code q)) (first_none (code_tests q) e) in
      by_sweep k l.0 l.1 (whole_sweep (asked_context q) l.0)

  by_lists : BeforeLists q → (o : Option Fault) → first (lent_tests q) ≡ o
      → EarlyMeans q (option_or o (from_length q))
  by_lists k (Some f) e = broken (at_lists k (first_some (lent_tests q) f e))
  by_lists k None e =
      let l =
      lists_kept (pairs (asked_code q)) (length q.heights) (length q.waiting)
      (first_none (lent_tests q) e)
      in
      by_length (k, record { heights = l.0; waiting = l.1 })
      (first (code_tests q)) refl

  by_literals : BeforeLiterals q → {o : Option Fault}
      → LiteralsFind (asked_parcel q).literals (length q.marks.bindings) 0
      (asked_parcel q).layout.literal_count o
      → EarlyMeans q (option_or o (from_lists q))
  by_literals k (nothing f) =
      by_lists (k, λ j l. f j (omega arith) (omega arith)) (first (lent_tests q)) refl
  by_literals k (wrong_at j l g f x) =
      broken (at_literal k j (omega arith) (λ i a. f i (omega arith) a) x)

  by_flags : ValidHeader q.bytes → (o : Option Fault) → first (flag_tests (header q.bytes)) ≡ o
      → EarlyMeans q (option_or o (from_literals q))
  by_flags k (Some f) e = broken (at_flags k (first_some (flag_tests (header q.bytes)) f e))
  by_flags k None e =
      by_literals (k, flags_kept (header q.bytes) (first_none (flag_tests (header q.bytes)) e))
      (literals_find (asked_parcel q).literals (length q.marks.bindings) 0
      (asked_parcel q).layout.literal_count)

  by_header : (o : Option Fault) → first (header_tests q.bytes) ≡ o
      → EarlyMeans q (option_or o (from_flags q))
  by_header (Some f) e = broken (at_header (first_some (header_tests q.bytes) f e))
  by_header None e =
      by_flags (header_kept q.bytes (first_none (header_tests q.bytes) e))
      (first (flag_tests (header q.bytes))) refl

  pub early_means : EarlyMeans q (early_fault q)
  early_means = by_header (first (header_tests q.bytes)) refl

  -- where stages are kept, it is the first fault of the others
  past_header : ValidHeader q.bytes → early_fault q ≡ from_flags q
  past_header k =
      ap (λ (o : Option Fault). option_or o (from_flags q))
      (silent_none (header_tests q.bytes) (header_silent q.bytes k))

  past_flags : BeforeLiterals q → early_fault q ≡ from_literals q
  past_flags k =
      past_header k.0
      ∙ ap (λ (o : Option Fault). option_or o (from_literals q))
      (silent_none (flag_tests (header q.bytes)) (flags_silent (header q.bytes) k.1))

  past_literals : BeforeLists q → early_fault q ≡ from_lists q
  past_literals k =
      past_flags k.0
      ∙ ap (λ (o : Option Fault). option_or o (from_lists q))
      (literals_none (asked_parcel q).literals (length q.marks.bindings)
      (literals_find (asked_parcel q).literals (length q.marks.bindings) 0
      (asked_parcel q).layout.literal_count) k.1)

  past_lists : BeforeEncoding q → early_fault q ≡ from_length q
  past_lists k =
      past_literals k.0
      ∙ ap (λ (o : Option Fault). option_or o (from_length q))
      (silent_none (lent_tests q) (lists_silent _ _ _ k.1.heights k.1.waiting))

  past_length : BeforeEncoding q → 0 < length (asked_code q) → length (asked_code q) % 2 ≡ 0
      → early_fault q ≡ from_sweep q
  past_length k pos even =
      past_lists k
      ∙ ap (λ (o : Option Fault). option_or o (from_sweep q))
      (silent_none (code_tests q) (length_silent (length (asked_code q)) pos even))

  -- there is none where every stage is kept
  pub none_early : BeforeEncoding q → ValidEncoding (asked_context q) → early_fault q ≡ None
  none_early k e =
      past_length k e.some e.even
      ∙ sweep_none (asked_context q) (whole_sweep (asked_context q) e.some) e.each

  pub none_valid : AskedIsValid q → ListsSuffice q → early_fault q ≡ None
  none_valid k l =
      none_early (((k.in_header, k.in_flags), k.in_literals), l) k.in_encoding

  -- a path breaks the height rule of f, and no rule is broken before
  abbrev pub OnPath : Fault → Type 0
  OnPath f =
      (early_fault q ≡ None) × ViolatesHeights (asked_code q) (limit_of (asked_parcel q).layout) f

  -- a first fault is this one, or one of the heights
  pub early_or_path : {f : Fault} → FirstFault q f → (early_fault q ≡ Some f) ⊎ OnPath f
  early_or_path (at_header x) =
      inl (ap (λ (o : Option Fault). option_or o (from_flags q)) (first_is x))
  early_or_path (at_flags k x) =
      inl (past_header k ∙ ap (λ (o : Option Fault). option_or o (from_literals q)) (first_is x))
  early_or_path (at_literal k j l before x) =
      let is =
      literals_one (asked_parcel q).literals (length q.marks.bindings)
      (literals_find (asked_parcel q).literals (length q.marks.bindings) 0
      (asked_parcel q).layout.literal_count) j l before x
      in
      inl (past_flags k ∙ ap (λ (o : Option Fault). option_or o (from_lists q)) is)
  early_or_path (at_lists k x) =
      inl (past_literals k ∙ ap (λ (o : Option Fault). option_or o (from_length q)) (first_is x))
  early_or_path (at_length k x) =
      inl (past_lists k ∙ ap (λ (o : Option Fault). option_or o (from_sweep q)) (first_is x))
  early_or_path (at_instruction k pos even p s before v) =
      inl (past_length k pos even
      ∙ sweep_one (asked_context q) p (whole_sweep (asked_context q) pos) s before v)
  early_or_path (on_path k e v) = inr (none_early k e, v)
