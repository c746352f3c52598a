-- What a verdict means.
use Rattle.std.specs.Prelude.{◌≡◌, ◌↔◌, ℕ, ◌*◌, ◌%◌, ◌<◌, ◌≤◌, Bool, true, List, length, Some, Ok, Err, ◌≢◌, slice_index}
use Rattle.values.specs.Faults.{rule_stage}
use Rattle.values.specs.declared.faults.Fault.{Fault}
use Rattle.values.specs.declared.faults.Stage.TheVariants.{Heights}
use Rattle.hosts.specs.Meaning.{Marks, Meaning, marks_of}
use Rattle.parcels.specs.Layouts.{header, header_tests, flag_tests, limit_of}
use Rattle.parcels.specs.Literals.{literal_tests}
use Rattle.parcels.specs.Parts.{Parts, parcel}
use Rattle.parcels.specs.Reading.{starts_at}
use Rattle.parcels.specs.declared.reading.TheConstants.{PAIR_BYTES}
use Rattle.stages.specs.Encoding.{Context, context}
use Rattle.stages.specs.Sweep.{length_tests}
use Rattle.stages.specs.Examination.{height_at}
use Rattle.stages.specs.Check.{Question, pairs, list_tests, Checked, checked, question_on}
use Rattle.soundness.specs.Paths.{Path, ValidHeights, ViolatesHeights}
use Rattle.soundness.specs.Rules.{First, ValidHeader, ValidFlags, ValidLiteral, ValidLiterals, ValidInstruction, ValidEncoding, FirstViolation}

-- the parcel b keeps every rule, along every path, over a host with marks m, trusted or not
pub record IsValid (m : Marks) (t : Bool) (b : List ℕ) : Type 0 where
  pub in_header : ValidHeader b
  pub in_flags : ValidFlags (header b)
  pub in_literals : ValidLiterals (parcel b) (length m.bindings)
  pub in_encoding : ValidEncoding (context (parcel b) m t)
  pub in_heights : ValidHeights (parcel b).code (limit_of (parcel b).layout)

-- the heights hs are the paths', and top is the greatest
pub record HeightsOfPaths (code : List ℕ) (hs : List ℕ) (top : ℕ) : Type 0 where
  pub reached : (k h : ℕ)
      → k < pairs code → (height_at hs k ≡ Some h) ↔ Path code (PAIR_BYTES * k) h
  pub starts : (p h : ℕ) → Path code p h → starts_at code p ≡ true
  pub most : (p h : ℕ) → Path code p h → h ≤ top
  pub some : (p : ℕ) × Path code p top

-- no other heights are the paths', and no other number is the greatest
abbrev pub OnlyHeights : List ℕ → List ℕ → ℕ → Type 0
OnlyHeights code hs top =
    (gs : List ℕ) (g : ℕ) → HeightsOfPaths code gs g
    → (g ≡ top) × ((k : ℕ) → k < pairs code → slice_index gs k ≡ slice_index hs k)

-- the parcel that a question is about
abbrev pub asked_parcel : Question → Parts
asked_parcel q = parcel q.bytes

-- its code
abbrev pub asked_code : Question → List ℕ
asked_code q = (asked_parcel q).code

-- what the encoding rules look at of it
abbrev pub asked_context : Question → Context
asked_context q = context (asked_parcel q) q.marks q.trusted

-- the parcel keeps every rule
abbrev pub AskedIsValid : Question → Type 0
AskedIsValid q = IsValid q.marks q.trusted q.bytes

-- its literal k keeps the rules
abbrev pub AskedLiteral : Question → ℕ → Type 0
AskedLiteral q k = ValidLiteral (asked_parcel q).literals (length q.marks.bindings) k

-- the lists have an entry for every pair
pub record ListsSuffice (q : Question) : Type 0 where
  pub heights : pairs (asked_code q) ≤ length q.heights
  pub waiting : pairs (asked_code q) ≤ length q.waiting

-- the stages before the literals are kept
abbrev pub BeforeLiterals : Question → Type 0
BeforeLiterals q = ValidHeader q.bytes × ValidFlags (header q.bytes)

-- the stages before the lists
abbrev pub BeforeLists : Question → Type 0
BeforeLists q = BeforeLiterals q × ValidLiterals (asked_parcel q) (length q.marks.bindings)

-- the stages before encoding
abbrev pub BeforeEncoding : Question → Type 0
BeforeEncoding q = BeforeLists q × ListsSuffice q

-- f is the first fault in the fixed order: every stage before it is kept, and it is the first row
-- there that applies
pub data FirstFault (q : Question) : Fault → Type 0 where
  at_header : {f : Fault} → First (header_tests q.bytes) f → FirstFault q f
  at_flags : {f : Fault} → ValidHeader q.bytes
      → First (flag_tests (header q.bytes)) f → FirstFault q f
  at_literal : {f : Fault} → BeforeLiterals q
      → (k : ℕ) → k < (asked_parcel q).layout.literal_count
      → ((j : ℕ) → j < k → AskedLiteral q j)
      → First (literal_tests (asked_parcel q).literals (length q.marks.bindings) k) f
      → FirstFault q f
  at_lists : {f : Fault} → BeforeLists q
      → First (list_tests (pairs (asked_code q)) (length q.heights) (length q.waiting)) f
      → FirstFault q f
  at_length : {f : Fault} → BeforeEncoding q
      → First (length_tests (length (asked_code q))) f → FirstFault q f
  at_instruction : {f : Fault} → BeforeEncoding q
      → 0 < length (asked_code q) → length (asked_code q) % PAIR_BYTES ≡ 0
      → (p : ℕ) → starts_at (asked_code q) p ≡ true
      → ((r : ℕ) → r < p → starts_at (asked_code q) r ≡ true → ValidInstruction (asked_context q) r)
      → FirstViolation (asked_context q) p f → FirstFault q f
  on_path : {f : Fault} → BeforeEncoding q → ValidEncoding (asked_context q)
      → ViolatesHeights (asked_code q) (limit_of (asked_parcel q).layout) f → FirstFault q f

-- what the answer c to a question means: accepted exactly if every rule is kept, with the heights
-- of the paths and no others, and refused with the first fault; before the heights, where several
-- paths may each break a rule, no other fault is the first
pub record VerdictMeans (q : Question) (c : Checked) : Type 0 where
  pub keeps : (top : ℕ) → c.verdict ≡ Ok top → AskedIsValid q × ListsSuffice q
  pub accepts : AskedIsValid q → ListsSuffice q → (top : ℕ) × (c.verdict ≡ Ok top)
  pub heights : (top : ℕ) → c.verdict ≡ Ok top → HeightsOfPaths (asked_code q) c.heights top
  pub no_others : (top : ℕ) → c.verdict ≡ Ok top → OnlyHeights (asked_code q) c.heights top
  pub refused : (f : Fault) → c.verdict ≡ Err f → FirstFault q f
  pub one_first : (f : Fault) → FirstFault q f → rule_stage f.rule ≢ Heights → c.verdict ≡ Err f

-- every verdict has its meaning
abbrev pub EveryVerdictMeans : Type 0
EveryVerdictMeans = (q : Question) → VerdictMeans q (checked q)

-- kinds of values are not judged: hosts with the same marks, whatever their cells hold and their
-- messages answer, get the same answer and heights
abbrev pub KindsAreNotJudged : Type 0
KindsAreNotJudged =
    (m n : Meaning) → marks_of m ≡ marks_of n → (t : Bool) (b hs ws : List ℕ)
    → checked (question_on m t b hs ws) ≡ checked (question_on n t b hs ws)
