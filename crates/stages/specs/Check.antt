-- The whole check: the stages in order, and what the two lists hold afterwards.
use Rattle.std.specs.Prelude.{ℕ, ◌/◌, Bool, ◌||◌, List, [], ◌∷◌, ◌++◌, length, drop, replicate, Ok, Err, Option, Result, nat_lt}
use Rattle.std.specs.Option.{option_or}
use Rattle.values.specs.Order.{Test, test, first, unless, and_then}
use Rattle.values.specs.declared.faults.Fault.{Fault}
use Rattle.values.specs.declared.faults.Rule.TheVariants.{ListShort}
use Rattle.hosts.specs.Meaning.{Marks, Meaning, marks_of}
use Rattle.parcels.specs.Layouts.{limit_of}
use Rattle.parcels.specs.Literals.{literals_fault}
use Rattle.parcels.specs.Parts.{Parts, parts_of}
use Rattle.parcels.specs.declared.reading.TheConstants.{PAIR_BYTES}
use Rattle.stages.specs.Encoding.{Context, context}
use Rattle.stages.specs.Sweep.{encoding_fault}
use Rattle.stages.specs.Examination.{examined, greatest_height}
use Rattle.stages.specs.declared.heights.TheConstants.{NO_HEIGHT}

-- what a check is asked: the marks of a host, whether the parcel is trusted, the parcel's bytes,
-- and the two lists that it is lent, of height bytes and of waiting places
pub record Question : Type 0 where
  pub marks : Marks
  pub trusted : Bool
  pub bytes : List ℕ
  pub heights : List ℕ
  pub waiting : List ℕ

-- a question out of its parts
abbrev pub question : Marks → Bool → List ℕ → List ℕ → List ℕ → Question
question m t b hs ws = record { marks = m; trusted = t; bytes = b; heights = hs; waiting = ws }

-- the same over a host with a meaning
abbrev pub question_on : Meaning → Bool → List ℕ → List ℕ → List ℕ → Question
question_on m t b hs ws = question (marks_of m) t b hs ws

-- the number of pairs of a code, rounded down
abbrev pub pairs : List ℕ → ℕ
pairs code = length code / PAIR_BYTES

-- n bytes without a height
abbrev pub no_heights : ℕ → List ℕ
no_heights n = replicate n NO_HEIGHT

-- each list has an entry for every pair
abbrev pub list_tests : ℕ → ℕ → ℕ → List Test
list_tests n h w = test ListShort 0 (nat_lt h n || nat_lt w n) ∷ []

-- the first fault of the stages literals and lists, over lists of h and w entries
abbrev pub admission_fault : Marks → Parts → ℕ → ℕ → Option Fault
admission_fault m p h w =
    option_or (literals_fault p.literals p.layout.literal_count (length m.bindings))
    (first (list_tests (pairs p.code) h w))

-- the stages header, flags, literals and lists: the parcel taken apart, or the first fault
abbrev pub parts_admitted : Marks → List ℕ → ℕ → ℕ → Result Parts Fault
parts_admitted m b h w = and_then (parts_of b) (λ p. unless (admission_fault m p h w) p)

-- the same stages: what the rules look at from then on
abbrev pub context_admitted : Marks → Bool → List ℕ → ℕ → ℕ → Result Context Fault
context_admitted m t b h w = and_then (parts_admitted m b h w) (λ p. Ok (context p m t))

-- the heights stage: the height bytes, or the first fault
abbrev pub parts_examined : Parts → Result (List ℕ) Fault
parts_examined p = examined p.code (limit_of p.layout) (no_heights (pairs p.code))

-- the stages encoding and heights: the height bytes, or the first fault
abbrev pub heights_found : Context → Result (List ℕ) Fault
heights_found x = and_then (unless (encoding_fault x) x.parts) parts_examined

-- the answer: the greatest height, or the fault
abbrev pub greatest_or_fault : Result (List ℕ) Fault → Result ℕ Fault
greatest_or_fault (Ok g) = Ok (greatest_height g)
greatest_or_fault (Err f) = Err f

-- the height bytes of the n pairs: none has a height after a fault
abbrev pub heights_of : ℕ → Result (List ℕ) Fault → List ℕ
heights_of n (Ok g) = g
heights_of n (Err f) = no_heights n

-- the answer, and the two lists afterwards
pub record Checked : Type 0 where
  pub verdict : Result ℕ Fault
  pub heights : List ℕ
  pub waiting : List ℕ

-- after encoding and heights the entries of the n pairs are written, and the rest of each list
-- stays
abbrev pub concluded : ℕ → List ℕ → List ℕ → Result (List ℕ) Fault → Checked
concluded n hs ws r = record {
  verdict = greatest_or_fault r;
  heights = heights_of n r ++ drop n hs;
  waiting = replicate n 0 ++ drop n ws;
}

-- what a question is answered by the stages before: a fault of theirs leaves the lists
abbrev pub checked_by : Question → Result Parts Fault → Checked
checked_by q (Err f) = record { verdict = Err f; heights = q.heights; waiting = q.waiting }
checked_by q (Ok p) =
    concluded (pairs p.code) q.heights q.waiting (heights_found (context p q.marks q.trusted))

-- what a question is answered
abbrev pub checked : Question → Checked
checked q =
    checked_by q (parts_admitted q.marks q.bytes (length q.heights) (length q.waiting))
