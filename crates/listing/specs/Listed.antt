-- The verdict on a parcel over a host and on an untrusted one over the fixed week file, and worked
-- verdicts.
use Rattle.std.specs.Prelude.{◌≡◌, ℕ, ◌/◌, ◌%◌, Bool, false, List, [], ◌∷◌, ◌++◌, length, replicate, Ok, Err, Result}
use Rattle.values.specs.Faults.{fault}
use Rattle.values.specs.declared.faults.Fault.{Fault}
use Rattle.values.specs.declared.faults.Rule.TheVariants.{HeightLow, FallsOffEnd, HeightsDiffer, LandingWrong, StoreTrusted}
use Rattle.hosts.specs.Meaning.{Meaning}
use Rattle.parcels.specs.declared.reading.TheConstants.{PAIR_BYTES}
use Rattle.week_file.specs.Files.{week_meaning}
use Rattle.stages.specs.Check.{question_on, checked}
use Rattle.stages.specs.declared.heights.TheConstants.{MAX_PAIRS}
use Rattle.listing.specs.declared.verdicts.Verdict.{Verdict}

-- an open cell that holds nil
abbrev pub open_nil : List ℕ
open_nil = replicate 6 0

-- a trusted cell that holds nil
abbrev pub trusted_nil : List ℕ
trusted_nil = 1 ∷ replicate 5 0

-- the counts of the fixed week file and its receiver: 4 variables, 2 bindings, and object 0
abbrev pub fixed_header : List ℕ
fixed_header = 0 ∷ 4 ∷ 0 ∷ 2 ∷ 0 ∷ 0 ∷ 0 ∷ 0 ∷ []

-- the fixed week file: its cells are all nil; variable 3 and binding 1 are trusted
abbrev pub fixed_week : List ℕ
fixed_week =
    fixed_header
    ++ (open_nil ++ (open_nil ++ (open_nil ++ (trusted_nil ++ (open_nil ++ trusted_nil)))))

-- what a check answers, as a verdict
abbrev pub as_verdict : Result ℕ Fault → Verdict
as_verdict r = record { 0 = r }

-- the verdict on a parcel b over a host that means m, with lists of n entries, where t says whether
-- the parcel is trusted
abbrev pub verdict_on : Meaning → Bool → ℕ → List ℕ → Verdict
verdict_on m t n b =
    as_verdict (checked (question_on m t b (replicate n 0) (replicate n 0))).verdict

-- two parcels have the same verdict, whatever the host, the trust and the lists
abbrev pub SameVerdict : List ℕ → List ℕ → Type 0
SameVerdict b c = (m : Meaning) (t : Bool) (n : ℕ) → verdict_on m t n b ≡ verdict_on m t n c

-- the verdict on an untrusted parcel b over a week file f, with lists of n entries
abbrev pub verdict_over : List ℕ → ℕ → List ℕ → Verdict
verdict_over f n b = verdict_on (week_meaning f) false n b

-- the verdict over the fixed week file, with lists that are long enough for every code
abbrev pub listed : List ℕ → Verdict
listed b = verdict_over fixed_week MAX_PAIRS b

-- a method without literals, with the flag bytes f
abbrev pub method_bytes : List ℕ → List ℕ → List ℕ
method_bytes f code =
    (0 ∷ 0 ∷ 0 ∷ 0 ∷ []) ++ (f ++ ((length code / 256 ∷ length code % 256 ∷ []) ++ code))

-- the verdict on a code as such a method, with as many entries as it needs
abbrev pub verdict_with : List ℕ → List ℕ → Verdict
verdict_with f code = verdict_over fixed_week (length code / PAIR_BYTES) (method_bytes f code)

-- a code without arguments or locals, with 4 slots
abbrev pub plain_verdict : List ℕ → Verdict
plain_verdict code = verdict_with (0 ∷ 0 ∷ 0 ∷ 32 ∷ []) code

-- forty turns of a loop, counted in a local, with its head at place 6: each turn pushes a figure
-- and then does opcode d
abbrev pub forty_turns : ℕ → List ℕ
forty_turns d =
    44 ∷ 40 ∷ 36 ∷ 0 ∷ 48 ∷ 0 ∷ 44 ∷ 1 ∷ d ∷ 0 ∷ 32 ∷ 0 ∷ 44 ∷ 1 ∷ 1 ∷ 0
    ∷ 36 ∷ 0 ∷ 44 ∷ 0 ∷ 3 ∷ 0 ∷ 43 ∷ 2 ∷ 40 ∷ 20 ∷ 45 ∷ 0 ∷ 51 ∷ 0 ∷ []

-- a code with one local and 8 slots
abbrev pub counting_verdict : List ℕ → Verdict
counting_verdict code = verdict_with (0 ∷ 0 ∷ 8 ∷ 64 ∷ []) code

-- accepted with a greatest height
abbrev pub accepted_with : ℕ → Verdict
accepted_with h = as_verdict (Ok h)

-- refused by a fault
abbrev pub refused_by : Fault → Verdict
refused_by f = as_verdict (Err f)

-- verdicts on worked parcels, by computation
abbrev pub WorkedVerdicts : Type 0
WorkedVerdicts =
    (plain_verdict (56 ∷ 0 ∷ 51 ∷ 0 ∷ []) ≡ accepted_with 1)
    × (plain_verdict (40 ∷ 2 ∷ []) ≡ accepted_with 0)
    × (plain_verdict (51 ∷ 0 ∷ []) ≡ refused_by (fault HeightLow 0))
    × (plain_verdict (56 ∷ 0 ∷ []) ≡ refused_by (fault FallsOffEnd 0))
    × (plain_verdict (44 ∷ 1 ∷ 40 ∷ 4 ∷ []) ≡ refused_by (fault HeightsDiffer 0))
    × (plain_verdict (41 ∷ 1 ∷ 56 ∷ 0 ∷ 51 ∷ 0 ∷ []) ≡ refused_by (fault LandingWrong 0))
    × (plain_verdict (41 ∷ 2 ∷ 55 ∷ 0 ∷ 56 ∷ 0 ∷ 51 ∷ 0 ∷ []) ≡ refused_by (fault LandingWrong 0))
    × (plain_verdict (56 ∷ 0 ∷ 39 ∷ 2 ∷ 51 ∷ 0 ∷ []) ≡ accepted_with 1)
    × (plain_verdict (56 ∷ 0 ∷ 39 ∷ 3 ∷ 51 ∷ 0 ∷ []) ≡ refused_by (fault StoreTrusted 2))
    × (plain_verdict (55 ∷ 3 ∷ 44 ∷ 232 ∷ 51 ∷ 0 ∷ []) ≡ accepted_with 1)
    × (counting_verdict (forty_turns 48) ≡ accepted_with 2)
    × (counting_verdict (forty_turns 54) ≡ refused_by (fault HeightsDiffer 6))
