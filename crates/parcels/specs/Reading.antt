-- What an instruction at the front of a code is.
use Rattle.std.specs.Prelude.{ℕ, zero, suc, ◌+◌, ◌-◌, ◌*◌, ◌%◌, Bool, if◌then◌else◌, not, ◌&&◌, List, [], ◌∷◌, length, drop, Ok, Err, Result, ◌==◌, nat_le, nat_lt, slice_index}
use Rattle.std.specs.Borrow.{Bor}
use Rattle.values.specs.declared.faults.Rule.{Rule}
use Rattle.values.specs.declared.faults.Rule.TheVariants.{CodeCut, ExtensionFourth}
use Rattle.parcels.specs.declared.reading.Unreadable.{Unreadable}
use Rattle.parcels.specs.declared.reading.Unreadable.TheVariants.{FourthExtension, Cut}
use Rattle.parcels.specs.declared.reading.Instruction.{Instruction}
use Rattle.parcels.specs.declared.reading.TheConstants.{PAIR_BYTES, EXTENSION, MAX_EXTENSIONS}

-- the rule that an unreadable instruction breaks
abbrev pub unreadable_rule : Unreadable → Rule
unreadable_rule FourthExtension = ExtensionFourth
unreadable_rule Cut = CodeCut

-- an instruction and the code that follows it, or why there is none
abbrev pub Reading : Type 0
Reading = Result (Instruction × List ℕ) Unreadable

-- a call's answer, with what the reference in it points to
abbrev pub as_reading : Result (Instruction × Bor (List ℕ)) Unreadable → Reading
as_reading (Ok p) = Ok (p.0, p.1.now)
as_reading (Err e) = Err e

-- an instruction whose final pair has an opcode and a byte b, after k extension pairs that give the
-- argument a, and the code that follows it
abbrev pub final_pair : ℕ → ℕ → ℕ → ℕ → List ℕ → Reading
final_pair op b a k rest = Ok (record { opcode = op; argument = a * 256 + b; pairs = k + 1 }, rest)

-- at most n more extension pairs may come, a is the argument so far, and k pairs were read
abbrev pub reads : ℕ → ℕ → ℕ → List ℕ → Reading
reads n a k [] = Err Cut
reads n a k (x ∷ []) = Err Cut
reads zero a k (op ∷ b ∷ rest) =
    if op == EXTENSION then Err FourthExtension else final_pair op b a k rest
reads (suc n) a k (op ∷ b ∷ rest) =
    if op == EXTENSION then reads n (a * 256 + b) (k + 1) rest else final_pair op b a k rest

-- some extension pairs and one final pair
abbrev pub reading : List ℕ → Reading
reading code = reads MAX_EXTENSIONS 0 0 code

-- the instruction at a place of a code
abbrev pub read_at : List ℕ → ℕ → Reading
read_at code p = reading (drop p code)

-- the place that follows an instruction at p
abbrev pub following_place : ℕ → Instruction → ℕ
following_place p i = p + PAIR_BYTES * i.pairs

-- the place after what is read at p: behind the instruction, or p itself where there is none
abbrev pub place_after : ℕ → Reading → ℕ
place_after p (Ok r) = following_place p r.0
place_after p (Err e) = p

-- an instruction starts at a place that is even, below the end and not directly after an extension
-- pair
abbrev pub starts_at : List ℕ → ℕ → Bool
starts_at code p =
    p % PAIR_BYTES == 0
    && (nat_lt p (length code)
    && not (nat_le PAIR_BYTES p && slice_index code (p - PAIR_BYTES) == EXTENSION))
