-- The encoding stage: the instructions in turn, from place 0 to the end of the code.
use Rattle.std.specs.Prelude.{ℕ, zero, suc, ◌-◌, ◌%◌, Bool, true, false, if◌then◌else◌, ◌&&◌, List, [], ◌∷◌, length, Some, None, Ok, Err, Option, ◌==◌, nat_le}
use Rattle.std.specs.Option.{option_or}
use Rattle.values.specs.Faults.{fault}
use Rattle.values.specs.Order.{Test, test, first}
use Rattle.values.specs.declared.faults.Fault.{Fault}
use Rattle.values.specs.declared.faults.Rule.TheVariants.{CodeCut}
use Rattle.parcels.specs.Literals.{literal}
use Rattle.parcels.specs.Reading.{Reading, read_at, following_place, unreadable_rule}
use Rattle.parcels.specs.Opcodes.{operation_of}
use Rattle.parcels.specs.declared.reading.Instruction.{Instruction}
use Rattle.parcels.specs.declared.reading.TheConstants.{PAIR_BYTES}
use Rattle.parcels.specs.declared.opcodes.Source.TheVariants as source
use Rattle.parcels.specs.declared.opcodes.Operation.{Operation}
use Rattle.parcels.specs.declared.opcodes.Operation.TheVariants.{Push}
use Rattle.stages.specs.Operands.{is_block}
use Rattle.stages.specs.Encoding.{Context, site_fault}
use Rattle.stages.specs.declared.encoding.Site.{Site}

-- whether an operation pushes a literal
abbrev pub pushes_literal : Option Operation → Bool
pushes_literal (Some (Push source.Literal)) = true
pushes_literal _ = false

-- whether an instruction pushes a block
abbrev pub pushes_block : List ℕ → Instruction → Bool
pushes_block ls i = pushes_literal (operation_of i.opcode) && is_block (literal ls i.argument)

-- an instruction where it stands; b says whether the one before it pushes a block
abbrev pub site : ℕ → Bool → Instruction → Site
site p b i = record { place = p; instruction = i; next = following_place p i; after_block = b }

-- the fault of what is read at p, or what is found further on
abbrev pub found_at : Context → (Bool → ℕ → Option Fault) → Bool → ℕ → Reading → Option Fault
found_at x further b p (Err e) = Some (fault (unreadable_rule e) p)
found_at x further b p (Ok r) =
    option_or (site_fault x (site p b r.0))
    (further (pushes_block x.parts.literals r.0) (following_place p r.0))

-- the first fault of the instructions from p on, of which there are at most n
abbrev pub swept : Context → ℕ → Bool → ℕ → Option Fault
swept x zero b p = None
swept x (suc n) b p =
    if nat_le (length x.parts.code) p then None
    else found_at x (swept x n) b p (read_at x.parts.code p)

-- an empty code, and one of odd length
abbrev pub length_tests : ℕ → List Test
length_tests l = test CodeCut 0 (l == 0) ∷ test CodeCut (l - 1) (l % PAIR_BYTES == 1) ∷ []

-- the first fault of the encoding stage
abbrev pub encoding_fault : Context → Option Fault
encoding_fault x =
    let l = length x.parts.code in
    option_or (first (length_tests l)) (swept x l false 0)
