-- The examination of heights: the newest waiting place first, its landing place before its
-- following place.
use Rattle.std.specs.Prelude.{ℕ, zero, suc, ◌/◌, max, if◌then◌else◌, List, [], ◌∷◌, length, Some, None, Ok, Err, Option, Result, unwrap_or, ◌==◌, nat_le, nat_lt, slice_index, slice_set}
use Rattle.values.specs.Faults.{fault}
use Rattle.values.specs.Order.{and_then}
use Rattle.values.specs.declared.faults.Fault.{Fault}
use Rattle.values.specs.declared.faults.Rule.TheVariants.{HeightLow, HeightOver, FallsOffEnd, HeightsDiffer}
use Rattle.parcels.specs.Reading.{Reading, read_at, following_place}
use Rattle.parcels.specs.Opcodes.{operation_of, effect_of, after, flow_of, successors_of}
use Rattle.parcels.specs.declared.opcodes.Operation.{Operation}
use Rattle.parcels.specs.declared.reading.Instruction.{Instruction}
use Rattle.parcels.specs.declared.reading.TheConstants.{PAIR_BYTES}
use Rattle.stages.specs.declared.heights.Transfer.{Transfer}
use Rattle.stages.specs.declared.heights.TheConstants.{NO_HEIGHT}

-- the transfer of an instruction that cannot be read; the encoding stage leaves none
abbrev pub no_transfer : Transfer
no_transfer = record { effect = record { takes = 0; leaves = 0 }; to = None ∷ None ∷ [] }

-- the transfer of an instruction: the cells that it takes and leaves, and its successors
abbrev pub transfer_by : List ℕ → ℕ → Instruction → Option Operation → Transfer
transfer_by code next i None = no_transfer
transfer_by code next i (Some o) =
    record { effect = effect_of o i; to = successors_of code (flow_of o) next i.argument }

-- the transfer of what is read at p
abbrev pub transfer_read : List ℕ → ℕ → Reading → Transfer
transfer_read code p (Err e) = no_transfer
transfer_read code p (Ok r) = transfer_by code (following_place p r.0) r.0 (operation_of r.0.opcode)

-- the transfer of the instruction at p
abbrev pub transfer_of : List ℕ → ℕ → Transfer
transfer_of code p = transfer_read code p (read_at code p)

-- the height after a transfer at height h
abbrev pub height_after : Transfer → ℕ → ℕ
height_after d = after d.effect

-- the height that a byte is, if it is one
abbrev pub height_of : ℕ → Option ℕ
height_of b = if b == NO_HEIGHT then None else Some b

-- the height of pair k, if it has one
abbrev pub height_at : List ℕ → ℕ → Option ℕ
height_at hs k = height_of (slice_index hs k)

-- the greatest height, 0 if there is none
abbrev pub greatest_height : List ℕ → ℕ
greatest_height [] = 0
greatest_height (b ∷ bs) = max (unwrap_or (height_of b) 0) (greatest_height bs)

-- the height byte of every pair, and the waiting places, the newest first
pub record Work : Type 0 where
  pub heights : List ℕ
  pub waiting : List ℕ

-- the height byte of a place
abbrev pub byte_at : Work → ℕ → ℕ
byte_at w p = slice_index w.heights (p / PAIR_BYTES)

-- place s gets height a and waits
abbrev pub noted : ℕ → ℕ → Work → Work
noted s a w = record { heights = slice_set w.heights (s / PAIR_BYTES) a; waiting = s ∷ w.waiting }

-- the successors of p in turn, each reached at height a, in a code with its end at l
abbrev pub successors_reached : ℕ → ℕ → ℕ → List (Option ℕ) → Work → Result Work Fault
successors_reached l p a [] w = Ok w
successors_reached l p a (None ∷ ss) w = successors_reached l p a ss w
successors_reached l p a (Some s ∷ ss) w =
    if nat_le l s then Err (fault FallsOffEnd p)
    else if byte_at w s == NO_HEIGHT then successors_reached l p a ss (noted s a w)
    else if byte_at w s == a then successors_reached l p a ss w
    else Err (fault HeightsDiffer s)

-- place p is visited at height h with its transfer d
abbrev pub visited_by : ℕ → ℕ → ℕ → ℕ → Transfer → Work → Result Work Fault
visited_by l limit p h d w =
    if nat_lt h d.effect.takes then Err (fault HeightLow p)
    else if nat_lt limit (height_after d h) then Err (fault HeightOver p)
    else successors_reached l p (height_after d h) d.to w

-- place p, which was taken from the waiting places, is visited at its height
abbrev pub visited : List ℕ → ℕ → ℕ → Work → Result Work Fault
visited code limit p w = visited_by (length code) limit p (byte_at w p) (transfer_of code p) w

-- the heights once none waits, or what comes of the newest waiting place
abbrev pub by_newest : (ℕ → Work → Result (List ℕ) Fault) → List ℕ → List ℕ → Result (List ℕ) Fault
by_newest more hs [] = Ok hs
by_newest more hs (p ∷ rest) = more p (record { heights = hs; waiting = rest })

-- at most n visits
abbrev pub iterate : List ℕ → ℕ → ℕ → Work → Result (List ℕ) Fault
iterate code limit zero w = Ok w.heights
iterate code limit (suc n) w =
    by_newest (λ p v. and_then (visited code limit p v) (iterate code limit n)) w.heights w.waiting

-- place 0 gets height 0 and waits; there is at most one visit for each pair
abbrev pub examined : List ℕ → ℕ → List ℕ → Result (List ℕ) Fault
examined code limit hs =
    iterate code limit (length hs) (record { heights = slice_set hs 0 0; waiting = 0 ∷ [] })

-- how an examination ends: with the heights, or with a fault
abbrev pub heights_or_fault : Result (Unit {0}) Fault → List ℕ → Result (List ℕ) Fault
heights_or_fault (Err f) hs = Err f
heights_or_fault (Ok u) hs = Ok hs
