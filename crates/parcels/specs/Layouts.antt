-- The header and the flags of a parcel, and the rules that they keep.
use Rattle.std.specs.Prelude.{◌≡◌, ℕ, ◌+◌, ◌-◌, ◌*◌, ◌/◌, ◌%◌, ◌^◌, ◌≤◌, Bool, if◌then◌else◌, not, ◌||◌, List, [], ◌∷◌, length, Some, None, Option, Result, ◌==◌, nat_lt}
use Rattle.values.specs.Bytes.{be16, be32}
use Rattle.values.specs.Order.{Test, test, first, unless, and_then}
use Rattle.values.specs.declared.faults.Fault.{Fault}
use Rattle.values.specs.declared.faults.Rule.TheVariants.{HeaderShort, KindUnknown, LiteralsTooMany, CodeTooLong, LengthWrong, FlagsReserved, LocalsOverSlots}
use Rattle.parcels.specs.declared.layout.Kind.{Kind}
use Rattle.parcels.specs.declared.layout.Kind.TheVariants as kind
use Rattle.parcels.specs.declared.layout.ParcelHeader.{ParcelHeader}
use Rattle.parcels.specs.declared.layout.Layout.{Layout}
use Rattle.parcels.specs.declared.layout.CodeKind.TheVariants.{Method, Block}
use Rattle.parcels.specs.declared.layout.TheConstants.{HEADER_BYTES, MAX_LITERALS, MAX_CODE, MAX_SLOTS}
use Rattle.parcels.specs.declared.literals.TheConstants.{LITERAL_BYTES}

-- bytes 0 and 1: 0 for a method, 1 for a block
abbrev pub kind_field : List ℕ → ℕ
kind_field b = be16 b 0

-- the kind that a number stands for
abbrev pub kind_named : ℕ → Option Kind
kind_named n = if n == 0 then Some kind.Method else if n == 1 then Some kind.Block else None

-- the kind of bytes that keep the header rules
abbrev pub kind_in : List ℕ → Kind
kind_in b = if kind_field b == 0 then kind.Method else kind.Block

-- bytes 2 and 3
abbrev pub literal_count_field : List ℕ → ℕ
literal_count_field b = be16 b 2

-- bytes 4 to 7
abbrev pub flags_field : List ℕ → ℕ
flags_field b = be32 b 4

-- bytes 8 and 9
abbrev pub code_length_field : List ℕ → ℕ
code_length_field b = be16 b 8

-- how many bytes a parcel with so many literals and so long a code has
abbrev pub parcel_length : ℕ → ℕ → ℕ
parcel_length literals code = HEADER_BYTES + LITERAL_BYTES * literals + code

-- how many bytes a parcel has by its own header
abbrev pub stated_length : List ℕ → ℕ
stated_length b = parcel_length (literal_count_field b) (code_length_field b)

-- the header rules, in order
abbrev pub header_tests : List ℕ → List Test
header_tests b =
    test HeaderShort 0 (nat_lt (length b) HEADER_BYTES)
    ∷ test KindUnknown 0 (nat_lt 1 (kind_field b))
    ∷ test LiteralsTooMany 2 (nat_lt MAX_LITERALS (literal_count_field b))
    ∷ test CodeTooLong 8 (nat_lt MAX_CODE (code_length_field b))
    ∷ test LengthWrong 8 (not (length b == stated_length b))
    ∷ []

-- the header that bytes have, whatever they are
abbrev pub header : List ℕ → ParcelHeader
header b = record {
  kind = kind_in b;
  literal_count = literal_count_field b;
  flags = flags_field b;
  code_length = code_length_field b;
}

-- the header of bytes that keep the header rules, or the first rule that they break
abbrev pub parcel_header : List ℕ → Result ParcelHeader Fault
parcel_header b = unless (first (header_tests b)) (header b)

-- what the header rules leave of a header in n bytes
pub record HeaderFitsIn (h : ParcelHeader) (n : ℕ) : Type 0 where
  pub ends : parcel_length h.literal_count h.code_length ≡ n
  pub few : h.literal_count ≤ MAX_LITERALS
  pub short : h.code_length ≤ MAX_CODE

-- the number in the w bits of x from bit low on
abbrev pub bits : ℕ → ℕ → ℕ → ℕ
bits x low w = x / 2 ^ low % 2 ^ w

-- a method: arguments in bits 0 to 4, a quarter of the slots in 5 to 10, locals in 11 to 16
abbrev pub method_layout : ParcelHeader → Layout
method_layout h = record {
  kind = Method;
  literal_count = h.literal_count;
  code_length = h.code_length;
  argument_count = bits h.flags 0 5;
  slot_count = 4 * bits h.flags 5 6;
  local_count = bits h.flags 11 6;
}

-- a block: chain use in bits 0 to 5, a quarter of the slots in 14 to 19, locals in 20 to 24,
-- arguments in 25 to 29
abbrev pub block_layout : ParcelHeader → Layout
block_layout h = record {
  kind = Block (bits h.flags 0 6);
  literal_count = h.literal_count;
  code_length = h.code_length;
  argument_count = bits h.flags 25 5;
  slot_count = 4 * bits h.flags 14 6;
  local_count = bits h.flags 20 5;
}

-- the layout of a method or a block
abbrev pub laid_as : Kind → ParcelHeader → Layout
laid_as kind.Method h = method_layout h
laid_as kind.Block h = block_layout h

-- the same, by what the header says
abbrev pub laid_out : ParcelHeader → Layout
laid_out h = laid_as h.kind h

-- whether a bit is set that has to be 0: a method's bits 17 to 31, a block's 6 to 13, 30 and 31
abbrev pub reserved_in : Kind → ℕ → Bool
reserved_in kind.Method f = not (bits f 17 15 == 0)
reserved_in kind.Block f = not (bits f 6 8 == 0) || not (bits f 30 2 == 0)

-- the same, by what the header says
abbrev pub reserved_set : ParcelHeader → Bool
reserved_set h = reserved_in h.kind h.flags

-- the flag rules, in order
abbrev pub flag_tests : ParcelHeader → List Test
flag_tests h =
    test FlagsReserved 4 (reserved_set h)
    ∷ test LocalsOverSlots 4 (nat_lt (laid_out h).slot_count (laid_out h).local_count)
    ∷ []

-- the layout of a header that keeps the flag rules, or the first that it breaks
abbrev pub flagged : ParcelHeader → Result Layout Fault
flagged h = unless (first (flag_tests h)) (laid_out h)

-- the layout of a parcel, or the first header rule or flag rule that it breaks
abbrev pub layout_of : List ℕ → Result Layout Fault
layout_of b = and_then (parcel_header b) flagged

-- the greatest height
abbrev pub limit_of : Layout → ℕ
limit_of l = l.slot_count - l.local_count

-- what the rules leave of a layout in n bytes
pub record FitsIn (l : Layout) (n : ℕ) : Type 0 where
  pub ends : parcel_length l.literal_count l.code_length ≡ n
  pub few : l.literal_count ≤ MAX_LITERALS
  pub short : l.code_length ≤ MAX_CODE
  pub low : l.slot_count ≤ MAX_SLOTS
