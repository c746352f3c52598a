-- One cell of a week file, in its six bytes.
use Rattle.std.specs.Prelude.{ℕ, ◌+◌, ◌/◌, ◌%◌, ◌^◌, ◌<◌, Bool, true, false, not, List, [], ◌∷◌, ◌++◌, All, take, drop, is_some, Some, None, Option, ◌==◌, if◌then◌else◌}
use Rattle.std.specs.Option.{unwrap_or}
use Rattle.values.specs.Bytes.{at, be32}
use Rattle.values.specs.Kinds.{kind_number, number_field, value_of}
use Rattle.values.specs.declared.kinds.Value.{Value}
use Rattle.values.specs.declared.kinds.Value.TheVariants.{Nil}
use Rattle.hosts.specs.Meaning.{Cell}
use Rattle.week_file.specs.declared.cells.FileCell.{FileCell}
use Rattle.week_file.specs.declared.cells.TheConstants.{CELL_BYTES}

-- numbers that are bytes
abbrev pub AreBytes : List ℕ → Type 0
AreBytes b = All (λ x. x < 2 ^ 8) b

-- what the six bytes of a cell say, right or wrong
pub record RawCell : Type 0 where
  pub mark : ℕ
  pub kind : ℕ
  pub number : ℕ

-- the mark, the kind and the number field of the cell that begins at o
abbrev pub raw_at : List ℕ → ℕ → RawCell
raw_at b o = record { mark = at b o; kind = at b (o + 1); number = be32 b (o + 2) }

-- whether a cell with this mark is trusted, if it is a mark: 0 is open, 1 is trusted
abbrev pub trusted_by : ℕ → Option Bool
trusted_by m = if m == 0 then Some false else if m == 1 then Some true else None

-- the value of its kind and its number field, if they keep the rules
abbrev pub raw_value : RawCell → Option Value
raw_value c = value_of c.kind c.number

-- the cell with these two parts, if there are both
abbrev pub stored_by : Option Bool → Option Value → Option FileCell
stored_by (Some t) (Some v) = Some (record { trusted = t; value = v })
stored_by _ _ = None

-- the cell itself, if it keeps its rules
abbrev pub stored : RawCell → Option FileCell
stored c = stored_by (trusted_by c.mark) (raw_value c)

-- a cell keeps its rules: it has a mark and a value
abbrev pub keeps_rules : RawCell → Bool
keeps_rules c = is_some (stored c)

-- six bytes break the rules of a cell
abbrev pub breaks_rules : List ℕ → Bool
breaks_rules b = not (keeps_rules (raw_at b 0))

-- the cell itself, open where it has no mark, and nil where it has no value
abbrev pub filed : RawCell → FileCell
filed c = record {
  trusted = unwrap_or (trusted_by c.mark) false;
  value = unwrap_or (raw_value c) Nil;
}

-- the same as a host's cell
abbrev pub cell_of : RawCell → Cell
cell_of c = record { trusted = (filed c).trusted; value = (filed c).value }

-- a value in five bytes: its kind, and its number field with the most significant byte first
abbrev pub five_bytes : Value → List ℕ
five_bytes v =
    kind_number v
    ∷ number_field v / 2 ^ 24
    ∷ number_field v / 2 ^ 16 % 256
    ∷ number_field v / 2 ^ 8 % 256
    ∷ number_field v % 256
    ∷ []

-- the bytes with v in the cell that begins at o: its mark stays, and so do all bytes before and
-- after the cell
abbrev pub written : List ℕ → ℕ → Value → List ℕ
written b o v = take (o + 1) b ++ (five_bytes v ++ drop (o + CELL_BYTES) b)
