-- The parts of a parcel: its header, the literals, then the code.
use Rattle.std.specs.Prelude.{ℕ, ◌+◌, ◌*◌, List, take, drop, Ok, Err, Result}
use Rattle.values.specs.Order.{and_then}
use Rattle.values.specs.declared.faults.Fault.{Fault}
use Rattle.parcels.specs.declared.layout.Layout.{Layout}
use Rattle.parcels.specs.declared.layout.TheConstants.{HEADER_BYTES}
use Rattle.parcels.specs.declared.literals.TheConstants.{LITERAL_BYTES}
use Rattle.parcels.specs.declared.parts.Parcel.{Parcel}
use Rattle.parcels.specs.Layouts.{header, laid_out, layout_of}

-- a parcel taken apart
pub record Parts : Type 0 where
  pub layout : Layout
  pub literals : List ℕ
  pub code : List ℕ

-- the parts of bytes with a layout
abbrev pub split : List ℕ → Layout → Parts
split b l = record {
  layout = l;
  literals = take (LITERAL_BYTES * l.literal_count) (drop HEADER_BYTES b);
  code = drop (HEADER_BYTES + LITERAL_BYTES * l.literal_count) b;
}

-- the parts of a parcel, or the first header rule or flag rule that it breaks
abbrev pub parts_of : List ℕ → Result Parts Fault
parts_of b = and_then (layout_of b) (λ l. Ok (split b l))

-- the layout, the literals and the code that bytes have, whatever they are
abbrev pub parcel : List ℕ → Parts
parcel b = split b (laid_out (header b))

-- a parcel of the code, with what its references point to
abbrev pub parts : Parcel → Parts
parts p = record { layout = p.layout; literals = p.literals.now; code = p.code.now }

-- a call's answer, with what the references in it point to
abbrev pub as_parts : Result Parcel Fault → Result Parts Fault
as_parts (Ok p) = Ok (parts p)
as_parts (Err f) = Err f
