-- A run of the program, as the definitions have it.
use Rattle.parcels.specs.Parts.{parts}
use Rattle.semantics.specs.Steps.{RunView}
use Rattle.engine.specs.declared.runs.Run.{Run}

-- the parcel taken apart, the counts, the state, the place and the height
abbrev pub view : Run → RunView
view r = record {
  parts = parts r.parcel;
  variable_count = r.variable_count;
  binding_count = r.binding_count;
  state = r.state;
  place = r.place;
  height = r.height;
}
