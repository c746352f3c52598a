-- What a step is about to meet.
use Rattle.std.specs.Prelude.{ℕ, Some, None, Ok, Err, Option}
use Rattle.parcels.specs.Reading.{Reading, read_at}
use Rattle.semantics.specs.Steps.{RunView}
use Rattle.planning.specs.declared.texts.StepText.{StepText}

-- step n of a run by what is read at its place
abbrev pub text_of : ℕ → RunView → Reading → Option StepText
text_of n run (Ok p) = Some (record {
  number = n;
  place = run.place;
  height = run.height;
  opcode = p.0.opcode;
})
text_of n run (Err e) = None

-- step n of a run: the place, the height, and the opcode of the instruction that is read there
abbrev pub next_text : ℕ → RunView → Option StepText
next_text n run = text_of n run (read_at run.parts.code run.place)
