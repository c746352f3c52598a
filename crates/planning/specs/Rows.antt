-- The lines of a host's cells.
use Rattle.std.specs.Prelude.{ℕ}
use Rattle.hosts.specs.Meaning.{Cell}
use Rattle.hosts.specs.declared.rows.Row.{Row}
use Rattle.planning.specs.declared.texts.CellText.{CellText}

-- the line of cell i of a row
abbrev pub cell_line : Row → ℕ → Cell → CellText
cell_line w i c = record { row = w; number = i; trusted = c.trusted; value = c.value }
