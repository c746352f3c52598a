-- What the counting host means.
use Rattle.std.specs.Prelude.{◌≡◌, ◌≤◌, Bool, [], length}
use Rattle.std.proofs.Common.{ap, arith}
use Rattle.values.specs.declared.kinds.Value.{Value}
use Rattle.values.specs.declared.kinds.Value.TheVariants.{Nil}
use Rattle.hosts.specs.Meaning.{Meaning, Kept, row_of}
use Rattle.hosts.specs.declared.rows.Row.{Row}
use Rattle.hosts.specs.declared.rows.Row.TheVariants.{Variables, Bindings}
use Rattle.hosts.specs.declared.rows.TheConstants.{MAX_CELLS}
use Rattle.hosts.proofs.Cells.{kept_same}

-- it has no cells, its receiver is nil, and it understands every message or none
abbrev pub counting : Bool → Meaning
counting b = record { receiver = Nil; variables = []; bindings = []; understands = λ _. b }

-- what may come of a message: nil, and the host understands as many as before
abbrev pub Counted : Bool → Value → Bool → Type 0
Counted a v b = (v ≡ Nil) × (b ≡ a)

pub counting_kept : (a b : Bool) (v : Value) → Counted a v b → Kept (counting a) (counting b)
counting_kept a b v h = kept_same (counting a) (counting b) (ap counting h.1)

-- neither row has a cell
pub counting_few : (a : Bool) (row : Row) → length (row_of (counting a) row) ≤ MAX_CELLS
counting_few a Variables = omega arith
counting_few a Bindings = omega arith
