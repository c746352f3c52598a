-- What makes the next step of a live run possible, whatever the marks and the trust.
use Rattle.std.specs.Prelude.{◌≡◌, ℕ, ◌*◌, ◌<◌, ◌≤◌, true, false, length, replicate, Some}
use Rattle.hosts.specs.Meaning.{Marks}
use Rattle.parcels.specs.Layouts.{limit_of}
use Rattle.parcels.specs.Literals.{literal}
use Rattle.parcels.specs.Parts.{Parts}
use Rattle.parcels.specs.declared.literals.Literal.TheVariants.{Binding}
use Rattle.parcels.specs.declared.literals.TheConstants.{LITERAL_BYTES}
use Rattle.stages.specs.Encoding.{context}
use Rattle.soundness.specs.Paths.{Path, ValidHeights}
use Rattle.soundness.specs.Rules.{ValidEncoding}

-- so many variables and bindings, all open
abbrev pub unmarked : (variables bindings : ℕ) → Marks
unmarked v b = record { variables = replicate v false; bindings = replicate b false }

-- the parcel keeps the rules with the noted counts, and a path reaches the place at the height
pub record Ready (p : Parts) (variables bindings place height : ℕ) : Type 0 where
  pub pool : length p.literals ≡ LITERAL_BYTES * p.layout.literal_count
  pub bound : (k n : ℕ) → literal p.literals k ≡ Some (Binding n) → n < bindings
  pub fits : p.layout.local_count ≤ p.layout.slot_count
  pub encoding : ValidEncoding (context p (unmarked variables bindings) true)
  pub heights : ValidHeights p.code (limit_of p.layout)
  pub path : Path p.code place height
