-- What callers of a parcel's run can rely on.
use Rattle.std.specs.Prelude.{◌≡◌, Bool, true, false, Some, IfSome, Option}
use Rattle.std.specs.Option.{option_map}
use Rattle.semantics.specs.declared.states.State.TheVariants.{Live}
use Rattle.planning.specs.declared.options.Plan.{Plan}
use Rattle.planning.specs.declared.texts.CellText.{CellText}
use Rattle.planning.specs.declared.relying.Watched.{Watched}
use Rattle.planning.specs.declared.relying.Rest.{Rest}

-- the mark of a cell, if it is there
abbrev pub mark_seen : Option CellText → Option Bool
mark_seen c = option_map (λ t. t.trusted) c

-- a cell that was watched is there or not as before, with its mark
abbrev pub MarkStays : Watched → Type 0
MarkStays w = mark_seen w.after ≡ mark_seen w.before

-- where the plan is not trusted, a trusted cell has its value still
abbrev pub ValueStays : Plan → Watched → Type 0
ValueStays p w =
    p.trusted ≡ false → IfSome w.before (λ t. t.trusted ≡ true → w.after ≡ Some t)

-- a run that would go on has no steps left
abbrev pub Spent : Rest → Type 0
Spent r = r.state ≡ Live → r.steps ≡ 0

-- a run that has made no step of none is live at the beginning of its code
abbrev pub unstepped : Rest
unstepped = record { state = Live; place = 0; steps = 0 }
