-- What is printed, in bytes.
use Rattle.std.specs.Prelude.{ℕ, Bool, if◌then◌else◌, List, ◌++◌, Ok, Err, Result, codes, decimal}
use Rattle.values.specs.Faults.{fault_text}
use Rattle.values.specs.Kinds.{value_text}
use Rattle.values.specs.declared.faults.Fault.{Fault}
use Rattle.hosts.specs.declared.rows.Row.{Row}
use Rattle.hosts.specs.declared.rows.Row.TheVariants.{Variables, Bindings}
use Rattle.parcels.specs.declared.opcodes.Ending.{Ending}
use Rattle.parcels.specs.declared.opcodes.Ending.TheVariants.{Return, MethodReturn}
use Rattle.semantics.specs.declared.states.State.{State}
use Rattle.semantics.specs.declared.states.State.TheVariants.{Live, Ended, Stopped}
use Rattle.semantics.specs.declared.states.Stop.TheVariants.{NotUnderstood, NoBlock}
use Rattle.planning.specs.declared.options.Awaited.{Awaited}
use Rattle.planning.specs.declared.options.Awaited.TheVariants.{Steps, Argument}
use Rattle.planning.specs.declared.texts.StepText.{StepText}
use Rattle.planning.specs.declared.texts.Outcome.{Outcome}
use Rattle.planning.specs.declared.texts.Ran.{Ran}
use Rattle.planning.specs.declared.texts.CellText.{CellText}

-- a step that is about to be made
abbrev pub step_text : StepText → List ℕ
step_text t =
    codes "step " ++ (decimal t.number ++ (codes ": place " ++ (decimal t.place
    ++ (codes " height " ++ (decimal t.height ++ (codes " opcode " ++ decimal t.opcode))))))

-- an end of a run
abbrev pub ending_text : Ending → List ℕ
ending_text Return = codes "return"
ending_text MethodReturn = codes "method return"

-- a run in a state at a place after k steps
abbrev pub state_text : State → ℕ → ℕ → List ℕ
state_text Live p k =
    codes "live at " ++ (decimal p ++ (codes " after " ++ (decimal k ++ codes " steps")))
state_text (Ended e v) p k =
    codes "ended by " ++ (ending_text e ++ (codes " with " ++ (value_text v
    ++ (codes " after " ++ (decimal k ++ codes " steps")))))
state_text (Stopped (NotUnderstood n)) p k =
    codes "stopped at " ++ (decimal p ++ (codes ", message " ++ (decimal n
    ++ (codes " not understood, after " ++ (decimal k ++ codes " steps")))))
state_text (Stopped NoBlock) p k =
    codes "stopped at " ++ (decimal p ++ (codes ", no block, after " ++ (decimal k ++ codes " steps")))

-- how an opened parcel ran
abbrev pub ran_text : Ran → List ℕ
ran_text r = state_text r.state r.place r.steps

-- how it ran, or why it was not opened
abbrev pub ran_or_refused : Result Ran Fault → List ℕ
ran_or_refused (Ok r) = ran_text r
ran_or_refused (Err f) = fault_text f

-- what came of an accepted parcel
abbrev pub outcome_text : Outcome → List ℕ
outcome_text o = ran_or_refused o.0

-- a row of cells
abbrev pub row_text : Row → List ℕ
row_text Variables = codes "variable"
row_text Bindings = codes "binding"

-- a mark, by whether it is trusted
abbrev pub mark_text : Bool → List ℕ
mark_text b = if b then codes "trusted" else codes "open"

-- a cell of a host
abbrev pub cell_text : CellText → List ℕ
cell_text t =
    row_text t.row ++ (codes " " ++ (decimal t.number ++ (codes ": "
    ++ (mark_text t.trusted ++ (codes " " ++ value_text t.value)))))

-- an option whose number is not there, or is none
abbrev pub awaited_text : Awaited → List ℕ
awaited_text Steps = codes "--steps: no count"
awaited_text Argument = codes "--argument: no number"
