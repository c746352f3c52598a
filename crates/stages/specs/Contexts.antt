-- What the rules look at of a context that the code holds, with its host.
use Rattle.std.specs.Prelude.{Ok, Err, Result}
use Rattle.values.specs.declared.faults.Fault.{Fault}
use Rattle.hosts.specs.Meaning.{Meaning, marks_of}
use Rattle.parcels.specs.Parts.{parts}
use Rattle.stages.specs.Encoding.{Context, context}
use Rattle.stages.specs.declared.contexts.Context.{Context as HostContext}

-- the context over what its host means
abbrev pub context_of : {H : Type 0} → (H → Meaning) → HostContext H → Context
context_of means c = context (parts c.parcel) (marks_of (means c.host.now)) c.trusted

-- a call's answer, with what the rules look at of the context in it
abbrev pub as_context : {H : Type 0} → (H → Meaning)
    → Result (HostContext H) Fault → Result Context Fault
as_context means (Ok c) = Ok (context_of means c)
as_context means (Err f) = Err f
