-- Where the next instruction leads.
use Rattle.std.proofs.Common.{◌≡◌, ℕ, ◌+◌, ◌*◌, ◌∙◌, List, Some, None, Ok, Option, ap, subst}
use Rattle.values.specs.declared.kinds.Value.{Value}
use Rattle.hosts.specs.Meaning.{Meaning, Sent}
use Rattle.parcels.specs.Parts.{Parts}
use Rattle.parcels.specs.declared.opcodes.Operation.{Operation}
use Rattle.semantics.specs.Execution.{Exec}
use Rattle.semantics.specs.Scripts.{Script, script_of, continues}
use Rattle.semantics.specs.Steps.{RunView, code_context_of, script_at}
use Rattle.semantics.specs.declared.states.State.TheVariants.{Live}
use Rattle.semantics.proofs.Operations.{Lands, leads_to}
use Rattle.semantics.proofs.Executing.{everywhere_leaf}
use Rattle.safety.specs.Ready.{Ready}
use Rattle.engine.proofs.Fetching.{need, onward}
use Rattle.engine.specs.Decoding.{outcome_of, script_in, HasDecoded, NextDecoded, ContinuesReady, PerformedNext}
use Rattle.engine.specs.declared.decoded.Decoded.{Decoded}
use Rattle.engine.specs.declared.decoded.StepResult.{StepResult}

-- the script of a decoded instruction is that of the run's next instruction
script_is : (run : RunView) (d : Decoded) → NextDecoded run d
    → script_in d ≡ script_at run.parts run.place run.height d.instruction d.operation
script_is run d n =
    ap (λ (p : Parts). script_of (code_context_of p) d.instruction d.next d.height d.operation) n.parcel
    ∙ ap (λ (q : ℕ). script_of (code_context_of run.parts) d.instruction q d.height d.operation) n.following
    ∙ ap (λ (h : ℕ). script_of (code_context_of run.parts) d.instruction (run.place + 2 * d.instruction.pairs) h d.operation) n.at

module _ {S : Type 0} (means : S → Meaning) (may : S → Sent → Value → S → Type 0) (run : RunView) where
  -- wherever the next instruction of a ready run continues, the run is ready
  pub led : (n : Option (Operation × Decoded)) (f : List Value) (s : S) (w : StepResult) (f' : List Value) (s' : S)
      → HasDecoded run n
      → (run.state ≡ Live → ∥ Ready run.parts run.variable_count run.binding_count run.place run.height ∥₁)
      → PerformedNext means may run n f s (Ok w) f' s' → ContinuesReady run w
  led None f s w f' s' n ready r p h e = absurd r
  led (Some (o, d)) f s w f' s' n ready r p h e =
      let t = ready r.0 in
      let x = subst (λ (c : Script). Exec d.parcel.literals.now means may c f s (outcome_of w) f' s') (script_is run d n.1) r.1 in
      let y = subst (λ (q : Parts). Exec q.literals means may (script_at run.parts run.place run.height d.instruction d.operation) f s (outcome_of w) f' s') n.1.parcel x in
      let l = everywhere_leaf run.parts.literals means may (λ _. Unit {0})
      (Lands run.parts run.place run.height d.instruction d.operation)
      (script_at run.parts run.place run.height d.instruction d.operation) f s (continues p h) f' s'
      (leads_to run.parts run.place run.height d.instruction d.operation (need t n.1.stands))
      (subst (λ z. Exec run.parts.literals means may (script_at run.parts run.place run.height d.instruction d.operation) f s z f' s') e y) in
      onward t n.1.stands p h l.0 l.1
