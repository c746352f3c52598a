use Rattle.std.proofs.Common.{◌≡◌, ℕ, List, Some, None, Option, refl, sym, ap, subst}
use Rattle.std.specs.Option.{option_map}
use Rattle.values.specs.declared.kinds.Value.{Value}
use Rattle.hosts.specs.Meaning.{Meaning, Sent, cell_value}
use Rattle.hosts.specs.declared.rows.Row.TheVariants.{Bindings}
use Rattle.parcels.specs.Literals.{literal, binding_of}
use Rattle.parcels.specs.Parts.{Parts, parts}
use Rattle.parcels.specs.declared.opcodes.Operation.{Operation}
use Rattle.parcels.specs.declared.opcodes.Source.{Source}
use Rattle.parcels.specs.declared.opcodes.Source.TheVariants as source
use Rattle.parcels.specs.declared.reading.Instruction.{Instruction}
use Rattle.semantics.specs.Scripts.{Script, act, read_row, given, from_source, Outcome, script_of, pushing}
use Rattle.semantics.specs.Execution.{Exec}
use Rattle.semantics.specs.Steps.{code_context_of}
use Rattle.engine.specs.Decoding.{outcome_of, source_value}
use Rattle.engine.proofs.decoded.Decoded.push_from.Goals as goal

module _ {S : Type 0} (means : S → Meaning) (may : S → Sent → Value → S → Type 0) (p : Parts)
    (f : List Value) (s : S) (o : Outcome) (f' : List Value) (s' : S) where
  -- what comes of a script
  abbrev Comes : Script → Type 0
  Comes c = Exec p.literals means may c f s o f' s'

  -- through the number of a binding
  bound : (v : Value) (b : Option ℕ) (k : Value → Script)
      → Some v ≡ option_map (cell_value (means s).bindings) b
      → Comes (k v) → Comes (given b (λ n. act (read_row Bindings n) k))
  bound v None k q r = absurd cc
  bound v (Some n) k q r = subst (λ (x : Option Value). Comes (given x k)) q r

  -- going on with the value of a source is what comes of the source's script
  sourced : (i : Instruction) (next h : ℕ) (v : Value) (x : Source) (k : Value → Script)
      → Some v ≡ source_value p i x f (means s)
      → Comes (k v) → Comes (from_source (code_context_of p) i next h x k)
  sourced i next h v source.Binding k q r = bound v (binding_of (literal p.literals i.argument)) k q r
  sourced i next h v x k q r = subst (λ (y : Option Value). Comes (given y k)) q r

pub returns : goal.returns
returns g c =
    let means = g.H.Host.means in
    let d = c.args.self.now in
    let on = ap outcome_of c.push.ensures.result in
    subst (λ (x : Operation). Exec (parts d.parcel).literals means g.H.Host.may (script_of (code_context_of (parts d.parcel)) d.instruction d.next d.height x) c.args.frame.now c.args.host.now (outcome_of c.push.result) c.push.new.frame c.args.host.now)
    (sym c.requires.is)
    (sourced means g.H.Host.may (parts d.parcel) c.args.frame.now c.args.host.now (outcome_of c.push.result) c.push.new.frame c.args.host.now
    d.instruction d.next d.height c.value_from-v.result c.args.source (pushing (code_context_of (parts d.parcel)) d.instruction d.next d.height)
    c.value_from-v.ensures (on, c.push.ensures.frame, refl))
