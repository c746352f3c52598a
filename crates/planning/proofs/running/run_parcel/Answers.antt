use Rattle.std.proofs.Common.{sym, ap, ◌∙◌}
use Rattle.listing.specs.declared.verdicts.Verdict.{Verdict}
use Rattle.planning.proofs.Turning.{handled}
use Rattle.planning.proofs.running.run_parcel.Goals as goal

pub returns-clause-handled : goal.returns-clause-handled
returns-clause-handled g c =
    handled g.H.Host.means g.H.Host.may c.args.plan.now c.args.bytes.now c.args.host.now c.play.new.host c.verdict_of-verdict.result.0
    c.deref_mut.result.now c.play.new.frame c.in_ok-outcome.outcome (ap (λ (v : Verdict). v.0) c.verdict_of-verdict.ensures)
    (sym c.if-is_err.ensures.value) (c.deref_mut.ensures.value ∙ c.in_ok-frame.ensures) c.in_ok-outcome.ensures.outcome
