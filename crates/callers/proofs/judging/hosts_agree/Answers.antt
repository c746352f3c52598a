use Rattle.std.proofs.Common.{replicate, sym, ap, ◌∙◌}
use Rattle.stages.specs.Check.{Checked}
use Rattle.stages.specs.declared.heights.TheConstants.{MAX_PAIRS}
use Rattle.callers.proofs.judging.hosts_agree.Goals as goal

pub returns : goal.returns
returns g c = λ e.
    let same =
    c.check-first.ensures.kinds (g.G.Host.means c.args.one.now) (g.H.Host.means c.args.other.now) e
    c.args.trusted c.args.bytes.now (replicate MAX_PAIRS 0) (replicate MAX_PAIRS 0) in
    c.agree.ensures
    (c.check-first.ensures.verdict ∙ ap (λ (x : Checked). x.verdict) same ∙ sym c.check-second.ensures.verdict)
