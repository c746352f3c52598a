use Rattle.std.proofs.Common.{replicate}
use Rattle.stages.specs.declared.heights.TheConstants.{MAX_PAIRS}
use Rattle.engine.specs.View.{view}
use Rattle.planning.specs.Keeping.{StaysWithin}
use Rattle.planning.proofs.Leading.{going, within_led}
use Rattle.planning.proofs.running.play.Given.{Over}
use Rattle.planning.proofs.running.play.Goals as goal
use Rattle.planning.proofs.running.play.Goals.{After-follow}

pub follow-requires : goal.follow-requires
follow-requires g c =
    going g.H.Host.means g.H.Host.may c.args.plan.now.trusted c.args.host.now c.args.bytes.now c.deref.result.now c.args.frame.now
    c.open.new.frame (replicate MAX_PAIRS 0) (replicate MAX_PAIRS 0) (view c.empty-run.result) (view c.open.new.self) c.open.result c.in_default.field-0
    c.empty-run.ensures.run c.open.ensures.answer c.in_default.is c.open.ensures.run c.open.auto.frame

-- following stays within what the plan allows
kept_within : (g : Over) (c : After-follow g) → StaysWithin c.args.plan.now (g.H.Host.means c.args.host.now) (g.H.Host.means c.follow.new.host)
kept_within g c =
    within_led g.H.Host.means g.H.Host.may g.met.H.Host.kept c.args.plan.now c.args.host.now c.follow.new.host c.args.bytes.now
    c.deref.result.now c.args.frame.now (replicate MAX_PAIRS 0) (replicate MAX_PAIRS 0) (view c.empty-run.result) (view c.open.new.self) (view c.follow.new.run)
    c.empty-run.ensures.run c.open.ensures.run c.follow.ensures.leads

pub returns-in_err-ran-clause-within : goal.returns-in_err-ran-clause-within
returns-in_err-ran-clause-within g c = kept_within g (goal.at.returns-in_err-ran-clause-within g c).After-follow

pub returns-clause-within : goal.returns-clause-within
returns-clause-within g c = kept_within g (goal.at.returns-clause-within g c).After-follow
