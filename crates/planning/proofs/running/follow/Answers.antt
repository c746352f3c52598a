use Rattle.std.proofs.Common.{sym, ◌∙◌, subst}
use Rattle.semantics.specs.Steps.{CallAnswer, Step}
use Rattle.engine.specs.View.{view}
use Rattle.planning.specs.Keeping.{none, more}
use Rattle.planning.proofs.Leading.{stepped, unrefused, goes_further}
use Rattle.planning.proofs.running.follow.Goals as goal

pub loop-k-init : goal.loop-k-init
loop-k-init g c = ((λ t s₀ led. led), c.requires, none)

pub unwrap-requires : goal.unwrap-requires
unwrap-requires g c =
    rw (unrefused g.H.Host.means g.H.Host.may g.met.H.Host.kept (view c.loop-k.run) (view c.step.new.self) c.loop-k.host c.step.new.host
    c.loop-k.frame c.step.new.frame c.step.result c.loop-k.invariant.1 (sym c.state.ensures ∙ c.in-Live.is) c.step.ensures.steps)

pub loop-k-preserved : goal.loop-k-preserved
loop-k-preserved g c =
    let run = view c.loop-k.run in
    let run' = view c.step.new.self in
    let s = c.loop-k.host in
    let s' = c.step.new.host in
    let f = c.loop-k.frame in
    let f' = c.step.new.frame in
    let st = c.step.ensures.steps in (
      (λ t s₀ led. stepped g.H.Host.means g.H.Host.may run run' s s' f f' c.step.result st t s₀ (c.loop-k.invariant.0 t s₀ led)),
      goes_further g.H.Host.means g.H.Host.may run run' s s' f f' c.step.result c.step.auto.frame c.loop-k.invariant.1 st,
      more c.loop-k.invariant.2 (sym c.state.ensures ∙ c.in-Live.is)
          (subst (λ (a : CallAnswer). Step g.H.Host.means g.H.Host.may run f s a run' f' s') c.unwrap.ensures st),
    )
