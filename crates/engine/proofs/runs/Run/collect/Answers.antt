use Rattle.std.proofs.Common.{refl, rules}
use Rattle.safety.specs.Histories.{called, collects}
use Rattle.engine.specs.View.{view}
use Rattle.engine.proofs.runs.Run.collect.Goals as goal

pub returns-in-Ended-clause-extends : goal.returns-in-Ended-clause-extends
returns-in-Ended-clause-extends g c = λ exact s₀ rs k past held. called past (collects k (view c.args.self) held)

pub returns-in-Live : goal.returns-in-Live
returns-in-Live g c = record {
  state = refl;
  value = search rules;
  extends = λ exact s₀ rs k past held. called past (collects k (view c.args.self) held);
}
