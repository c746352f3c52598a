use Rattle.std.proofs.Common.{[], false, refl, sym}
use Rattle.safety.specs.Histories.{altered}
use Rattle.callers.proofs.Exactness.{inexact, untouched}
use Rattle.callers.proofs.relying.step_in_place.Goals as goal

pub returns-clause-goes_on : goal.returns-clause-goes_on
returns-clause-goes_on g c =
    λ exact s₀ t rs k e past held.
    c.step.ensures.extends false s₀ rs k (altered refl (inexact g.H.Host.means g.H.Host.may past) (sym e)) held

pub returns-clause-untouched : goal.returns-clause-untouched
returns-clause-untouched g c = λ s₀ s past. untouched g.H.Host.means g.H.Host.may s₀ s [] refl past
