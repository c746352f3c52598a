use Rattle.std.proofs.Common.{ℕ, List, ap, ◌∙◌}
use Rattle.stages.specs.declared.heights.TheConstants.{MAX_PAIRS}
use Rattle.listing.specs.Listed.{verdict_over}
use Rattle.listing.proofs.fixed_week.FixedWeek.verdict.Goals as goal

pub returns : goal.returns
returns c =
    c.verdict_of.ensures
    ∙ ap (λ (f : List ℕ). verdict_over f MAX_PAIRS c.args.parcel.now) c.args.self.now.known
