use Rattle.std.proofs.Common.{sym, ◌∙◌}
use Rattle.parcels.specs.Parts.{parcel}
use Rattle.callers.proofs.Starting.{accepted}
use Rattle.callers.proofs.JudgingVerdicts.{same_greatest, heights_same}
use Rattle.callers.proofs.judging.same_heights.Goals as goal

pub returns-clause-greatest : goal.returns-clause-greatest
returns-clause-greatest g c =
    let e = accepted c.check.result c.in_ok-top.top (sym c.ok.ensures.value ∙ c.in_ok-top.was) in
    let d = accepted c.check-2.result c.in_ok-other.other (sym c.ok-2.ensures.value ∙ c.in_ok-other.was) in
    same_greatest (parcel c.args.bytes.now).code c.check.new.heights c.check-2.new.heights c.in_ok-top.top c.in_ok-other.other
    (c.check.ensures.means.no_others c.in_ok-top.top e) (c.check-2.ensures.means.heights c.in_ok-other.other d)

pub returns-clause-heights : goal.returns-clause-heights
returns-clause-heights g c =
    let e = accepted c.check.result c.in_ok-top.top (sym c.ok.ensures.value ∙ c.in_ok-top.was) in
    let d = accepted c.check-2.result c.in_ok-other.other (sym c.ok-2.ensures.value ∙ c.in_ok-other.was) in
    heights_same (parcel c.args.bytes.now).code c.check.new.heights c.check-2.new.heights c.in_ok-top.top c.in_ok-other.other
    (c.check.ensures.means.no_others c.in_ok-top.top e) (c.check-2.ensures.means.heights c.in_ok-other.other d)
