use Rattle.std.proofs.Common.{ℕ, List, length, Option, sym, ap, ◌∙◌, subst, arith}
use Rattle.stages.specs.Check.{question_on}
use Rattle.callers.specs.Judging.{HeightReached}
use Rattle.callers.proofs.Starting.{accepted}
use Rattle.callers.proofs.JudgingVerdicts.{code_read, reached_there, not_reached, starts_there, comes_there}
use Rattle.callers.proofs.judging.height_reached.Goals.{then-place-ne0-via-then-place-ne0, then-place-ne0-via-else-place-ne0+then-place-parcel}
use Rattle.callers.proofs.judging.height_reached.Goals as goal

pub returns-then-place-ne0-clause-reached : goal.returns-then-place-ne0-clause-reached
returns-then-place-ne0-clause-reached g c =
    let q = question_on (g.H.Host.means c.args.host.now) c.args.trusted c.args.bytes.now c.args.heights.now c.args.waiting.now in
    let e = accepted c.check.result c.in_ok-ok.field-0 (sym c.ok.ensures.value ∙ c.in_ok-ok.was) in
    let code = code_read c.args.bytes.now c.read.result c.in_ok-parcel.parcel (sym c.ok-2.ensures.value ∙ c.in_ok-parcel.was) c.read.ensures.answer in
    let long = ap (λ (x : List ℕ). length x) code in
    not_reached q _ c.check.ensures.means c.in_ok-ok.field-0 e c.args.place
    (λ even below. elim c.then-place-ne0.branch [
      | then-place-ne0-via-then-place-ne0 w ↦ w.if-place-ne0.true even
      | then-place-ne0-via-else-place-ne0+then-place-parcel w ↦ omega (arith, long, below, w.if-place-parcel.true)
    ])

pub returns-clause-reached : goal.returns-clause-reached
returns-clause-reached g c =
    let q = question_on (g.H.Host.means c.args.host.now) c.args.trusted c.args.bytes.now c.args.heights.now c.args.waiting.now in
    let e = accepted c.check.result c.in_ok-ok.field-0 (sym c.ok.ensures.value ∙ c.in_ok-ok.was) in
    let code = code_read c.args.bytes.now c.read.result c.in_ok-parcel.parcel (sym c.ok-2.ensures.value ∙ c.in_ok-parcel.was) c.read.ensures.answer in
    let long = ap (λ (x : List ℕ). length x) code in
    subst (λ (r : Option ℕ). HeightReached q c.args.place r) (sym c.height_of_pair.ensures)
    (reached_there q _ c.check.ensures.means c.in_ok-ok.field-0 e c.args.place c.if-place-ne0.false (omega (arith, long, c.if-place-parcel.false)))

pub returns-clause-starts : goal.returns-clause-starts
returns-clause-starts g c =
    let q = question_on (g.H.Host.means c.args.host.now) c.args.trusted c.args.bytes.now c.args.heights.now c.args.waiting.now in
    let e = accepted c.check.result c.in_ok-ok.field-0 (sym c.ok.ensures.value ∙ c.in_ok-ok.was) in
    starts_there q _ c.check.ensures.means c.in_ok-ok.field-0 e c.args.place c.height_of_pair.result (returns-clause-reached g c)

pub returns-clause-comes : goal.returns-clause-comes
returns-clause-comes g c =
    let q = question_on (g.H.Host.means c.args.host.now) c.args.trusted c.args.bytes.now c.args.heights.now c.args.waiting.now in
    comes_there q _ c.check.ensures.means c.args.place c.height_of_pair.result (returns-clause-reached g c)
