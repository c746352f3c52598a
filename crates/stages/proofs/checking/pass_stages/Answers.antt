use Rattle.std.proofs.Common.{◌/◌, List, ℕ, ◌++◌, length, drop, ap, ◌∙◌}
use Rattle.stages.specs.Check.{question_on, Checked}
use Rattle.stages.proofs.Exits.{passed_on}
use Rattle.stages.proofs.Numbers.{check_numbers}
use Rattle.stages.proofs.Whole.{by_context}
use Rattle.stages.proofs.checking.pass_stages.Goals as goal

pub returns-in_err-context : goal.returns-in_err-context
returns-in_err-context g c =
    let hs = c.args.heights.now in
    let ws = c.args.waiting.now in
    let q = question_on (g.H.Host.means c.args.host.now) c.args.trusted c.args.bytes.now hs ws in
    let e = by_context q _ c.in_err-context.ensures.answer in
    record {
      verdict = passed_on _ _ _ c.from_residual.ensures.1 (ap (λ (k : Checked). k.verdict) e);
      heights = ap (λ (k : Checked). k.heights) e;
      waiting = ap (λ (k : Checked). k.waiting) e;
      numbers = check_numbers;
    }

pub returns : goal.returns
returns g c =
    let hs = c.args.heights.now in
    let ws = c.args.waiting.now in
    let n = length c.in_ok-context.context.parcel.code.now / 2 in
    let q = question_on (g.H.Host.means c.args.host.now) c.args.trusted c.args.bytes.now hs ws in
    let e = by_context q _ c.in_ok-context.ensures.answer in
    record {
      verdict = c.conclude.ensures.verdict ∙ ap (λ (k : Checked). k.verdict) e;
      heights =
          ap (λ (l : List ℕ). l ++ drop n hs) c.conclude.ensures.heights
          ∙ ap (λ (k : Checked). k.heights) e;
      waiting =
          ap (λ (l : List ℕ). l ++ drop n ws) c.conclude.ensures.waiting
          ∙ ap (λ (k : Checked). k.waiting) e;
      numbers = check_numbers;
    }
