use Rattle.std.proofs.Common.{sym, ap, subst}
use Rattle.hosts.specs.Meaning.{Marks}
use Rattle.stages.specs.Check.{question, question_on, checked}
use Rattle.soundness.specs.Verdicts.{VerdictMeans}
use Rattle.soundness.proofs.Verdict.{every_verdict_means}
use Rattle.checker.proofs.checking.check.Goals as goal

pub returns : goal.returns
returns g c =
    let hs = c.args.heights.now in
    let ws = c.args.waiting.now in
    let q = question_on (g.H.Host.means c.args.host.now) c.args.trusted c.args.bytes.now hs ws in
    let v = sym c.pass_stages.ensures.verdict in
    let h = sym c.pass_stages.ensures.heights in
    let w = sym c.pass_stages.ensures.waiting in
    record {
      verdict = c.pass_stages.ensures.verdict;
      heights = c.pass_stages.ensures.heights;
      waiting = c.pass_stages.ensures.waiting;
      means =
          subst (VerdictMeans q) (λ i. record { verdict = v i; heights = h i; waiting = w i })
          (every_verdict_means q);
      kinds = λ x y e t b hs ws. ap (λ (n : Marks). checked (question n t b hs ws)) e;
    }
