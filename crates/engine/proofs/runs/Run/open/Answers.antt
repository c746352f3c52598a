use Rattle.std.proofs.Common.{◌≡◌, ℕ, Bool, List, length, set, Some, sym, ap, ◌∙◌, subst, rules}
use Rattle.values.specs.declared.kinds.Value.{Value}
use Rattle.hosts.specs.Meaning.{Meaning, Sent}
use Rattle.parcels.specs.Parts.{Parts, parts}
use Rattle.stages.proofs.Exits.{passed_on}
use Rattle.stages.specs.Check.{question_on}
use Rattle.semantics.specs.Steps.{RunView}
use Rattle.semantics.specs.Opening.{Opened, opened}
use Rattle.safety.specs.Histories.{ExtendsHistory, History, called, opens}
use Rattle.safety.specs.Ready.{Ready}
use Rattle.engine.specs.View.{view}
use Rattle.engine.proofs.Accepting.{accepted_begins, same_parts, opened_so, opened_is}
use Rattle.engine.proofs.runs.Run.open.Given.{Over}
use Rattle.engine.proofs.runs.Run.open.Goals as goal
use Rattle.engine.proofs.runs.Run.open.Goals.{After-begin}

pub begin-requires : goal.begin-requires
begin-requires g c =
    let m = g.H.Host.means c.args.host.now in
    let e = c.in_ok-top.ensures.verdict in
    subst (λ (p : Parts). Ready p (length m.variables) (length m.bindings) 0 0)
    (sym (same_parts m c.args.trusted c.args.bytes.now c.args.heights.now c.args.waiting.now c.in_ok-top.top e (parts c.in-Ok.parcel) c.in-Ok.ensures.answer))
    (accepted_begins m c.args.trusted c.args.bytes.now c.args.heights.now c.args.waiting.now c.in_ok-top.top e)

-- an opening extends a history
extends : {S : Type 0} (means : S → Meaning) (may : S → Sent → Value → S → Type 0) (s : S) (t : Bool)
    (b hs ws : List ℕ) (args f : List Value) (run run' : RunView)
    → (opened (question_on (means s) t b hs ws) args f run).run ≡ run'
    → ExtendsHistory means may s run s (Some run')
extends means may s t b hs ws args f run run' e = λ exact s₀ rs k past held.
    subst (λ (r : RunView). History means may exact s₀ s (set rs k (Some r))) e
    (called past (opens k run held t b hs ws args f))

-- what opening is
abbrev pub said : (g : Over) → After-begin g → Opened
said g c =
    opened (question_on (g.H.Host.means c.args.host.now) c.args.trusted c.args.bytes.now c.args.heights.now c.args.waiting.now)
    c.args.arguments.now c.args.frame.now (view c.args.self.now)

-- it is by what beginning answers
opening : (g : Over) (c : After-begin g) → opened_so c.begin.result c.in_ok-top.top (parts c.in-Ok.parcel) (g.H.Host.means c.args.host.now) c.args.arguments.now c.args.frame.now (view c.args.self.now) ≡ said g c
opening g c =
    opened_is (g.H.Host.means c.args.host.now) c.args.trusted c.args.bytes.now c.args.heights.now c.args.waiting.now c.in_ok-top.top c.in_ok-top.ensures.verdict
    c.args.arguments.now c.args.frame.now (view c.args.self.now) c.begin.result (parts c.in-Ok.parcel) c.in-Ok.ensures.answer c.begin.ensures.answer

-- the run and the frame are then those of the opening
run_is : (g : Over) (c : After-begin g) → view c.begin.new.self ≡ (said g c).run
run_is g c = c.begin.ensures.run ∙ ap (λ (o : Opened). o.run) (opening g c)

frame_is : (g : Over) (c : After-begin g) → c.begin.new.frame ≡ (said g c).frame
frame_is g c = c.begin.ensures.frame ∙ ap (λ (o : Opened). o.frame) (opening g c)

pub returns-in_err-begin-clause-answer : goal.returns-in_err-begin-clause-answer
returns-in_err-begin-clause-answer g c =
    let a = ap (λ (o : Opened). o.answer) (opening g (goal.at.returns-in_err-begin-clause-answer g c).After-begin) in
    passed_on _ _ _ c.from_residual-in_err-begin.ensures.1 (rw c.in_err-begin.was at a)

pub returns-in_err-begin-clause-run : goal.returns-in_err-begin-clause-run
returns-in_err-begin-clause-run g c = run_is g (goal.at.returns-in_err-begin-clause-run g c).After-begin

pub returns-in_err-begin-clause-frame : goal.returns-in_err-begin-clause-frame
returns-in_err-begin-clause-frame g c = frame_is g (goal.at.returns-in_err-begin-clause-frame g c).After-begin

pub returns-clause-answer : goal.returns-clause-answer
returns-clause-answer g c =
    let a = ap (λ (o : Opened). o.answer) (opening g (goal.at.returns-clause-answer g c).After-begin) in search rules

pub returns-clause-run : goal.returns-clause-run
returns-clause-run g c = run_is g (goal.at.returns-clause-run g c).After-begin

pub returns-clause-frame : goal.returns-clause-frame
returns-clause-frame g c = frame_is g (goal.at.returns-clause-frame g c).After-begin

pub returns-clause-extends : goal.returns-clause-extends
returns-clause-extends g c =
    extends g.H.Host.means g.H.Host.may c.args.host.now c.args.trusted c.args.bytes.now c.args.heights.now c.args.waiting.now c.args.arguments.now c.args.frame.now (view c.args.self.now) _
    (sym (run_is g (goal.at.returns-clause-extends g c).After-begin))
