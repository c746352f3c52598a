use Rattle.std.proofs.Common.{◌≡◌, ℕ, false, List, Ok, Err, sym, ap, ◌∙◌, subst, arith, rules}
use Rattle.values.specs.Faults.{fault}
use Rattle.values.specs.declared.faults.Fault.{Fault}
use Rattle.parcels.specs.Reading.{Reading, as_reading, read_at, unreadable_rule, following_place}
use Rattle.stages.specs.Contexts.{context_of}
use Rattle.stages.proofs.Exits.{passed_on}
use Rattle.stages.proofs.SweepSteps.{SweptSofar, SweepAt, start, ended, sweep_at, unread, broken, onward, got, lost}
use Rattle.stages.proofs.contexts.Context.sweep.Given as given
use Rattle.stages.proofs.contexts.Context.sweep.Goals as goal
use Rattle.stages.proofs.contexts.Context.sweep.Goals.{After-advance, In_ok-instruction}

pub loop-reader-init : goal.loop-reader-init
loop-reader-init g c =
    let x = context_of g.H.Host.means c.args.self.now in
    let first = sym c.at-reader.ensures.place in
    (subst (λ (p : ℕ). SweptSofar x false p) first (start x), c.at-reader.ensures.code)

pub returns : goal.returns
returns g c = ended _ _ _ c.loop-reader.invariant.0 c.loop-reader-test.false

-- r is read at the reader's place
abbrev Reads : (g : given.Over) → After-advance g → Reading → Type 0
Reads g c r =
    SweepAt (context_of g.H.Host.means c.args.self.now)
    c.loop-reader.after_block c.loop-reader.reader.place r

-- it is what the reader answers
at : (g : given.Over) (c : After-advance g) → Reads g c (as_reading c.advance.result)
at g c =
    let p = c.loop-reader.reader.place in
    sweep_at _ _ p (as_reading c.advance.result)
    c.loop-reader.invariant.0 c.loop-reader-test.true
    (c.advance.ensures.reads ∙ ap (λ (l : List ℕ). read_at l p) c.loop-reader.invariant.1)

pub returns-in_err-instruction : goal.returns-in_err-instruction
returns-in_err-instruction g c =
    let d = (goal.at.returns-in_err-instruction g c).After-advance in
    let p = c.loop-reader.reader.place in
    let f = c.in_err-instruction.field-0.0 in
    let l = lost c.advance.result f c.in_err-instruction.ensures.cases in
    let t = subst (λ r. Reads g d (as_reading r)) l.1 (at g d) in
    let h = l.2 in
    let is : f ≡ fault (unreadable_rule l.0) p = search rules in
    passed_on _ _ _ c.from_residual.ensures.1 (ap Err is ∙ unread l.0 t)

-- the instruction that it answers
read : (g : given.Over) (c : In_ok-instruction g)
    → c.advance.result ≡ Ok (c.in_ok-instruction.instruction, c.in_ok-instruction.field-0-1)
read g c =
    got Fault c.advance.result
    (c.in_ok-instruction.instruction, c.in_ok-instruction.field-0-1)
    c.in_ok-instruction.ensures.cases

-- that is read at the reader's place
read_there : (g : given.Over) (c : In_ok-instruction g)
    → Reads g (goal.at.In_ok-instruction g c).After-advance
    (Ok (c.in_ok-instruction.instruction, c.in_ok-instruction.field-0-1.now))
read_there g c =
    let d = (goal.at.In_ok-instruction g c).After-advance in
    subst (λ r. Reads g d (as_reading r)) (read g c) (at g d)

-- the place after it
next : (g : given.Over) (c : In_ok-instruction g)
    → c.advance.new.self.place
    ≡ following_place c.loop-reader.reader.place c.in_ok-instruction.instruction
next g c = let is = read g c in rw is at c.advance.ensures.place

pub returns-in_err-check_site : goal.returns-in_err-check_site
returns-in_err-check_site g c =
    let d = (goal.at.returns-in_err-check_site g c).In_ok-instruction in
    passed_on _ _ _ c.from_residual-in_err-check_site.ensures.1
    (broken c.in_ok-instruction.instruction c.in_ok-instruction.field-0-1.now
    (read_there g d) c.in_err-check_site.field-0.0
    (rw (← next g d) c.in_err-check_site.ensures))

pub loop-reader-preserved : goal.loop-reader-preserved
loop-reader-preserved g c =
    let d = (goal.at.loop-reader-preserved g c).In_ok-instruction in
    let i = c.in_ok-instruction.instruction in
    let is = read g d in
    let e = next g d in
    let within = rw is at c.advance.ensures.within in
    let s =
    onward i c.in_ok-instruction.field-0-1.now (read_there g d)
    (rw (← e) c.in_ok-check_site.ensures) (omega (arith, e, within.0))
    in (
      rw (e, c.pushes_block-after_block.ensures) s,
      c.advance.ensures.code ∙ c.loop-reader.invariant.1,
    )
