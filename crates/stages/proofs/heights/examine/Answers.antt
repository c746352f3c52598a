use Rattle.std.proofs.Common.{◌≡◌, ◌+◌, ◌-◌, ◌*◌, ◌/◌, ◌<◌, true, length, get_or, set, is_ok, Some, None, Err, ap, ◌∙◌, ⊎_elim, arith, length-set, rules}
use Rattle.std.proofs.lemmas.List.{get_or_read}
use Rattle.std.proofs.lemmas.Bool.{cond-true, lt-ltb}
use Rattle.stages.specs.Examination.{height_after, examined}
use Rattle.stages.proofs.Worklist.{Taken, Reaching, start, take, none, low, high, reaching, past, other, known, new, skip, again, fault_reached, moved}
use Rattle.stages.proofs.heights.examine.Goals as goal
use Rattle.stages.proofs.heights.examine.Goals.{In-Some, Else-after-limit, in-Some-to+else-s-code+then-heights-s, in-Some-to+else-s-code+else-heights-s+else-heights-s-2, in_default-to}

pub examine-init : goal.examine-init
examine-init c =
    start c.args.code.now c.args.limit c.args.heights.now c.args.waiting.now
    (omega arith) (omega arith)

-- the newest waiting place is taken off
taken : (c : In-Some)
    → Taken c.args.code.now c.args.limit (examined c.args.code.now c.args.limit c.args.heights.now)
    c.examine.heights c.pop.new.self.cells.now c.pop.new.self.height c.in-Some.newest
taken c =
    let e = c.in-Some.ensures in
    let h = c.examine.stack.height in
    let ws = c.examine.stack.cells.now in
    let read =
    get_or_read ws (h - 1) c.in-Some.newest (omega (arith, e.said.0, e.said.1)) e.said.2 0
    in
    rw (e.cells, e.height)
    (take c.args.code.now c.args.limit _ c.examine.heights ws h c.in-Some.newest
    c.examine.invariant e.said.0 read)

-- its successors are reached
reached : (c : Else-after-limit)
    → Reaching c.args.code.now c.args.limit
    (examined c.args.code.now c.args.limit c.args.heights.now) c.in-Some.newest
    (height_after c.transfer_at-transfer.result (get_or c.examine.heights (c.in-Some.newest / 2) 0))
    c.transfer_at-transfer.result.to c.examine.heights c.pop.new.self.cells.now
    c.pop.new.self.height
reached c =
    reaching (taken (goal.at.Else-after-limit c).In-Some)
    c.transfer_at-transfer.result c.transfer_at-transfer.ensures
    c.if-h-transfer.false (omega (arith, c.if-after-limit.false))

pub examine-preserved : goal.examine-preserved
examine-preserved c =
    again (reached (goal.at.examine-preserved c).Else-after-limit) c.loop-to.invariant (omega arith)

pub returns-in_default : goal.returns-in_default
returns-in_default c =
    let s = c.examine.invariant in
    let r = s.ready in
    let z : c.examine.stack.height ≡ 0 =
    ⊎_elim
    (λ (q : c.examine.stack.height ≡ 0). q)
    (λ (q : length c.examine.stack.cells.now < c.examine.stack.height).
    absurd (omega (arith, r.room, r.wide, q)))
    c.in_default.ensures.said
    in
    none c.args.code.now c.args.limit _ _ _ _ s z

pub returns-then-h-transfer : goal.returns-then-h-transfer
returns-then-h-transfer c =
    ap Err c.at.ensures
    ∙ low (taken (goal.at.returns-then-h-transfer c).In-Some)
    c.transfer_at-transfer.result c.transfer_at-transfer.ensures c.if-h-transfer.true

pub returns-then-after-limit : goal.returns-then-after-limit
returns-then-after-limit c =
    ap Err c.at-then-after-limit.ensures
    ∙ high (taken (goal.at.returns-then-after-limit c).In-Some)
    c.transfer_at-transfer.result c.transfer_at-transfer.ensures
    c.if-h-transfer.false (omega (arith, c.if-after-limit.true))

pub returns-then-s-code : goal.returns-then-s-code
returns-then-s-code c =
    let to = c.transfer_at-transfer.result.to in
    let is : get_or to c.loop-to.to-index None ≡ Some c.in-Some-to.s = search rules in
    ap Err c.at-then-s-code.ensures
    ∙ fault_reached (reached (goal.at.returns-then-s-code c).Else-after-limit) _
    (past c.loop-to.invariant c.in-Some-to.s (grind arith) is c.if-s-code.true)

pub returns-then-heights-s-2 : goal.returns-then-heights-s-2
returns-then-heights-s-2 c =
    let to = c.transfer_at-transfer.result.to in
    let is : get_or to c.loop-to.to-index None ≡ Some c.in-Some-to.s = search rules in
    ap Err c.at-then-heights-s-2.ensures
    ∙ fault_reached (reached (goal.at.returns-then-heights-s-2 c).Else-after-limit) _
    (other c.loop-to.invariant c.in-Some-to.s (grind arith) is
    c.if-s-code.false c.if-heights-s.false c.if-heights-s-2.true)

pub loop-to-preserved : goal.loop-to-preserved
loop-to-preserved c =
    let v = c.loop-to.invariant in
    let d = c.transfer_at-transfer.result in
    let i : c.loop-to.to-index < length d.to = grind arith in
    elim c.match-to.branch [
      | in-Some-to+else-s-code+then-heights-s w ↦
          let n = c.loop-to.stack.height in
          let ws = c.loop-to.stack.cells.now in
          let is : get_or d.to c.loop-to.to-index None ≡ Some w.in-Some-to.s = search rules in
          let room : n < length ws = omega (arith, v.spare, v.ready.wide) in
          let said : is_ok w.push.result ≡ true =
          ap is_ok (w.push.ensures.said ∙ cond-true _ _ _ (lt-ltb _ _ room))
          in
          let cells : w.push.new.self.cells.now ≡ set ws n w.in-Some-to.s =
          w.push.ensures.cells ∙ cond-true (is_ok w.push.result) _ _ said
          in
          let height : w.push.new.self.height ≡ n + 1 =
          w.push.ensures.height ∙ cond-true (is_ok w.push.result) _ _ said
          in
          let two : length c.args.code.now ≡ 2 * length c.loop-to.heights =
          omega (
            arith,
            c.loop-to.auto.heights,
            c.examine.auto.heights,
            length-set c.args.heights.now 0 0,
          )
          in
          moved w.heights-is
          ((λ j. (w.stack-is j).cells.now) ∙ cells) ((λ j. (w.stack-is j).height) ∙ height)
          (new v w.in-Some-to.s i is w.if-s-code.false two w.if-heights-s.true
          (omega (arith, c.if-after-limit.false)))
      | in-Some-to+else-s-code+else-heights-s+else-heights-s-2 w ↦
          let is : get_or d.to c.loop-to.to-index None ≡ Some w.in-Some-to.s = search rules in
          moved w.heights-is (λ j. (w.stack-is j).cells.now) (λ j. (w.stack-is j).height)
          (known v w.in-Some-to.s i is
          w.if-s-code.false w.if-heights-s.false w.if-heights-s-2.false)
      | in_default-to w ↦
          let is : get_or d.to c.loop-to.to-index None ≡ None = search rules in
          moved w.heights-is (λ j. (w.stack-is j).cells.now) (λ j. (w.stack-is j).height)
          (skip v i is)
    ]
