use Rattle.std.proofs.Common.{◌≡◌, ◌-◌, arith}
use Rattle.planning.proofs.Turning.{Stays, rested, unopened_so, stays_so}
use Rattle.planning.proofs.relying.run_counted.Given.{Over}
use Rattle.planning.proofs.relying.run_counted.Goals as goal
use Rattle.planning.proofs.relying.run_counted.Goals.{In-Err, In-Ok}

unopened : (g : Over) (c : In-Err g) → g.H.Host.means c.run_parcel.new.host ≡ g.H.Host.means c.args.host.now
unopened g c =
    unopened_so g.H.Host.means g.H.Host.may c.args.plan.now c.args.bytes.now c.args.host.now c.run_parcel.new.host
    c.in_ok-outcome.field-0 c.in-Some.outcome c.in-Err.field-0 c.in-Some.is c.in-Err.is c.in_ok-outcome.ensures.handled

stays : (g : Over) (c : In-Ok g) → c.args.plan.now.steps ≡ 0 → Stays g.H.Host.means g.H.Host.may c.args.plan.now c.args.bytes.now c.args.host.now c.run_parcel.new.host c.in-Ok.ran
stays g c =
    stays_so g.H.Host.means g.H.Host.may c.args.plan.now c.args.bytes.now c.args.host.now c.run_parcel.new.host
    c.in_ok-outcome.field-0 c.in-Some.outcome c.in-Ok.ran c.in-Some.is c.in-Ok.is c.in_ok-outcome.ensures.handled

pub returns-in-Err-clause-refused : goal.returns-in-Err-clause-refused
returns-in-Err-clause-refused g c = unopened g c

pub returns-in-Err-clause-unmoved : goal.returns-in-Err-clause-unmoved
returns-in-Err-clause-unmoved g c z = unopened g c

pub returns-in-Ok-clause-begins : goal.returns-in-Ok-clause-begins
returns-in-Ok-clause-begins g c z =
    let x = stays g (goal.at.returns-in-Ok-clause-begins g c).In-Ok z in
    let none : c.args.plan.now.steps - c.in-Ok.ran.steps ≡ 0 = omega (arith, z) in
    rested c.in-Ok.ran.state c.in-Ok.ran.place _ x.state x.place none

pub returns-in-Ok-clause-unmoved : goal.returns-in-Ok-clause-unmoved
returns-in-Ok-clause-unmoved g c z = (stays g (goal.at.returns-in-Ok-clause-unmoved g c).In-Ok z).host
