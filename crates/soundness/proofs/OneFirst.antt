-- Of tests in order, one is the first that applies.
use Rattle.std.proofs.Common.{◌≡◌, ℕ, Bool, cond, List, Some, ap, ◌∙◌, arith}
use Rattle.values.specs.Order.{Test, first}
use Rattle.values.specs.declared.faults.Fault.{Fault}
use Rattle.soundness.specs.Rules.{First, here, later}
use Rattle.soundness.proofs.Orders.{Silent, silent_none}

-- the first that applies is what is answered
pub first_is : {ts : List Test} {f : Fault} → First ts f → first ts ≡ Some f
first_is (here {t} {ts} e) = ap (λ (b : Bool). cond b (Some t.finds) (first ts)) e
first_is (later {t} {ts} e g) =
    ap (λ (b : Bool). cond b (Some t.finds) (first ts)) e ∙ first_is g

-- no other is the first
pub first_one : {ts : List Test} {f g : Fault} → First ts f → First ts g → f ≡ g
first_one x y = let e = first_is x in let d = first_is y in cc

-- and where none applies, none is
pub not_first : {ts : List Test} {f : Fault} → First ts f → Silent ts → ⊥
not_first {ts} x s =
    let e = first_is x in
    let d = silent_none ts s in
    let z : ◌≡◌ {A = ℕ} 0 1 = cc in
    omega arith
