-- One turn of a search for the first fault, and lists of tests of which none applies.
use Rattle.std.proofs.Common.{◌≡◌, ℕ, zero, suc, ◌+◌, ◌-◌, ◌<◌, ◌≤◌, Bool, true, false, cond, List, [], ◌∷◌, is_some, Some, None, Ok, Err, Option, sym, refl, ap, ◌∙◌, arith}
use Rattle.std.specs.Result.{result_err}
use Rattle.std.specs.Option.{option_or}
use Rattle.values.specs.Order.{Test, first, first_from, unless}
use Rattle.values.specs.declared.faults.Fault.{Fault}

one_more : (p : ℕ → Option Fault) (i m : ℕ) → 0 < m
    → first_from p i m ≡ option_or (p i) (first_from p (i + 1) (m - 1))
one_more p i zero h = absurd (omega arith)
one_more p i (suc m) h = ap (λ k. option_or (p i) (first_from p (i + 1) k)) (omega arith)

-- a fault at i is the first from i on
here_by : (p : ℕ → Option Fault) (i n : ℕ) (f : Fault) → i < n → Some f ≡ p i
    → Some f ≡ first_from p i (n - i)
here_by p i n f h e =
    ap (λ o. option_or o (first_from p (i + 1) (n - i - 1))) e
    ∙ sym (one_more p i (n - i) (omega arith))

-- no fault at i: the search goes on
on_by : (p : ℕ → Option Fault) (i n : ℕ) → i < n → None ≡ p i
    → first_from p (i + 1) (n - (i + 1)) ≡ first_from p i (n - i)
on_by p i n h e =
    ap (first_from p (i + 1)) (omega arith)
    ∙ ap (λ o. option_or o (first_from p (i + 1) (n - i - 1))) e
    ∙ sym (one_more p i (n - i) (omega arith))

-- a check answers the fault that there is
pub result_err-unless : {X : Type 0} (o : Option Fault) (x : X) → result_err (unless o x) ≡ o
result_err-unless None x = refl
result_err-unless (Some f) x = refl

module _ {X : Type 0} (x : X) (p : ℕ → Option Fault) (i n : ℕ) (h : i < n) where
  -- a fault at i is the first from i on
  pub here : (f : Fault) → Err f ≡ unless (p i) x → Err f ≡ unless (first_from p i (n - i)) x
  here f e = ap (λ o. unless o x) (here_by p i n f h (ap result_err e ∙ result_err-unless (p i) x))

  -- no fault at i: the search goes on
  pub on : Ok x ≡ unless (p i) x → first_from p (i + 1) (n - (i + 1)) ≡ first_from p i (n - i)
  on e = on_by p i n h (ap result_err e ∙ result_err-unless (p i) x)

-- none is left
pub end : (p : ℕ → Option Fault) (i n : ℕ) → n ≤ i → None ≡ first_from p i (n - i)
end p i n h = let none : 0 ≡ n - i = omega arith in ap (first_from p i) none

-- no test of a list applies
abbrev pub NoneApplies : List Test → Type 0
NoneApplies [] = Unit {0}
NoneApplies (t ∷ ts) = (t.applies ≡ false) × NoneApplies ts

none_by : (b : Bool) (f : Fault) (o : Option Fault) → is_some (cond b (Some f) o) ≡ false
    → (b ≡ false) × (is_some o ≡ false)
none_by true f o e = absurd cc
none_by false f o e = (refl, e)

-- there is no first one exactly if none applies
pub none_from : (ts : List Test) → is_some (first ts) ≡ false → NoneApplies ts
none_from [] e = tt
none_from (t ∷ ts) e =
    let p = none_by t.applies t.finds (first ts) e in
    (p.0, none_from ts p.1)

pub none_to : (ts : List Test) → NoneApplies ts → is_some (first ts) ≡ false
none_to [] h = refl
none_to (t ∷ ts) h = ap (λ b. is_some (cond b (Some t.finds) (first ts))) h.0 ∙ none_to ts h.1
