-- What is asked of an operand, a landing place and a kind of code, and the tests of it.
use Rattle.std.proofs.Common.{◌≡◌, ℕ, ◌/◌, ◌%◌, true, List, is_some, Some, None, Option, refl, ap, ◌∙◌}
use Rattle.std.proofs.lemmas.Bool.{eqb-true, eq-eqb, ltb-true, lt-ltb}
use Rattle.parcels.specs.Literals.{literal}
use Rattle.parcels.specs.Opcodes.{landing_of}
use Rattle.parcels.specs.Parts.{Parts}
use Rattle.parcels.specs.declared.layout.CodeKind.{CodeKind}
use Rattle.parcels.specs.declared.layout.CodeKind.TheVariants.{Method, Block}
use Rattle.parcels.specs.declared.literals.Literal.{Literal}
use Rattle.parcels.specs.declared.literals.Literal.TheVariants.{Constant, Selector, Binding}
use Rattle.parcels.specs.declared.opcodes.Direction.TheVariants.{Forward}
use Rattle.parcels.specs.declared.opcodes.Ending.TheVariants.{MethodReturn}
use Rattle.parcels.specs.declared.opcodes.Flow.{Flow}
use Rattle.parcels.specs.declared.opcodes.Flow.TheVariants.{Jumps, Branches}
use Rattle.parcels.specs.declared.opcodes.Operation.{Operation}
use Rattle.parcels.specs.declared.opcodes.Operation.TheVariants.{SendSelector, Push, Store, Close, End}
use Rattle.parcels.specs.declared.opcodes.Source.TheVariants as source
use Rattle.parcels.specs.declared.opcodes.Target.TheVariants as target
use Rattle.stages.specs.Operands.{is_selector, is_binding, is_constant, operand_fits}
use Rattle.stages.specs.Encoding.{is_clean, permits_return, returns_method, makes_closure, landing_fits}
use Rattle.stages.specs.declared.encoding.TheConstants.{CLEAN, RETURNING}
use Rattle.soundness.specs.Rules.{SelectorAt, BindingAt, ConstantAt, OperandFits, LandingFits}

module _ (ls : List ℕ) (k : ℕ) where
  selector_true : (c : ℕ) → SelectorAt ls k c → is_selector (literal ls k) c ≡ true
  selector_true c s = ap (λ (l : Option Literal). is_selector l c) s.1 ∙ eq-eqb c c refl

  selector_back : (c : ℕ) → is_selector (literal ls k) c ≡ true → SelectorAt ls k c
  selector_back c e = by (literal ls k) refl e
    where
      by : (l : Option Literal) → literal ls k ≡ l → is_selector l c ≡ true → SelectorAt ls k c
      by (Some (Selector n d)) f t = (n, f ∙ ap (λ (x : ℕ). Some (Selector n x)) (eqb-true d c t))
      by (Some (Constant v)) f t = absurd cc
      by (Some (Binding n)) f t = absurd cc
      by None f t = absurd cc

  binding_true : BindingAt ls k → is_binding (literal ls k) ≡ true
  binding_true s = ap is_binding s.1

  binding_back : is_binding (literal ls k) ≡ true → BindingAt ls k
  binding_back e = by (literal ls k) refl e
    where
      by : (l : Option Literal) → literal ls k ≡ l → is_binding l ≡ true → BindingAt ls k
      by (Some (Binding n)) f t = (n, f)
      by (Some (Constant v)) f t = absurd cc
      by (Some (Selector n d)) f t = absurd cc
      by None f t = absurd cc

  constant_true : ConstantAt ls k → is_constant (literal ls k) ≡ true
  constant_true s = ap is_constant s.1

  constant_back : is_constant (literal ls k) ≡ true → ConstantAt ls k
  constant_back e = by (literal ls k) refl e
    where
      by : (l : Option Literal) → literal ls k ≡ l → is_constant l ≡ true → ConstantAt ls k
      by (Some (Constant v)) f t = (v, f)
      by (Some (Binding n)) f t = absurd cc
      by (Some (Selector n d)) f t = absurd cc
      by None f t = absurd cc

module _ (p : Parts) (vars a : ℕ) where
  -- an operand that fits passes its test
  pub operand_fits_true : (o : Operation) → OperandFits p vars a o → operand_fits p vars a o ≡ true
  operand_fits_true (SendSelector s) f = selector_true p.literals (a / 256) (a % 256) f
  operand_fits_true (Push source.Cell) f = lt-ltb _ _ f
  operand_fits_true (Push source.Binding) f = binding_true p.literals a f
  operand_fits_true (Push source.Variable) f = lt-ltb _ _ f
  operand_fits_true (Push source.Integer) f = lt-ltb _ _ f
  operand_fits_true (Push source.Special) f = lt-ltb _ _ f
  operand_fits_true (Push source.Literal) f = constant_true p.literals a f
  operand_fits_true (Store target.Cell) f = lt-ltb _ _ f
  operand_fits_true (Store target.Binding) f = binding_true p.literals a f
  operand_fits_true (Store target.Variable) f = lt-ltb _ _ f
  operand_fits_true _ f = refl

  -- and no other does
  pub operand_fits_back : (o : Operation) → operand_fits p vars a o ≡ true → OperandFits p vars a o
  operand_fits_back (SendSelector s) e = selector_back p.literals (a / 256) (a % 256) e
  operand_fits_back (Push source.Cell) e = ltb-true _ _ e
  operand_fits_back (Push source.Binding) e = binding_back p.literals a e
  operand_fits_back (Push source.Variable) e = ltb-true _ _ e
  operand_fits_back (Push source.Integer) e = ltb-true _ _ e
  operand_fits_back (Push source.Special) e = ltb-true _ _ e
  operand_fits_back (Push source.Literal) e = constant_back p.literals a e
  operand_fits_back (Store target.Cell) e = ltb-true _ _ e
  operand_fits_back (Store target.Binding) e = binding_back p.literals a e
  operand_fits_back (Store target.Variable) e = ltb-true _ _ e
  operand_fits_back _ e = tt

-- there is a value
some_back : {X : Type 0} (o : Option X) → is_some o ≡ true → (x : X) × (o ≡ Some x)
some_back (Some x) e = (x, refl)
some_back None e = absurd cc

module _ (code : List ℕ) (next a : ℕ) where
  -- a jump that lands well passes its test
  pub landing_fits_true : (f : Flow) → LandingFits code next a f → landing_fits code next a f ≡ true
  landing_fits_true (Jumps d) s = ap is_some s.1
  landing_fits_true Branches s = ap is_some s.1
  landing_fits_true _ s = refl

  -- and no other does
  pub landing_fits_back : (f : Flow) → landing_fits code next a f ≡ true → LandingFits code next a f
  landing_fits_back (Jumps d) e = some_back (landing_of code d next a) e
  landing_fits_back Branches e = some_back (landing_of code Forward next a) e
  landing_fits_back _ e = tt

-- a clean block, and a returning one
pub is_clean_back : (k : CodeKind) → is_clean k ≡ true → k ≡ Block CLEAN
is_clean_back (Block c) e = ap Block (eqb-true c CLEAN e)
is_clean_back Method e = absurd cc

pub permits_return_back : (k : CodeKind) → permits_return k ≡ true → k ≡ Block RETURNING
permits_return_back (Block c) e = ap Block (eqb-true c RETURNING e)
permits_return_back Method e = absurd cc

-- a method return, and a closure
pub returns_method_back : (o : Operation) → returns_method o ≡ true → o ≡ End MethodReturn
returns_method_back (End MethodReturn) e = refl
returns_method_back _ e = absurd cc

pub makes_closure_back : (o : Operation) → makes_closure o ≡ true → o ≡ Close
makes_closure_back Close e = refl
makes_closure_back _ e = absurd cc
