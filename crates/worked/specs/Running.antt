-- What a run comes to after some steps, whatever may come of each.
use Rattle.std.specs.Prelude.{◌≡◌, ℕ, zero, suc, ◌/◌, ◌%◌, false, List, [], ◌∷◌, ◌++◌, length, replicate, Ok}
use Rattle.values.specs.declared.kinds.Value.{Value}
use Rattle.hosts.specs.Meaning.{Meaning, Sent}
use Rattle.parcels.specs.declared.literals.TheConstants.{LITERAL_BYTES}
use Rattle.parcels.specs.declared.reading.TheConstants.{PAIR_BYTES}
use Rattle.stages.specs.Check.{question_on}
use Rattle.semantics.specs.Opening.{Opened, opened, empty}
use Rattle.semantics.specs.Steps.{RunView, CallAnswer, Step}
use Rattle.semantics.specs.declared.states.State.{State}

module _ {S : Type 0} (means : S → Meaning) (may : S → Sent → Value → S → Type 0) where
  -- something may come of a step
  abbrev pub MayStep : RunView → List Value → S → Type 0
  MayStep run f s =
      (a : CallAnswer) × (run' : RunView) × (f' : List Value) × (s' : S)
      × Step means may run f s a run' f' s'

  -- n steps may be made, none is refused, and whatever may come of them, P holds of the run, the
  -- frame and the host afterwards
  abbrev pub AfterSteps : ℕ → RunView → List Value → S
      → (RunView → List Value → S → Type 0) → Type 0
  AfterSteps zero run f s P = P run f s
  AfterSteps (suc n) run f s P =
      MayStep run f s
      × ((a : CallAnswer) (run' : RunView) (f' : List Value) (s' : S)
      → Step means may run f s a run' f' s' → (a ≡ Ok tt) × AfterSteps n run' f' s' P)

-- the two bytes of a number below 65,536
abbrev pub pair_of : ℕ → List ℕ
pair_of n = n / 256 ∷ n % 256 ∷ []

-- a parcel of a kind, by its four flag bytes, its literals and its code
abbrev pub bytes_of : (kind : ℕ) (flags literals code : List ℕ) → List ℕ
bytes_of kind flags literals code =
    (0 ∷ kind ∷ []) ++ (pair_of (length literals / LITERAL_BYTES)
    ++ (flags ++ (pair_of (length code) ++ (literals ++ code))))

-- a method with one argument, one local and 4 slots, and so 3 working cells
abbrev pub method_flags : List ℕ
method_flags = 0 ∷ 0 ∷ 8 ∷ 33 ∷ []

-- a block of the same shape, with chain use 31
abbrev pub block_flags : List ℕ
block_flags = 2 ∷ 16 ∷ 64 ∷ 31 ∷ []

-- the frame of a run with 3 working cells
abbrev pub frame_of : (argument local a b c : Value) → List Value
frame_of x l a b c = x ∷ l ∷ a ∷ b ∷ c ∷ []

-- a parcel, how many steps are made of it, and what it is then: the state, the place and the height
-- of the run, the frame and the host's meaning
pub record RunRow : Type 0 where
  pub parcel : List ℕ
  pub steps : ℕ
  pub state : State
  pub place : ℕ
  pub height : ℕ
  pub frame : List Value
  pub host : Meaning

-- opening an untrusted parcel over a host that means m, with one argument and a frame
abbrev pub opening : Meaning → (parcel : List ℕ) → (argument : Value) → List Value → Opened
opening m parcel x f =
    let list = replicate (length parcel / PAIR_BYTES) 0 in
    opened (question_on m false parcel list list) (x ∷ []) f empty

module _ {S : Type 0} (means : S → Meaning) (may : S → Sent → Value → S → Type 0) (s : S) where
  -- a run of a row, opened over the host s with the argument x and the frame f, comes to what the
  -- row says
  abbrev pub RowHolds : (x : Value) (f : List Value) → RunRow → Type 0
  RowHolds x f r =
      let o = opening (means s) r.parcel x f in
      AfterSteps means may r.steps o.run o.frame s (λ run' f' s'.
      (run' ≡ record o.run { state = r.state; place = r.place; height = r.height })
      × (f' ≡ r.frame) × (means s' ≡ r.host))

  -- each of these rows holds
  abbrev pub EveryRow : (x : Value) (f : List Value) → List RunRow → Type 0
  EveryRow x f [] = Unit {0}
  EveryRow x f (r ∷ rs) = RowHolds x f r × EveryRow x f rs

  -- they hold whatever the argument is and the frame held
  abbrev pub RowsHold : ((x c d e : Value) → List RunRow) → Type 0
  RowsHold rows =
      (x a b c d e : Value) → EveryRow x (frame_of a b c d e) (rows x c d e)
