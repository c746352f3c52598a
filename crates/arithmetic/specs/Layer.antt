-- What the layer makes of the host below.
use Rattle.std.specs.Prelude.{◌≡◌, ◌||◌, is_some, Some, None, Option, MatchOption}
use Rattle.values.specs.declared.kinds.Value.{Value}
use Rattle.hosts.specs.Meaning.{Meaning, Sent, Answered}
use Rattle.arithmetic.specs.Own.{own_answer}

-- the receiver and the cells are those below; understood is what the layer answers itself, or what
-- is understood below
abbrev pub layered : Meaning → Meaning
layered n = record n { understands = λ m. is_some (own_answer m) || n.understands m }

-- its own answer, with the host below as it was; or else what may come of the message below
abbrev pub MayLayered : {S : Type 0} → (S → Sent → Value → S → Type 0)
    → S → Sent → Value → S → Type 0
MayLayered may s m v t = MatchOption (own_answer m) (may s m v t) (λ w. (v ≡ w) × (t ≡ s))

-- what the layer answers itself is the answer, and the host below is as it was
abbrev pub ByItself : {S : Type 0} → S → Sent → Option Value → S → Type 0
ByItself s m r t = (v : Value) → own_answer m ≡ Some v → (r ≡ Some v) × (t ≡ s)

-- every other message goes below, and what comes of it there is answered
abbrev pub PassedOn : {S : Type 0} → (S → Meaning) → (S → Sent → Value → S → Type 0)
    → S → Sent → Option Value → S → Type 0
PassedOn means may s m r t = own_answer m ≡ None → Answered means may s m r t
