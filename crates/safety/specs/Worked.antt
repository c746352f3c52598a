-- Three runs, worked out.
use Rattle.std.specs.Prelude.{◌≡◌, ℕ, ◌/◌, ◌%◌, false, List, [], ◌∷◌, ◌++◌, length, replicate, Some, Ok}
use Rattle.std.specs.Option.{unwrap_or}
use Rattle.values.specs.declared.kinds.Value.{Value}
use Rattle.values.specs.declared.kinds.Value.TheVariants.{Nil, Object}
use Rattle.hosts.specs.Meaning.{Meaning, Sent, message}
use Rattle.parcels.specs.declared.opcodes.Ending.TheVariants.{Return}
use Rattle.stages.specs.Check.{question_on}
use Rattle.semantics.specs.Steps.{RunView, CallAnswer, Step}
use Rattle.semantics.specs.Scripts.{integer}
use Rattle.semantics.specs.declared.states.State.TheVariants.{Ended, Stopped}
use Rattle.semantics.specs.declared.states.Stop.TheVariants.{NotUnderstood}
use Rattle.semantics.specs.Opening.{Opened, opened, empty}
use Rattle.safety.specs.Histories.{Sends}

-- a host without cells that understands nothing
abbrev pub bare : Unit {0} → Meaning
bare _ = record { receiver = Object 0; variables = []; bindings = []; understands = λ _. false }

-- it answers no message
abbrev pub no_answer : Unit {0} → Sent → Value → Unit {0} → Type 0
no_answer _ _ _ _ = ⊥

-- a method without literals, arguments or locals, with 4 slots
abbrev pub method : List ℕ → List ℕ
method code = (0 ∷ 0 ∷ 0 ∷ 0 ∷ 0 ∷ 0 ∷ 0 ∷ 32 ∷ length code / 256 ∷ length code % 256 ∷ []) ++ code

-- opening it, untrusted, with the frame f
abbrev pub opens : List ℕ → List Value → Opened
opens code f =
    let list = replicate (length code / 2) 0 in
    opened (question_on (bare tt) false (method code) list list) [] f empty

-- a step on the bare host
abbrev pub BareStep : RunView → List Value → CallAnswer → RunView → List Value → Type 0
BareStep run f a run' f' = Step bare no_answer run f tt a run' f' tt

-- a run at a place and a height
abbrev pub at : RunView → (place height : ℕ) → RunView
at run p h = record run { place = p; height = h }

-- a jump to itself
abbrev pub circle : List ℕ
circle = 40 ∷ 2 ∷ []

-- push 1,000 and return it
abbrev pub thousand : List ℕ
thousand = 55 ∷ 3 ∷ 44 ∷ 232 ∷ 51 ∷ 0 ∷ []

-- the integer 1,000
abbrev pub value_1000 : Value
value_1000 = unwrap_or (integer 1000) Nil

-- push three values, and send message 17 to the first with the others as arguments
abbrev pub putting : List ℕ
putting = 45 ∷ 0 ∷ 45 ∷ 1 ∷ 45 ∷ 2 ∷ 17 ∷ 0 ∷ 51 ∷ 0 ∷ []

-- the jump to itself is opened, and each step leaves the run as it is
abbrev pub CircleRuns : List Value → Type 0
CircleRuns f = let run = (opens circle f).run in
    ((opens circle f).answer ≡ Ok 0) × BareStep run f (Ok tt) run f

-- the second parcel is opened, and its second step ends it by return with 1,000
abbrev pub ThousandRuns : Value → List Value → Type 0
ThousandRuns a f = let run = (opens thousand (a ∷ f)).run in
    ((opens thousand (a ∷ f)).answer ≡ Ok 1)
    × BareStep run (a ∷ f) (Ok tt) (at run 4 1) (value_1000 ∷ f)
    × BareStep (at run 4 1) (value_1000 ∷ f) (Ok tt)
    (record (at run 4 1) { state = Ended Return value_1000 }) (value_1000 ∷ f)

-- the third at its send at place 6 and height 3: the receiver is the lowest of the three cells, the
-- arguments are the two above it in order, and a host that does not understand the message stops
-- the run there, with nothing altered
abbrev pub PuttingStops : (a b c d : Value) → Type 0
PuttingStops a b c d = let f = a ∷ b ∷ c ∷ d ∷ [] in let run = at (opens putting f).run 6 3 in
    ((opens putting f).answer ≡ Ok 3)
    × Sends run f (message false 17 a (b ∷ c ∷ [])) (Some 0)
    × BareStep run f (Ok tt) (record run { state = Stopped (NotUnderstood 17) }) f

-- three runs, worked out, with any contents of the frame
abbrev pub WorkedRuns : Type 0
WorkedRuns =
    (a b c d : Value)
    → CircleRuns (a ∷ b ∷ c ∷ d ∷ []) × ThousandRuns a (b ∷ c ∷ d ∷ []) × PuttingStops a b c d
