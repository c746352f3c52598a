-- Runs worked out by hand: one for each operation, and for each case of a value where it matters.
use Rattle.std.specs.Prelude.{Some, ◌≡◌, ℕ, true, false, List, [], ◌∷◌, pos, Ok}
use Rattle.std.specs.Option.{unwrap_or}
use Rattle.values.specs.Kinds.{integer}
use Rattle.values.specs.declared.kinds.Value.{Value}
use Rattle.values.specs.declared.kinds.Value.TheVariants.{Nil, True, False, Object, Closure}
use Rattle.hosts.specs.Meaning.{Meaning, Sent, message, with_cell}
use Rattle.hosts.specs.declared.rows.Row.TheVariants.{Variables, Bindings}
use Rattle.parcels.specs.declared.opcodes.Ending.TheVariants.{Return, MethodReturn}
use Rattle.semantics.specs.declared.states.State.{State}
use Rattle.semantics.specs.declared.states.State.TheVariants.{Live, Ended, Stopped}
use Rattle.semantics.specs.declared.states.Stop.TheVariants.{NotUnderstood, NoBlock}
use Rattle.safety.specs.Histories.{Sends}
use Rattle.week_file.specs.Files.{week_meaning, Replied}
use Rattle.listing.specs.Listed.{fixed_week}
use Rattle.worked.specs.Running.{AfterSteps, bytes_of, method_flags, block_flags, frame_of, RunRow, opening, RowsHold}
use Rattle.worked.specs.Hosts.{fixed_meaning, deaf, no_answer, willing, told}

-- the small integer n
abbrev pub int : ℕ → Value
int n = unwrap_or (integer (pos n)) Nil

-- the literal that is object 9
abbrev pub object_9 : List ℕ
object_9 = 0 ∷ 4 ∷ 0 ∷ 0 ∷ 0 ∷ 9 ∷ []

-- the literal that is block 9
abbrev pub block_9 : List ℕ
block_9 = 0 ∷ 5 ∷ 0 ∷ 0 ∷ 0 ∷ 9 ∷ []

-- the literal that is selector 20, without arguments
abbrev pub selector_20 : List ℕ
selector_20 = 0 ∷ 7 ∷ 0 ∷ 0 ∷ 0 ∷ 20 ∷ []

-- the literal that is selector 300, with two arguments
abbrev pub selector_300 : List ℕ
selector_300 = 2 ∷ 7 ∷ 0 ∷ 0 ∷ 1 ∷ 44 ∷ []

-- the literal that names binding 0
abbrev pub binding_0 : List ℕ
binding_0 = 0 ∷ 8 ∷ 0 ∷ 0 ∷ 0 ∷ 0 ∷ []

-- over a host that means m afterwards: a method by its literals and its code, the steps, and then
-- the state, the place, the height and the frame
abbrev pub row_on : Meaning → (literals code : List ℕ) → (steps : ℕ) → State
    → (place height : ℕ) → (frame : List Value) → RunRow
row_on m ls c n state p h f = record {
  parcel = bytes_of 0 method_flags ls c;
  steps = n;
  state = state;
  place = p;
  height = h;
  frame = f;
  host = m;
}

-- the fixed week file is as it was
abbrev pub row : (literals code : List ℕ) → (steps : ℕ) → State
    → (place height : ℕ) → (frame : List Value) → RunRow
row = row_on fixed_meaning

-- a value is pushed, and then comes a conditional jump: it lands at 6, and 4 follows it
abbrev pub jumping : (push argument jump : ℕ) → List ℕ
jumping p a j = p ∷ a ∷ j ∷ 2 ∷ 40 ∷ 2 ∷ 40 ∷ 2 ∷ []

-- conditional jumps: 42 on true, false, nil and 5, and 43 on these; nil and 5 are no Booleans, and
-- are told so, and the jump is taken
abbrev pub branch_rows : (x c d e : Value) → List RunRow
branch_rows x c d e =
    row [] (jumping 45 1 42) 2 Live 6 0 (frame_of x Nil True d e)
    ∷ row [] (jumping 45 2 42) 2 Live 4 0 (frame_of x Nil False d e)
    ∷ row [] (jumping 45 0 42) 2 Live 6 0 (frame_of x Nil Nil d e)
    ∷ row [] (jumping 44 5 42) 2 Live 6 0 (frame_of x Nil (int 5) d e)
    ∷ row [] (jumping 45 1 43) 2 Live 4 0 (frame_of x Nil True d e)
    ∷ row [] (jumping 45 2 43) 2 Live 6 0 (frame_of x Nil False d e)
    ∷ row [] (jumping 45 0 43) 2 Live 6 0 (frame_of x Nil Nil d e)
    ∷ row [] (jumping 44 5 43) 2 Live 6 0 (frame_of x Nil (int 5) d e)
    ∷ []

-- messages that a week file answers, and some that it does not understand
abbrev pub message_rows : (x c d e : Value) → List RunRow
message_rows x c d e =
    row [] (45 ∷ 0 ∷ 20 ∷ 0 ∷ 40 ∷ 2 ∷ []) 2 Live 4 1 (frame_of x Nil True d e)
    ∷ row [] (44 ∷ 5 ∷ 20 ∷ 0 ∷ 40 ∷ 2 ∷ []) 2 Live 4 1 (frame_of x Nil False d e)
    ∷ row [] (45 ∷ 0 ∷ 21 ∷ 0 ∷ 40 ∷ 2 ∷ []) 2 Live 4 1 (frame_of x Nil False d e)
    ∷ row [] (44 ∷ 5 ∷ 21 ∷ 0 ∷ 40 ∷ 2 ∷ []) 2 Live 4 1 (frame_of x Nil True d e)
    ∷ row [] (44 ∷ 5 ∷ 44 ∷ 5 ∷ 24 ∷ 0 ∷ 40 ∷ 2 ∷ []) 3 Live 6 1 (frame_of x Nil True (int 5) e)
    ∷ row [] (44 ∷ 5 ∷ 44 ∷ 6 ∷ 24 ∷ 0 ∷ 40 ∷ 2 ∷ []) 3 Live 6 1 (frame_of x Nil False (int 6) e)
    ∷ row selector_20 (45 ∷ 0 ∷ 28 ∷ 0 ∷ 40 ∷ 2 ∷ []) 2 Live 4 1 (frame_of x Nil True d e)
    ∷ row selector_20 (45 ∷ 0 ∷ 29 ∷ 0 ∷ 40 ∷ 2 ∷ []) 2 (Stopped (NotUnderstood 20)) 2 1
    (frame_of x Nil Nil d e)
    ∷ row [] (44 ∷ 5 ∷ 18 ∷ 0 ∷ 40 ∷ 2 ∷ []) 2 (Stopped (NotUnderstood 18)) 2 1
    (frame_of x Nil (int 5) d e)
    ∷ row [] (45 ∷ 0 ∷ 45 ∷ 1 ∷ 45 ∷ 2 ∷ 17 ∷ 0 ∷ 40 ∷ 2 ∷ []) 4 (Stopped (NotUnderstood 17)) 6 3
    (frame_of x Nil Nil True False)
    ∷ []

-- stores: to the local, the argument, variable 2 and binding 0; this one leaves nil on top
abbrev pub store_rows : (x c d e : Value) → List RunRow
store_rows x c d e =
    row [] (44 ∷ 5 ∷ 36 ∷ 1 ∷ 40 ∷ 2 ∷ []) 2 Live 4 1 (frame_of x (int 5) (int 5) d e)
    ∷ row [] (44 ∷ 5 ∷ 36 ∷ 0 ∷ 40 ∷ 2 ∷ []) 2 Live 4 1 (frame_of (int 5) Nil (int 5) d e)
    ∷ row_on (with_cell fixed_meaning Variables 2 (int 5))
    [] (44 ∷ 5 ∷ 39 ∷ 2 ∷ 40 ∷ 2 ∷ []) 2 Live 4 1 (frame_of x Nil (int 5) d e)
    ∷ row_on (with_cell fixed_meaning Bindings 0 (int 5))
    binding_0 (44 ∷ 5 ∷ 38 ∷ 0 ∷ 40 ∷ 2 ∷ []) 2 Live 4 1 (frame_of x Nil Nil d e)
    ∷ []

-- pushes, one for each source: a cell (the argument and the local), a variable and a binding (nil,
-- and 5 once that was stored), an integer, nil, true and false, a literal and the receiver
abbrev pub push_rows : (x c d e : Value) → List RunRow
push_rows x c d e =
    row [] (32 ∷ 0 ∷ 40 ∷ 2 ∷ []) 1 Live 2 1 (frame_of x Nil x d e)
    ∷ row [] (32 ∷ 1 ∷ 40 ∷ 2 ∷ []) 1 Live 2 1 (frame_of x Nil Nil d e)
    ∷ row [] (35 ∷ 2 ∷ 40 ∷ 2 ∷ []) 1 Live 2 1 (frame_of x Nil Nil d e)
    ∷ row_on (with_cell fixed_meaning Variables 2 (int 5))
    [] (44 ∷ 5 ∷ 39 ∷ 2 ∷ 35 ∷ 2 ∷ 40 ∷ 2 ∷ []) 3 Live 6 2 (frame_of x Nil (int 5) (int 5) e)
    ∷ row binding_0 (34 ∷ 0 ∷ 40 ∷ 2 ∷ []) 1 Live 2 1 (frame_of x Nil Nil d e)
    ∷ row_on (with_cell fixed_meaning Bindings 0 (int 5))
    binding_0 (44 ∷ 5 ∷ 38 ∷ 0 ∷ 34 ∷ 0 ∷ 40 ∷ 2 ∷ []) 3 Live 6 2
    (frame_of x Nil Nil (int 5) e)
    ∷ row [] (44 ∷ 5 ∷ 40 ∷ 2 ∷ []) 1 Live 2 1 (frame_of x Nil (int 5) d e)
    ∷ row [] (55 ∷ 3 ∷ 44 ∷ 232 ∷ 40 ∷ 2 ∷ []) 1 Live 4 1 (frame_of x Nil (int 1000) d e)
    ∷ row [] (45 ∷ 0 ∷ 40 ∷ 2 ∷ []) 1 Live 2 1 (frame_of x Nil Nil d e)
    ∷ row [] (45 ∷ 1 ∷ 40 ∷ 2 ∷ []) 1 Live 2 1 (frame_of x Nil True d e)
    ∷ row [] (45 ∷ 2 ∷ 40 ∷ 2 ∷ []) 1 Live 2 1 (frame_of x Nil False d e)
    ∷ row object_9 (46 ∷ 0 ∷ 40 ∷ 2 ∷ []) 1 Live 2 1 (frame_of x Nil (Object 9) d e)
    ∷ row [] (56 ∷ 0 ∷ 40 ∷ 2 ∷ []) 1 Live 2 1 (frame_of x Nil (Object 0) d e)
    ∷ []

-- the other operations: jumps back and forward, pop, a closure of a block and of what is none, the
-- returns, a copy of the top, and a line
abbrev pub other_rows : (x c d e : Value) → List RunRow
other_rows x c d e =
    row [] (40 ∷ 2 ∷ []) 1 Live 0 0 (frame_of x Nil c d e)
    ∷ row [] (41 ∷ 2 ∷ 40 ∷ 2 ∷ 40 ∷ 4 ∷ []) 1 Live 4 0 (frame_of x Nil c d e)
    ∷ row [] (41 ∷ 2 ∷ 40 ∷ 2 ∷ 40 ∷ 4 ∷ []) 2 Live 2 0 (frame_of x Nil c d e)
    ∷ row [] (44 ∷ 5 ∷ 48 ∷ 0 ∷ 40 ∷ 2 ∷ []) 2 Live 4 0 (frame_of x Nil (int 5) d e)
    ∷ row block_9 (46 ∷ 0 ∷ 49 ∷ 0 ∷ 40 ∷ 2 ∷ []) 2 Live 4 1 (frame_of x Nil (Closure 9) d e)
    ∷ row block_9 (44 ∷ 5 ∷ 41 ∷ 2 ∷ 46 ∷ 0 ∷ 49 ∷ 0 ∷ 40 ∷ 2 ∷ []) 3 (Stopped NoBlock) 6 1
    (frame_of x Nil (int 5) d e)
    ∷ record (row [] [] 2 (Ended MethodReturn (int 5)) 2 1 (frame_of x Nil (int 5) d e)) {
      parcel = bytes_of 1 block_flags [] (44 ∷ 5 ∷ 50 ∷ 0 ∷ []);
    }
    ∷ row [] (44 ∷ 5 ∷ 51 ∷ 0 ∷ []) 2 (Ended Return (int 5)) 2 1 (frame_of x Nil (int 5) d e)
    ∷ row [] (55 ∷ 3 ∷ 44 ∷ 232 ∷ 51 ∷ 0 ∷ []) 2 (Ended Return (int 1000)) 4 1
    (frame_of x Nil (int 1000) d e)
    ∷ row [] (44 ∷ 5 ∷ 52 ∷ 0 ∷ 40 ∷ 2 ∷ []) 2 Live 4 2 (frame_of x Nil (int 5) (int 5) e)
    ∷ row [] (54 ∷ 7 ∷ 40 ∷ 2 ∷ []) 1 Live 2 0 (frame_of x Nil c d e)
    ∷ []

-- over a host that understands nothing: mustBeBoolean is sent to nil and to 5 and is not
-- understood, and the run stops before the jump with nothing altered
abbrev pub deaf_rows : (x c d e : Value) → List RunRow
deaf_rows x c d e =
    row_on deaf [] (jumping 45 0 42) 2 (Stopped (NotUnderstood 25)) 2 1 (frame_of x Nil Nil d e)
    ∷ row_on deaf [] (jumping 44 5 42) 2 (Stopped (NotUnderstood 25)) 2 1
    (frame_of x Nil (int 5) d e)
    ∷ row_on deaf [] (jumping 45 0 43) 2 (Stopped (NotUnderstood 25)) 2 1 (frame_of x Nil Nil d e)
    ∷ row_on deaf [] (jumping 44 5 43) 2 (Stopped (NotUnderstood 25)) 2 1
    (frame_of x Nil (int 5) d e)
    ∷ row_on deaf [] (jumping 45 1 42) 2 Live 6 0 (frame_of x Nil True d e)
    ∷ row_on deaf [] (jumping 45 2 43) 2 Live 6 0 (frame_of x Nil False d e)
    ∷ row_on deaf [] (45 ∷ 0 ∷ 20 ∷ 0 ∷ 40 ∷ 2 ∷ []) 2 (Stopped (NotUnderstood 20)) 2 1
    (frame_of x Nil Nil d e)
    ∷ []

-- push the argument, true and false, and send message 17 to the first with the others
abbrev pub putting : List ℕ
putting = 32 ∷ 0 ∷ 45 ∷ 1 ∷ 45 ∷ 2 ∷ 17 ∷ 0 ∷ 40 ∷ 2 ∷ []

-- over a host that answers a message by whatever may be told of it: what it is sent has the number,
-- the receiver from below the arguments, the arguments in order, and the word super
abbrev pub told_rows : (Sent → Value) → (x c d e : Value) → List RunRow
told_rows tell x c d e =
    row_on willing [] putting 4 Live 8 1
    (frame_of x Nil (tell (message false 17 x (True ∷ False ∷ []))) True False)
    ∷ row_on willing selector_300
    (45 ∷ 0 ∷ 45 ∷ 1 ∷ 45 ∷ 2 ∷ 28 ∷ 2 ∷ 40 ∷ 2 ∷ []) 4 Live 8 1
    (frame_of x Nil (tell (message false 300 Nil (True ∷ False ∷ []))) True False)
    ∷ row_on willing selector_300
    (45 ∷ 0 ∷ 45 ∷ 1 ∷ 45 ∷ 2 ∷ 29 ∷ 2 ∷ 40 ∷ 2 ∷ []) 4 Live 8 1
    (frame_of x Nil (tell (message true 300 Nil (True ∷ False ∷ []))) True False)
    ∷ row_on willing [] (44 ∷ 5 ∷ 18 ∷ 0 ∷ 40 ∷ 2 ∷ []) 2 Live 4 1
    (frame_of x Nil (tell (message false 18 (int 5) [])) d e)
    ∷ row_on willing [] (jumping 45 0 42) 2 Live 6 0 (frame_of x Nil Nil d e)
    ∷ []

-- after three steps over the fixed week file this one sends message 17, to the argument, with true
-- and false; the answer goes to cell 2, where the receiver is
abbrev pub SendsPutting : Type 0
SendsPutting =
    (x a b c d e : Value) →
    let o = opening fixed_meaning (bytes_of 0 method_flags [] putting) x (frame_of a b c d e) in
    AfterSteps week_meaning Replied 3 o.run o.frame fixed_week (λ run' f' s'.
    Sends run' f' (message false 17 x (True ∷ False ∷ [])) (Some 2))

-- the jump to itself runs on for every number of steps: the run, the frame and the host stay
abbrev pub RunsOn : Type 0
RunsOn =
    (n : ℕ) (x a b c d e : Value) →
    let o = opening fixed_meaning (bytes_of 0 method_flags [] (40 ∷ 2 ∷ [])) x
    (frame_of a b c d e) in
    (o.answer ≡ Ok 0) × (o.run.state ≡ Live) × (o.run.place ≡ 0) × (o.run.height ≡ 0)
    × (o.frame ≡ frame_of x Nil c d e)
    × AfterSteps week_meaning Replied n o.run o.frame fixed_week (λ run' f' s'.
    (run' ≡ o.run) × (f' ≡ o.frame) × (s' ≡ fixed_week))

-- every run that was worked out
pub record WorkedRunRows : Type 0 where
  pub branches : RowsHold week_meaning Replied fixed_week branch_rows
  pub messages : RowsHold week_meaning Replied fixed_week message_rows
  pub stores : RowsHold week_meaning Replied fixed_week store_rows
  pub pushes : RowsHold week_meaning Replied fixed_week push_rows
  pub others : RowsHold week_meaning Replied fixed_week other_rows
  pub not_understood : RowsHold (λ _. deaf) no_answer tt deaf_rows
  pub told_so : (tell : Sent → Value) → RowsHold (λ _. willing) (told tell) tt (told_rows tell)
  pub sends : SendsPutting
  pub runs_on : RunsOn
