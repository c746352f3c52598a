-- Answers of the arithmetic layer worked out by hand, and runs over it.
use Rattle.std.specs.Prelude.{◌≡◌, ℕ, false, List, [], ◌∷◌, ℤ, pos, negsuc, Some, None}
use Rattle.std.specs.Option.{unwrap_or}
use Rattle.values.specs.Kinds.{integer}
use Rattle.values.specs.declared.kinds.Value.{Value}
use Rattle.values.specs.declared.kinds.Value.TheVariants.{Nil, True}
use Rattle.hosts.specs.Meaning.{Meaning, Sent, message}
use Rattle.semantics.specs.declared.states.State.TheVariants.{Live, Stopped}
use Rattle.semantics.specs.declared.states.Stop.TheVariants.{NotUnderstood}
use Rattle.arithmetic.specs.Layer.{layered, MayLayered}
use Rattle.arithmetic.specs.Own.{own_answer}
use Rattle.week_file.specs.Files.{week_meaning, Replied}
use Rattle.listing.specs.Listed.{fixed_week}
use Rattle.worked.specs.Hosts.{fixed_meaning}
use Rattle.worked.specs.Running.{frame_of, RunRow, RowsHold}
use Rattle.worked.specs.Runs.{int, row_on}

-- the small integer z; `negsuc n` is -n - 1
abbrev pub whole : ℤ → Value
whole z = unwrap_or (integer z) Nil

-- the message with number s to x, with the argument y
abbrev pub to_whole : (s : ℕ) (x y : ℤ) → Sent
to_whole s x y = message false s (whole x) (whole y ∷ [])

-- quotients and remainders that the layer answers
pub record WorkedDivisions : Type 0 where
  pub quotient : own_answer (to_whole 13 (negsuc 6) (pos 2)) ≡ Some (whole (negsuc 3))
  pub remainder : own_answer (to_whole 10 (negsuc 6) (pos 2)) ≡ Some (whole (pos 1))
  pub negative_remainder :
      own_answer (to_whole 10 (pos 7) (negsuc 1)) ≡ Some (whole (negsuc 0))
  pub by_zero : own_answer (to_whole 13 (pos 7) (pos 0)) ≡ None

-- the literal that is the integer -7
abbrev pub minus_7 : List ℕ
minus_7 = 0 ∷ 3 ∷ 255 ∷ 255 ∷ 255 ∷ 249 ∷ []

-- the literal that is the integer -2
abbrev pub minus_2 : List ℕ
minus_2 = 0 ∷ 3 ∷ 255 ∷ 255 ∷ 255 ∷ 254 ∷ []

-- the layer over the fixed week file
abbrev pub over_week : List ℕ → Meaning
over_week b = layered (week_meaning b)

-- runs over the layer: what it answers itself, what it passes down, and what nobody understands
abbrev pub layer_rows : (x c d e : Value) → List RunRow
layer_rows x c d e =
    row_on (layered fixed_meaning) minus_7 (46 ∷ 0 ∷ 44 ∷ 2 ∷ 13 ∷ 0 ∷ 40 ∷ 2 ∷ []) 3 Live 6 1
    (frame_of x Nil (whole (negsuc 3)) (int 2) e)
    ∷ row_on (layered fixed_meaning) minus_7 (46 ∷ 0 ∷ 44 ∷ 2 ∷ 10 ∷ 0 ∷ 40 ∷ 2 ∷ []) 3 Live 6 1
    (frame_of x Nil (int 1) (int 2) e)
    ∷ row_on (layered fixed_meaning) minus_2 (44 ∷ 7 ∷ 46 ∷ 0 ∷ 10 ∷ 0 ∷ 40 ∷ 2 ∷ []) 3 Live 6 1
    (frame_of x Nil (whole (negsuc 0)) (whole (negsuc 1)) e)
    ∷ row_on (layered fixed_meaning) [] (45 ∷ 0 ∷ 20 ∷ 0 ∷ 40 ∷ 2 ∷ []) 2 Live 4 1
    (frame_of x Nil True d e)
    ∷ row_on (layered fixed_meaning) [] (44 ∷ 7 ∷ 44 ∷ 0 ∷ 13 ∷ 0 ∷ 40 ∷ 2 ∷ []) 3
    (Stopped (NotUnderstood 13)) 4 2 (frame_of x Nil (int 7) (int 0) e)
    ∷ []

-- what was worked out of the layer
pub record WorkedNumbers : Type 0 where
  pub divisions : WorkedDivisions
  pub runs : RowsHold over_week (MayLayered Replied) fixed_week layer_rows
