-- What may come of a script, and what holds everywhere in one.
use Rattle.std.specs.Prelude.{◌≡◌, ℕ, List, take, drop, Option, None, slice_index_or, slice_set}
use Rattle.values.specs.declared.kinds.Value.{Value}
use Rattle.values.specs.declared.kinds.Value.TheVariants.{Nil}
use Rattle.hosts.specs.Meaning.{Meaning, Sent, Answered, row_of, with_cell, cell_value}
use Rattle.parcels.specs.Literals.{literal}
use Rattle.semantics.specs.Scripts.{Access, read_cell, read_cells, write_cell, read_literal, read_receiver, read_row, write_row, send, Answer, Outcome, Leaf, comes_to, stuck, Script, act, done}

-- the frame after an access
abbrev pub frame_after : Access → List Value → List Value
frame_after (write_cell i v) f = slice_set f i v
frame_after _ f = f

module _ (literals : List ℕ) where
  -- what an access answers, from a frame and a host's meaning; a message is answered by the host
  abbrev pub answer_of : (a : Access) → List Value → Meaning → Answer a
  answer_of (read_cell i) f m = slice_index_or f i Nil
  answer_of (read_cells i n) f m = take n (drop i f)
  answer_of (write_cell i v) f m = tt
  answer_of (read_literal i) f m = literal literals i
  answer_of read_receiver f m = m.receiver
  answer_of (read_row r i) f m = cell_value (row_of m r) i
  answer_of (write_row r i v) f m = tt
  answer_of (send x) f m = None

  module _ {S : Type 0} (means : S → Meaning) (may : S → Sent → Value → S → Type 0) where
    -- what one access does to a frame and a host, of whose answer, frame and host afterwards P
    -- then holds: a write to a row leaves a host that means just that, and of a message comes what
    -- the host's meaning leaves open
    abbrev pub Does : (a : Access) → List Value → S → (Answer a → List Value → S → Type 0) → Type 0
    Does (write_row r i v) f s P = (t : S) × (means t ≡ with_cell (means s) r i v) × P tt f t
    Does (send m) f s P = (r : Option Value) × (t : S) × Answered means may s m r t × P r f t
    Does a f s P = P (answer_of a f (means s)) (frame_after a f) s

    -- from the frame f and the host s a script may come to the outcome o, with f' and s' afterwards
    abbrev pub Exec : Script → List Value → S → Outcome → List Value → S → Type 0
    Exec (act a k) f s o f' s' = Does a f s (λ x g t. Exec (k x) g t o f' s')
    Exec (done (comes_to q)) f s o f' s' = (o ≡ q) × (f' ≡ f) × (s' ≡ s)
    Exec (done stuck) f s o f' s' = ⊥

  -- P holds of every answer that an access may get: a literal is the parcel's, all else is free
  abbrev pub ForAnswers : (a : Access) → (Answer a → Type 0) → Type 0
  ForAnswers (read_literal i) P = P (literal literals i)
  ForAnswers a P = (x : Answer a) → P x

  -- every access of a script keeps Q and every leaf keeps L, whatever is answered on the way
  abbrev pub Everywhere : (Access → Type 0) → (Leaf → Type 0) → Script → Type 0
  Everywhere Q L (act a k) = Q a × ForAnswers a (λ x. Everywhere Q L (k x))
  Everywhere Q L (done l) = L l
