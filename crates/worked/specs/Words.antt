-- The words of a run and of a cell as they are printed, worked out by hand.
use Rattle.std.specs.Prelude.{◌≡◌, ℕ, Bool, true, false, List, [], ◌∷◌, map, codes}
use Rattle.values.specs.declared.kinds.Value.{Value}
use Rattle.values.specs.declared.kinds.Value.TheVariants.{Nil, True, False, Object, Block, Closure}
use Rattle.hosts.specs.declared.rows.Row.{Row}
use Rattle.hosts.specs.declared.rows.Row.TheVariants.{Variables, Bindings}
use Rattle.parcels.specs.declared.opcodes.Ending.TheVariants.{Return, MethodReturn}
use Rattle.semantics.specs.declared.states.State.TheVariants.{Live, Ended, Stopped}
use Rattle.semantics.specs.declared.states.Stop.TheVariants.{NotUnderstood, NoBlock}
use Rattle.planning.specs.declared.texts.CellText.{CellText}
use Rattle.planning.specs.Texts.{state_text, cell_text}
use Rattle.worked.specs.Runs.{int}

-- what is printed, and the words that it ought to be
pub record WordRow : Type 0 where
  pub printed : List ℕ
  pub words : List ℕ

-- such a row out of its parts
abbrev pub words_of : (printed words : List ℕ) → WordRow
words_of p w = record { printed = p; words = w }

-- cell i of a row, with its mark and its value
abbrev pub cell : Row → ℕ → Bool → Value → CellText
cell r i t v = record { row = r; number = i; trusted = t; value = v }

-- runs and cells
abbrev pub word_rows : List WordRow
word_rows =
    words_of (state_text Live 6 3) (codes "live at 6 after 3 steps")
    ∷ words_of (state_text (Ended Return (int 5)) 4 2)
    (codes "ended by return with integer 5 after 2 steps")
    ∷ words_of (state_text (Ended MethodReturn True) 4 2)
    (codes "ended by method return with true after 2 steps")
    ∷ words_of (state_text (Stopped (NotUnderstood 18)) 2 1)
    (codes "stopped at 2, message 18 not understood, after 1 steps")
    ∷ words_of (state_text (Stopped NoBlock) 6 3) (codes "stopped at 6, no block, after 3 steps")
    ∷ words_of (cell_text (cell Variables 2 false Nil)) (codes "variable 2: open nil")
    ∷ words_of (cell_text (cell Variables 3 true False)) (codes "variable 3: trusted false")
    ∷ words_of (cell_text (cell Bindings 0 false (Object 12))) (codes "binding 0: open object 12")
    ∷ words_of (cell_text (cell Bindings 1 true (Block 9))) (codes "binding 1: trusted block 9")
    ∷ words_of (cell_text (cell Bindings 1 false (Closure 9))) (codes "binding 1: open closure 9")
    ∷ []

-- the words are printed
abbrev pub WorkedWords : Type 0
WorkedWords = map (λ (r : WordRow). r.printed) word_rows ≡ map (λ (r : WordRow). r.words) word_rows
