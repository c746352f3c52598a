-- Every example.
use Rattle.std.specs.Prelude.{ℕ, ◌+◌, length}
use Rattle.values.specs.declared.kinds.Value.TheVariants.{Nil}
use Rattle.worked.specs.Verdicts.{verdict_rows, WorkedVerdictLines}
use Rattle.worked.specs.Runs.{branch_rows, message_rows, store_rows, push_rows, other_rows, deaf_rows, told_rows, WorkedRunRows}
use Rattle.worked.specs.Words.{word_rows, WorkedWords}
use Rattle.worked.specs.Numbers.{layer_rows, WorkedNumbers}

-- lines of verdicts, runs, numbers and words, worked out by hand
pub record WorkedExamples : Type 0 where
  pub verdicts : WorkedVerdictLines
  pub runs : WorkedRunRows
  pub numbers : WorkedNumbers
  pub words : WorkedWords

-- how many rows there are
abbrev pub example_count : ℕ
example_count =
    length verdict_rows
    + (length (branch_rows Nil Nil Nil Nil)
    + (length (message_rows Nil Nil Nil Nil)
    + (length (store_rows Nil Nil Nil Nil)
    + (length (push_rows Nil Nil Nil Nil)
    + (length (other_rows Nil Nil Nil Nil)
    + (length (deaf_rows Nil Nil Nil Nil)
    + (length (told_rows (λ _. Nil) Nil Nil Nil Nil)
    + (length (layer_rows Nil Nil Nil Nil)
    + length word_rows))))))))
