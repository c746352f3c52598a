-- The examples, by computation.
use Rattle.std.proofs.Common.{◌≡◌, ℕ, zero, suc, false, List, [], ◌∷◌, map, None, Some, Ok, sym, refl, ap, ◌∙◌, subst}
use Rattle.std.specs.Fmt.{digits}
use Rattle.hosts.specs.Meaning.{Sent, message}
use Rattle.safety.specs.Histories.{Sends, short}
use Rattle.values.specs.declared.kinds.Value.TheVariants.{Nil, True, False}
use Rattle.values.specs.declared.kinds.Value.{Value}
use Rattle.arithmetic.specs.Layer.{MayLayered}
use Rattle.week_file.specs.Files.{week_meaning, Replied}
use Rattle.week_file.specs.Replies.{replies}
use Rattle.listing.specs.Listed.{fixed_week}
use Rattle.semantics.specs.Scripts.{continues}
use Rattle.semantics.specs.Steps.{RunView, CallAnswer, moved, Step}
use Rattle.worked.specs.Examples.{WorkedExamples}
use Rattle.worked.specs.Hosts.{fixed_meaning, deaf, no_answer, willing, told}
use Rattle.worked.specs.Running.{MayStep, AfterSteps, bytes_of, method_flags, RunRow, opening, EveryRow, RowsHold, frame_of}
use Rattle.worked.specs.Runs.{branch_rows, message_rows, store_rows, push_rows, other_rows, deaf_rows, told_rows, putting, SendsPutting, RunsOn}
use Rattle.worked.specs.Verdicts.{WorkedVerdictLines}
use Rattle.worked.specs.Words.{WorkedWords}
use Rattle.worked.specs.Numbers.{WorkedDivisions, over_week, layer_rows}
use Rattle.worked.proofs.Playing.{Reached, Comes, after_steps, after_more, computed, expected, rows_hold}
use Rattle.worked.proofs.Week.{week_replies, deaf_replies, willing_replies, layer_reply, layer_replies}

worked_verdict_lines : WorkedVerdictLines
unfolding digits
worked_verdict_lines = refl

worked_words : WorkedWords
unfolding digits
worked_words = refl

worked_divisions : WorkedDivisions
worked_divisions = record {
  quotient = refl;
  remainder = refl;
  negative_remainder = refl;
  by_zero = refl;
}

-- rows over the fixed week file
week_rows : (x a b c d e : Value) (rs : List RunRow)
    → map (computed replies week_meaning Replied week_replies fixed_week x (frame_of a b c d e)) rs
    ≡ map (expected replies week_meaning Replied week_replies fixed_week x (frame_of a b c d e)) rs
    → EveryRow week_meaning Replied fixed_week x (frame_of a b c d e) rs
week_rows x a b c d e rs =
    rows_hold replies week_meaning Replied week_replies fixed_week x (frame_of a b c d e) rs

branches : RowsHold week_meaning Replied fixed_week branch_rows
branches x a b c d e = week_rows x a b c d e (branch_rows x c d e) refl

messages : RowsHold week_meaning Replied fixed_week message_rows
messages x a b c d e = week_rows x a b c d e (message_rows x c d e) refl

stores : RowsHold week_meaning Replied fixed_week store_rows
stores x a b c d e = week_rows x a b c d e (store_rows x c d e) refl

pushes : RowsHold week_meaning Replied fixed_week push_rows
pushes x a b c d e = week_rows x a b c d e (push_rows x c d e) refl

others : RowsHold week_meaning Replied fixed_week other_rows
others x a b c d e = week_rows x a b c d e (other_rows x c d e) refl

not_understood : RowsHold (λ (_ : Unit {0}). deaf) no_answer tt deaf_rows
not_understood x a b c d e =
    rows_hold (λ _. None) (λ _. deaf) no_answer deaf_replies tt x (frame_of a b c d e)
    (deaf_rows x c d e) refl

told_so : (tell : Sent → Value)
    → RowsHold (λ (_ : Unit {0}). willing) (told tell) tt (told_rows tell)
told_so tell x a b c d e =
    rows_hold (λ m. Some (tell m)) (λ _. willing) (told tell) (willing_replies tell) tt x
    (frame_of a b c d e) (told_rows tell x c d e) refl

layer_runs : RowsHold over_week (MayLayered Replied) fixed_week layer_rows
layer_runs x a b c d e =
    rows_hold layer_reply over_week (MayLayered Replied) layer_replies fixed_week x
    (frame_of a b c d e) (layer_rows x c d e) refl

-- what holds of a run and a frame holds of those that come
carried : (P : RunView → List Value → Type 0) (w : Reached RunView)
    → P w.0 w.1 → (run' : RunView) (f' : List Value) (s' : List ℕ)
    → Comes replies week_meaning Replied week_replies w run' f' s' → P run' f'
carried P w p run' f' s' h =
    subst (λ (r : RunView). P r f') (sym h.0) (subst (λ (g : List Value). P w.0 g) (sym h.1) p)

sends : SendsPutting
sends x a b c d e =
    let o = opening fixed_meaning (bytes_of 0 method_flags [] putting) x (frame_of a b c d e) in
    let run = record o.run { place = 6; height = 3 } in
    let f = frame_of x Nil x True False in
    after_more week_meaning Replied 3 o.run o.frame fixed_week _ _
    (carried (λ run' f'. Sends run' f' (message false 17 x (True ∷ False ∷ [])) (Some 2))
    (run, f, fixed_meaning) (short (record { rest = _; read = refl; known = refl })))
    (after_steps replies week_meaning Replied week_replies 3 o.run o.frame fixed_week
    (run, f, fixed_meaning) refl)

-- a run whose step leaves all as it is runs on so
module _ (run : RunView) (f : List Value) (s : List ℕ)
    (comes : MayStep week_meaning Replied run f s)
    (only : (a : CallAnswer) (run' : RunView) (f' : List Value) (s' : List ℕ)
    → Step week_meaning Replied run f s a run' f' s'
    → (a ≡ Ok tt) × (run' ≡ run) × (f' ≡ f) × (s' ≡ s)) where
  stays : (n : ℕ) → AfterSteps week_meaning Replied n run f s (λ run' f' s'.
      (run' ≡ run) × (f' ≡ f) × (s' ≡ s))
  stays zero = (refl, refl, refl)
  stays (suc n) = (
    comes,
    λ a run' f' s' d.
        let x = only a run' f' s' d in
        let e : (run, f, s) ≡ (run', f', s') = sym (λ j. (x.1 j, x.2 j, x.3 j)) in (
          x.0,
          subst (λ (z : RunView × List Value × List ℕ).
              AfterSteps week_meaning Replied n z.0 z.1 z.2 (λ run' f' s'.
              (run' ≡ run) × (f' ≡ f) × (s' ≡ s))) e (stays n),
        ),
  )

runs_on : RunsOn
runs_on n x a b c d e =
    let o = opening fixed_meaning (bytes_of 0 method_flags [] (40 ∷ 2 ∷ [])) x
    (frame_of a b c d e) in (
      refl,
      refl,
      refl,
      refl,
      refl,
      stays o.run o.frame fixed_week
          (Ok tt, o.run, o.frame, fixed_week, (continues 0 0, refl, refl, (refl, refl, refl)))
          (λ a run' f' s' d. (d.1, d.2 ∙ ap (moved o.run) d.3.0, d.3.1, d.3.2)) n,
    )

pub worked_examples : WorkedExamples
worked_examples = record {
  verdicts = worked_verdict_lines;
  runs = record {
    branches = branches;
    messages = messages;
    stores = stores;
    pushes = pushes;
    others = others;
    not_understood = not_understood;
    told_so = told_so;
    sends = sends;
    runs_on = runs_on;
  };
  numbers = record { divisions = worked_divisions; runs = layer_runs };
  words = worked_words;
}
