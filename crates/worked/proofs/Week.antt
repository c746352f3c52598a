-- The hosts of the worked runs answer by what is known of them.
use Rattle.std.proofs.Common.{◌≡◌, ℕ, List, Some, None, Option, Ok, Err, Result, sym, refl, ap, ◌∙◌}
use Rattle.std.specs.Prelude.{◌||◌, MatchBool, MatchOption, is_some}
use Rattle.std.specs.Option.{option_or}
use Rattle.values.specs.declared.faults.Fault.{Fault}
use Rattle.values.specs.declared.kinds.Value.{Value}
use Rattle.hosts.specs.Meaning.{Sent, with_cell}
use Rattle.hosts.specs.declared.rows.Row.{Row}
use Rattle.hosts.specs.declared.rows.Row.TheVariants.{Variables, Bindings}
use Rattle.arithmetic.specs.Layer.{layered, MayLayered}
use Rattle.arithmetic.specs.Own.{own_answer}
use Rattle.week_file.specs.Cells.{written}
use Rattle.week_file.specs.Files.{week_meaning, Replied}
use Rattle.week_file.specs.Replies.{replies}
use Rattle.week_file.specs.Rows.{place_at}
use Rattle.week_file.proofs.Asking.{put_at, put_past}
use Rattle.worked.specs.Hosts.{deaf, no_answer, willing, told}
use Rattle.worked.specs.Numbers.{over_week}
use Rattle.worked.proofs.Playing.{Replies}

-- a message to a week file
week_known : (b : List ℕ) (m : Sent) (q r : Option Value) (c : List ℕ) → replies m ≡ q
    → MatchBool (is_some q) (MatchOption r ⊥ (λ v. Replied b m v c))
    ((r ≡ None) × (week_meaning c ≡ week_meaning b))
    → (r ≡ replies m) × (week_meaning c ≡ week_meaning b)
week_known b m None r c e x = (x.0 ∙ sym e, x.1)
week_known b m (Some v) None c e x = absurd x
week_known b m (Some v) (Some w) c e x = (sym x.0, ap week_meaning x.1)

week_comes : (b : List ℕ) (m : Sent) (q : Option Value) → replies m ≡ q
    → MatchBool (is_some q) (MatchOption q ⊥ (λ v. Replied b m v b))
    ((q ≡ None) × (week_meaning b ≡ week_meaning b))
week_comes b m None e = (refl, refl)
week_comes b m (Some v) e = (e, refl)

-- a write to a week file
week_written : (b : List ℕ) (row : Row) (i : ℕ) (v : Value) (q : Result ℕ Fault)
    → q ≡ place_at b row i → (c : List ℕ) × (week_meaning c ≡ with_cell (week_meaning b) row i v)
week_written b row i v (Ok p) e = (written b p v, sym (put_at b row i p v e))
week_written b row i v (Err y) e = (b, sym (put_past b row i y v e))

pub week_replies : Replies replies week_meaning Replied
week_replies = record {
  known = λ b m r c x. week_known b m (replies m) r c refl x;
  comes = λ b m. week_comes b m (replies m) refl;
  writes = λ b row i v. week_written b row i v (place_at b row i) refl;
}

-- a host without cells stays as it is
pub deaf_replies : Replies (λ _. None) (λ (_ : Unit {0}). deaf) no_answer
deaf_replies = record {
  known = λ s m r t x. (x.0, refl);
  comes = λ s m. (refl, refl);
  writes = λ s row i v. (tt, by row i v);
}
  where
    by : (row : Row) (i : ℕ) (v : Value) → deaf ≡ with_cell deaf row i v
    by Variables i v = refl
    by Bindings i v = refl

pub willing_replies : (tell : Sent → Value)
    → Replies (λ m. Some (tell m)) (λ (_ : Unit {0}). willing) (told tell)
willing_replies tell = record {
  known = known;
  comes = λ s m. refl;
  writes = λ s row i v. (tt, by row i v);
}
  where
    known : (s : Unit {0}) (m : Sent) (r : Option Value) (t : Unit {0})
        → MatchOption r ⊥ (λ v. v ≡ tell m) → (r ≡ Some (tell m)) × (willing ≡ willing)
    known s m None t x = absurd x
    known s m (Some v) t x = (ap Some x, refl)

    by : (row : Row) (i : ℕ) (v : Value) → willing ≡ with_cell willing row i v
    by Variables i v = refl
    by Bindings i v = refl

-- the layer answers itself, or else the week file below does
abbrev pub layer_reply : Sent → Option Value
layer_reply m = option_or (own_answer m) (replies m)

layer_known : (b : List ℕ) (m : Sent) (o q r : Option Value) (c : List ℕ) → replies m ≡ q
    → MatchBool (is_some o || is_some q)
    (MatchOption r ⊥ (λ v. MatchOption o (Replied b m v c) (λ w. (v ≡ w) × (c ≡ b))))
    ((r ≡ None) × (over_week c ≡ over_week b))
    → (r ≡ option_or o q) × (over_week c ≡ over_week b)
layer_known b m (Some w) q None c e x = absurd x
layer_known b m (Some w) q (Some v) c e x = (ap Some x.0, ap over_week x.1)
layer_known b m None None r c e x = x
layer_known b m None (Some v) None c e x = absurd x
layer_known b m None (Some v) (Some w) c e x = (sym x.0 ∙ e, ap over_week x.1)

layer_comes : (b : List ℕ) (m : Sent) (o q : Option Value) → replies m ≡ q
    → MatchBool (is_some o || is_some q)
    (MatchOption (option_or o q) ⊥
    (λ v. MatchOption o (Replied b m v b) (λ w. (v ≡ w) × (b ≡ b))))
    ((option_or o q ≡ None) × (over_week b ≡ over_week b))
layer_comes b m (Some w) q e = (refl, refl)
layer_comes b m None None e = (refl, refl)
layer_comes b m None (Some v) e = (e, refl)

-- a write goes to the file below
layer_writes : (b : List ℕ) (row : Row) (i : ℕ) (v : Value)
    → (c : List ℕ) × (over_week c ≡ with_cell (over_week b) row i v)
layer_writes b Variables i v =
    let x = week_replies.writes b Variables i v in (x.0, ap layered x.1)
layer_writes b Bindings i v =
    let x = week_replies.writes b Bindings i v in (x.0, ap layered x.1)

pub layer_replies : Replies layer_reply over_week (MayLayered Replied)
layer_replies = record {
  known = λ b m r c x. layer_known b m (own_answer m) (replies m) r c refl x;
  comes = λ b m. layer_comes b m (own_answer m) (replies m) refl;
  writes = layer_writes;
}
