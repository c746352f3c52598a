-- What the exit of a `?` answers.
use Rattle.std.proofs.Common.{◌≡◌, Err, Result, ap, ◌∙◌}
use Rattle.std.specs.Result.{IsErrAnd}
use Rattle.std.proofs.lemmas.Result.{err_from_is_err_and}

-- it is the error that the call answered
pub passed_on : {T E : Type 0} (r R : Result T E) (f : E)
    → IsErrAnd r (λ y. y ≡ f) → Err f ≡ R → r ≡ R
passed_on r R f h e = let q = err_from_is_err_and r h in q.1 ∙ ap Err q.2 ∙ e
