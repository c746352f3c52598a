-- What is left of the check once a context is admitted.
use Rattle.std.proofs.Common.{◌≡◌, List, ℕ, length, Ok, Err, Result, refl, ap, ◌∙◌}
use Rattle.values.specs.Order.{and_then}
use Rattle.values.specs.declared.faults.Fault.{Fault}
use Rattle.parcels.specs.Parts.{Parts}
use Rattle.stages.specs.Encoding.{Context, context}
use Rattle.stages.specs.Check.{Question, pairs, parts_admitted, context_admitted, heights_found, Checked, concluded, checked_by, checked}

-- the answer and the lists, by what the rules look at
abbrev pub settled : List ℕ → List ℕ → Result Context Fault → Checked
settled hs ws (Err f) = record { verdict = Err f; heights = hs; waiting = ws }
settled hs ws (Ok x) = concluded (pairs x.parts.code) hs ws (heights_found x)

settled_is : (q : Question) (r : Result Parts Fault)
    → settled q.heights q.waiting (and_then r (λ p. Ok (context p q.marks q.trusted)))
    ≡ checked_by q r
settled_is q (Err f) = refl
settled_is q (Ok p) = refl

-- it is the definition's
pub by_context : (q : Question) (r : Result Context Fault)
    → r ≡ context_admitted q.marks q.trusted q.bytes (length q.heights) (length q.waiting)
    → settled q.heights q.waiting r ≡ checked q
by_context q r e =
    ap (settled q.heights q.waiting) e
    ∙ settled_is q (parts_admitted q.marks q.bytes (length q.heights) (length q.waiting))
