-- The six bytes of a literal, read from the part that begins with them.
use Rattle.std.proofs.Common.{◌≡◌, ℕ, ◌+◌, ◌-◌, ◌*◌, ◌<◌, ◌≤◌, ltb, List, length, get_or, Option, sym, ap, ◌∙◌, arith, get_or-drop, get_or-take}
use Rattle.std.specs.List.{slice_range}
use Rattle.std.proofs.lemmas.Bool.{cond-false, le-ltb}
use Rattle.values.specs.Bytes.{at, be32}
use Rattle.parcels.specs.Literals.{literal_of, literal}
use Rattle.parcels.specs.declared.literals.Literal.{Literal}

-- byte i of the part from s on
part_at : (xs : List ℕ) (s i : ℕ) → s + i < length xs
    → get_or (slice_range xs s (length xs)) i 0 ≡ at xs (s + i)
part_at xs s i h = let l : i < length xs - s = omega arith in rw (get_or-take, get_or-drop)

-- the part has literal k at its front
pub literal_read : (ls part : List ℕ) (k n : ℕ) (r : Option Literal)
    → part ≡ slice_range ls (6 * k) (length ls)
    → 6 * k + 6 ≤ length ls
    → n ≡ be32 part 2
    → r ≡ literal_of (get_or part 0 0) (get_or part 1 0) n
    → r ≡ literal ls k
literal_read ls part k n r p h e f =
    f
    ∙ ap (λ d. literal_of d (get_or part 1 0) n) (moved 0 (6 * k) (omega arith) (omega arith))
    ∙ ap (λ d. literal_of (at ls (6 * k)) d n) (moved 1 (6 * k + 1) (omega arith) (omega arith))
    ∙ ap (literal_of (at ls (6 * k)) (at ls (6 * k + 1))) number
    ∙ sym (cond-false (ltb (length ls) (6 * k + 6)) _ _ (le-ltb _ _ h))
  where
    moved : (i j : ℕ) → i < 6 → 6 * k + i ≡ j → get_or part i 0 ≡ at ls j
    moved i j l q =
        ap (λ (xs : List ℕ). get_or xs i 0) p
        ∙ part_at ls (6 * k) i (omega arith) ∙ ap (at ls) q

    number : n ≡ be32 ls (6 * k + 2)
    number =
        let a = moved 2 (6 * k + 2) (omega arith) (omega arith) in
        let b = moved 3 (6 * k + 2 + 1) (omega arith) (omega arith) in
        let c = moved 4 (6 * k + 2 + 2) (omega arith) (omega arith) in
        let d = moved 5 (6 * k + 2 + 3) (omega arith) (omega arith) in
        omega arith
