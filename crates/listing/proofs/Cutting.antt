-- A verdict is settled by one byte more than the longest parcel has.
use Rattle.std.proofs.Common.{◌≡◌, ℕ, ◌+◌, ◌<◌, Bool, true, false, not, nat_eq, nat_lt, List, [], ◌∷◌, ◌++◌, length, take, replicate, Some, None, Ok, Err, Option, Result, IfSome, refl, sym, ap, ◌∙◌, arith, ltb-false, ne_eqb, le-ltb, ltb-true}
use Rattle.std.specs.Option.{option_map}
use Rattle.std.proofs.lemmas.List.{get_or-take, length-take-le, take_all}
use Rattle.values.specs.Faults.{fault}
use Rattle.values.specs.Bytes.{be16}
use Rattle.values.specs.Order.{test, first, unless, and_then}
use Rattle.values.specs.declared.faults.Fault.{Fault}
use Rattle.values.specs.declared.faults.Rule.TheVariants.{HeaderShort, KindUnknown, LiteralsTooMany, CodeTooLong, LengthWrong}
use Rattle.hosts.specs.Meaning.{marks_of}
use Rattle.parcels.specs.Layouts.{kind_field, literal_count_field, code_length_field, stated_length, header, flagged}
use Rattle.parcels.specs.Parts.{Parts, split, parts_of}
use Rattle.stages.specs.Check.{Question, question_on, parts_admitted, admission_fault, checked_by}
use Rattle.listing.specs.Listed.{as_verdict, verdict_on, SameVerdict}
use Rattle.listing.specs.declared.reading.TheConstants.{MAX_PARCEL}

-- the refusal of too many bytes, by the rules that come before the length
abbrev refusal : Bool → Bool → Bool → Fault
refusal true l c = fault KindUnknown 0
refusal false true c = fault LiteralsTooMany 2
refusal false false true = fault CodeTooLong 8
refusal false false false = fault LengthWrong 8

-- the header rules find it, if the length is wrong wherever the counts are right
found : (s k l c e : Bool) → s ≡ false → (l ≡ false → c ≡ false → e ≡ true)
    → first (test HeaderShort 0 s ∷ test KindUnknown 0 k ∷ test LiteralsTooMany 2 l ∷ test CodeTooLong 8 c ∷ test LengthWrong 8 e ∷ []) ≡ Some (refusal k l c)
found true k l c e short wrong = absurd cc
found false true l c e short wrong = refl
found false false true c e short wrong = refl
found false false false true e short wrong = refl
found false false false false true short wrong = refl
found false false false false false short wrong = let e = wrong refl refl in absurd cc

-- the refusal of bytes that are longer than every parcel
abbrev refusal_of : List ℕ → Fault
refusal_of b = refusal (nat_lt 1 (kind_field b)) (nat_lt 1024 (literal_count_field b)) (nat_lt 4096 (code_length_field b))

length_wrong : (b : List ℕ) → MAX_PARCEL < length b
    → nat_lt 1024 (literal_count_field b) ≡ false → nat_lt 4096 (code_length_field b) ≡ false → not (nat_eq (length b) (stated_length b)) ≡ true
length_wrong b long few short =
    ap not (ne_eqb (length b) (stated_length b) (λ e. omega (arith, e, long, ltb-false 1024 (literal_count_field b) few, ltb-false 4096 (code_length_field b) short)))

too_long : (b : List ℕ) → MAX_PARCEL < length b → parts_of b ≡ Err (refusal_of b)
too_long b long =
    ap (λ x. and_then (and_then (unless x (header b)) flagged) (λ l. Ok (split b l)))
    (found (nat_lt (length b) 10) (nat_lt 1 (kind_field b)) (nat_lt 1024 (literal_count_field b)) (nat_lt 4096 (code_length_field b)) (not (nat_eq (length b) (stated_length b)))
    (le-ltb (length b) 10 (omega (arith, long))) (length_wrong b long))

-- the first ten bytes say the same
same_field : (n : ℕ) (b : List ℕ) (i : ℕ) → i + 1 < n → be16 (take n b) i ≡ be16 b i
same_field n b i l = rw (get_or-take n b i 0 (omega (arith, l)), get_or-take n b (i + 1) 0 l) refl

cut_refusal : (n : ℕ) (b : List ℕ) → MAX_PARCEL < n → refusal_of (take n b) ≡ refusal_of b
cut_refusal n b l =
    rw (same_field n b 0 (omega (arith, l)), same_field n b 2 (omega (arith, l)), same_field n b 8 (omega (arith, l))) refl

cut_parts : (n : ℕ) (b : List ℕ) → MAX_PARCEL < n → parts_of (take n b) ≡ parts_of b
cut_parts n b l = by_length (nat_lt n (length b)) refl
  where
    by_length : (t : Bool) → nat_lt n (length b) ≡ t → parts_of (take n b) ≡ parts_of b
    by_length false e = ap parts_of (take_all n b (ltb-false n (length b) e))
    by_length true e =
        let more = ltb-true n (length b) e in
        let size = length-take-le n b (omega (arith, more)) in
        too_long (take n b) (omega (arith, size, l)) ∙ ap (λ f. Err f) (cut_refusal n b l) ∙ sym (too_long b (omega (arith, more, l)))

-- a verdict asks for the bytes by the parts alone
by_parts : (q r : Question) (p : Result Parts Fault) → q.marks ≡ r.marks → q.trusted ≡ r.trusted → (checked_by q p).verdict ≡ (checked_by r p).verdict
by_parts q r (Ok p) e d = rw (e, d) refl
by_parts q r (Err f) e d = refl

settled : (k : ℕ) (b : List ℕ) → MAX_PARCEL < k → SameVerdict (take k b) b
settled k b l m t n =
    let hs = replicate n 0 in
    let q = question_on m t (take k b) hs hs in
    let r = question_on m t b hs hs in
    ap as_verdict
    (by_parts q r (parts_admitted (marks_of m) (take k b) (length hs) (length hs)) refl refl
    ∙ ap (λ x. (checked_by r (and_then x (λ p. unless (admission_fault (marks_of m) p (length hs) (length hs)) p))).verdict) (cut_parts k b l))

-- what is read of an input, where that is known, up to a byte more than the longest parcel has
pub read_cut : (o : Option (List ℕ)) (k : ℕ) (start items : List ℕ) → start ≡ [] → k ≡ MAX_PARCEL + 1
    → IfSome (option_map (take k) o) (λ xs. items ≡ start ++ xs) → IfSome o (λ all. items ≡ take (MAX_PARCEL + 1) all)
read_cut None k start items e d x = tt
read_cut (Some all) k start items e d x = x ∙ ap (λ s. s ++ take k all) e ∙ ap (λ n. take n all) d

-- has the verdict of the whole
pub read_settled : (o : Option (List ℕ)) (items : List ℕ) → IfSome o (λ all. items ≡ take (MAX_PARCEL + 1) all) → IfSome o (λ all. SameVerdict items all)
read_settled None items x = tt
read_settled (Some all) items x = λ m t n. ap (λ b. verdict_on m t n b) x ∙ settled (MAX_PARCEL + 1) all (omega arith) m t n
