-- A cell by its three fields, and the five bytes of a value.
use Rattle.std.proofs.Common.{◌≡◌, ℕ, ◌+◌, ◌-◌, ◌/◌, ◌%◌, ◌^◌, ◌<◌, List, [], ◌∷◌, ◌++◌, get_or, take, drop, ap, ◌∙◌, arith}
use borrow.Rule.Slice.PartMut.{put_mid}
use Rattle.std.proofs.lemmas.List.{drop-drop}
use Rattle.values.specs.Kinds.{kind_number, number_field}
use Rattle.values.specs.declared.kinds.Value.{Value}
use Rattle.week_file.specs.Cells.{RawCell, five_bytes, written}

abbrev pub raw : ℕ → ℕ → ℕ → RawCell
raw m k n = record { mark = m; kind = k; number = n }

pub same_raw : (m k n m' k' n' : ℕ) → m ≡ m' → k ≡ k' → n ≡ n' → raw m k n ≡ raw m' k' n'
same_raw m k n m' k' n' p q r = cc

-- the five bytes of a value, as they are computed
pub five_made : (v : Value) (k n : ℕ) (t : List ℕ) → k ≡ kind_number v → n ≡ number_field v → n < 2 ^ 32
    → t ≡ n / 16777216 % 256 ∷ n / 65536 % 256 ∷ n / 256 % 256 ∷ n % 256 ∷ []
    → k ∷ get_or t 0 0 ∷ get_or t 1 0 ∷ get_or t 2 0 ∷ get_or t 3 0 ∷ [] ≡ five_bytes v
five_made v k n t p q f e =
    let top : n / 16777216 % 256 ≡ n / 16777216 = omega arith in
    ap (λ s. k ∷ get_or s 0 0 ∷ get_or s 1 0 ∷ get_or s 2 0 ∷ get_or s 3 0 ∷ []) e
    ∙ ap (λ x. k ∷ x ∷ n / 65536 % 256 ∷ n / 256 % 256 ∷ n % 256 ∷ []) top
    ∙ ap (λ x. x ∷ n / 16777216 ∷ n / 65536 % 256 ∷ n / 256 % 256 ∷ n % 256 ∷ []) p
    ∙ ap (λ m. kind_number v ∷ m / 16777216 ∷ m / 65536 % 256 ∷ m / 256 % 256 ∷ m % 256 ∷ []) q

-- and put in their place
pub five_put : (b ys : List ℕ) (o : ℕ) (v : Value) → ys ≡ five_bytes v
    → put_mid (o + 1) (o + 6 - (o + 1)) b ys ≡ written b o v
five_put b ys o v e =
    ap (λ zs. put_mid (o + 1) (o + 6 - (o + 1)) b zs) e
    ∙ ap (λ t. take (o + 1) b ++ (five_bytes v ++ t)) (drop-drop (o + 6 - (o + 1)) (o + 1) b ∙ ap (λ j. drop j b) (omega arith))
