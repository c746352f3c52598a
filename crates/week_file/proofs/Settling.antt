-- What a file means settles its bytes.
use Rattle.std.proofs.Common.{◌≡◌, ℕ, zero, suc, ◌+◌, ◌-◌, ◌*◌, ◌/◌, ◌%◌, ◌^◌, ◌<◌, ◌≤◌, Bool, true, false, ◌⊎◌, inl, inr, List, length, Some, None, Option, unwrap_or, sym, refl, ap, ◌∙◌, subst, arith, w32, to_z}
use Rattle.std.specs.Prelude.{◌==◌, if◌then◌else◌}
use Rattle.std.specs.Option.{option_map}
use Rattle.std.specs.List.{slice_get}
use Rattle.std.proofs.lemmas.Bool.{eqb-true, cases_order}
use Rattle.std.proofs.lemmas.Int.{of_z-to_z}
use Rattle.std.proofs.lemmas.List.{ext_get_or, get_or_past}
use Rattle.std.proofs.lemmas.List.Elements.{All-get_or}
use Rattle.std.proofs.lemmas.Option.{none-some, same_Some}
use Rattle.values.specs.Bytes.{at, be16, be32}
use Rattle.values.specs.Kinds.{kind_number, number_field, plain_of, integer_of, value_of}
use Rattle.values.specs.Small.{in_range, small_if}
use Rattle.values.specs.declared.kinds.Value.{Value}
use Rattle.values.specs.declared.kinds.Value.TheVariants.{Nil, True, False, Integer, Object, Block, Closure}
use Rattle.hosts.specs.Meaning.{Cell, Meaning, row_of}
use Rattle.hosts.specs.declared.rows.Row.{Row}
use Rattle.hosts.specs.declared.rows.Row.TheVariants.{Variables, Bindings}
use Rattle.week_file.specs.Cells.{AreBytes, RawCell, raw_at, trusted_by, cell_of}
use Rattle.week_file.specs.Headers.{file_header, header_count, cell_start, cell_count}
use Rattle.week_file.specs.Files.{accepted, row_start, row_count, week_meaning}
use Rattle.week_file.specs.Laws.{Sound, MeaningSettlesBytes}
use Rattle.week_file.specs.Accepting.{kept}
use Rattle.week_file.specs.Counts.{length_row}
use Rattle.week_file.proofs.Pieces.{same_raw}
use Rattle.week_file.proofs.ReadBack.{there}
use Rattle.week_file.specs.declared.headers.FileHeader.{FileHeader}

-- one turn of the choice of a value by its kind
branch : {P : Type 0} (k j : ℕ) (x y : Option Value) (v : Value)
    → (if k == j then x else y) ≡ Some v → (k ≡ j → x ≡ Some v → P) → (y ≡ Some v → P) → P
branch {P} k j x y v e here on = by (k == j) refl e
  where
    by : (t : Bool) → (k == j) ≡ t → (if t then x else y) ≡ Some v → P
    by true q e = here (eqb-true k j q) e
    by false q e = on e

-- v has this kind and this number field
record HasParts (k n : ℕ) (v : Value) : Type 0 where
  kind : k ≡ kind_number v
  number : n ≡ number_field v

held_parts : (w v : Value) (k n : ℕ) → k ≡ kind_number w → n ≡ number_field w → Some w ≡ Some v
    → HasParts k n v
held_parts w v k n p q e = subst (HasParts k n) (same_Some _ _ e) (record { kind = p; number = q })

plain_parts : (w v : Value) (k n : ℕ) → k ≡ kind_number w → number_field w ≡ 0
    → plain_of w n ≡ Some v → HasParts k n v
plain_parts w v k n p z e = by (n == 0) refl e
  where
    by : (t : Bool) → (n == 0) ≡ t → (if t then Some w else None) ≡ Some v → HasParts k n v
    by true q e = held_parts w v k n p (eqb-true n 0 q ∙ sym z) e
    by false q e = absurd (none-some v e)

integer_parts : (v : Value) (k n : ℕ) → n < 2 ^ 32 → k ≡ 3 → integer_of n ≡ Some v → HasParts k n v
integer_parts v k n f p e = by (in_range (to_z w32 n)) refl e
  where
    by : (t : Bool) (q : in_range (to_z w32 n) ≡ t)
        → option_map Integer (small_if (to_z w32 n) t q) ≡ Some v → HasParts k n v
    by true q e = held_parts _ v k n p (sym (of_z-to_z w32 n f)) e
    by false q e = absurd (none-some v e)

-- the kind and the number field of a value are the only ones that it is read from
value_parts : (k n : ℕ) (v : Value) → n < 2 ^ 32 → value_of k n ≡ Some v → HasParts k n v
value_parts k n v f e =
    branch k 0 _ _ v e (λ p q. plain_parts Nil v k n p refl q) (λ e.
    branch k 1 _ _ v e (λ p q. plain_parts True v k n p refl q) (λ e.
    branch k 2 _ _ v e (λ p q. plain_parts False v k n p refl q) (λ e.
    branch k 3 _ _ v e (λ p q. integer_parts v k n f p q) (λ e.
    branch k 4 _ _ v e (λ p q. held_parts (Object n) v k n p refl q) (λ e.
    branch k 5 _ _ v e (λ p q. held_parts (Block n) v k n p refl q) (λ e.
    branch k 6 _ _ v e (λ p q. held_parts (Closure n) v k n p refl q) (λ e.
    absurd (none-some v e))))))))

-- two marks that say the same are one
mark_settled : (m n : ℕ) → (m ≡ 0) ⊎ (m ≡ 1) → (n ≡ 0) ⊎ (n ≡ 1)
    → unwrap_or (trusted_by m) false ≡ unwrap_or (trusted_by n) false → m ≡ n
mark_settled m n (inl p) (inl q) e = p ∙ sym q
mark_settled m n (inr p) (inr q) e = p ∙ sym q
mark_settled m n (inl p) (inr q) e =
    let a : unwrap_or (trusted_by m) false ≡ false = ap (λ k. unwrap_or (trusted_by k) false) p in
    let b : unwrap_or (trusted_by n) false ≡ true = ap (λ k. unwrap_or (trusted_by k) false) q in
    absurd cc
mark_settled m n (inr p) (inl q) e =
    let a : unwrap_or (trusted_by m) false ≡ true = ap (λ k. unwrap_or (trusted_by k) false) p in
    let b : unwrap_or (trusted_by n) false ≡ false = ap (λ k. unwrap_or (trusted_by k) false) q in
    absurd cc

-- two sound cells that mean the same are one
module _ (x y : RawCell) (s : Sound x) (t : Sound y) (e : cell_of x ≡ cell_of y) where
  held : s.1.0 ≡ t.1.0
  held =
      sym (ap (λ o. unwrap_or o Nil) s.1.1)
      ∙ ap (λ (c : Cell). c.value) e
      ∙ ap (λ o. unwrap_or o Nil) t.1.1

  raw_settled : x.number < 2 ^ 32 → y.number < 2 ^ 32 → x ≡ y
  raw_settled f g =
      let p = value_parts x.kind x.number s.1.0 f s.1.1 in
      let q = value_parts y.kind y.number t.1.0 g t.1.1 in
      same_raw _ _ _ _ _ _
      (mark_settled x.mark y.mark s.0 t.0 (ap (λ (c : Cell). c.trusted) e))
      (p.kind ∙ ap kind_number held ∙ sym q.kind)
      (p.number ∙ ap number_field held ∙ sym q.number)

byte : (b : List ℕ) → AreBytes b → (i : ℕ) → at b i < 2 ^ 8
byte b f i = by (cases_order i (length b))
  where
    past : length b ≤ i → at b i < 2 ^ 8
    past h = let none : at b i ≡ 0 = get_or_past b i 0 h in omega (arith, none)

    by : (i ≡ length b) ⊎ ((i < length b) ⊎ (length b < i)) → at b i < 2 ^ 8
    by (inl e) = past (omega (arith, e))
    by (inr (inl h)) = All-get_or (λ x. x < 2 ^ 8) b i 0 h f
    by (inr (inr h)) = past (omega (arith, h))

number_small : (b : List ℕ) → AreBytes b → (o : ℕ) → be32 b o < 2 ^ 32
number_small b f o =
    omega (arith, byte b f o, byte b f (o + 1), byte b f (o + 2), byte b f (o + 3))

-- six places from o on
pick : (P : ℕ → Type 0) (o r : ℕ) → r < 6 → P o → P (o + 1) → P (o + 2) → P (o + 3) → P (o + 4)
    → P (o + 5) → P (o + r)
pick P o zero h a b c d e f = subst P (omega arith) a
pick P o (suc zero) h a b c d e f = b
pick P o (suc (suc zero)) h a b c d e f = c
pick P o (suc (suc (suc zero))) h a b c d e f = d
pick P o (suc (suc (suc (suc zero)))) h a b c d e f = e
pick P o (suc (suc (suc (suc (suc zero))))) h a b c d e f = f
pick P o (suc (suc (suc (suc (suc (suc r)))))) h a b c d e f = absurd (omega (arith, h))

-- a receiver that is an object is that of an accepted file
named : (t : Bool) (n m : ℕ) → (if t then Object n else Nil) ≡ Object m → (t ≡ true) × (n ≡ m)
named true n m e = (refl, cc)
named false n m e = absurd cc

-- the counts of an accepted file are those of its header
module _ (b : List ℕ) (a : accepted b ≡ true) where
  all_counted : (row : Row) → row_count b row ≡ header_count (file_header b) row
  all_counted row = ap (λ t. if t then header_count (file_header b) row else 0) a

  counted : (row : Row) → length (row_of (week_meaning b) row) ≡ header_count (file_header b) row
  counted row = length_row b row ∙ all_counted row

-- two files of bytes
module _ (b c : List ℕ) (f : AreBytes b) (g : AreBytes c) where
  -- the byte at o is the same in both
  abbrev Same : ℕ → Type 0
  Same o = at b o ≡ at c o

  two : (o : ℕ) → be16 b o ≡ be16 c o → Same o × Same (o + 1)
  two o e =
      let w = byte b f o in
      let x = byte b f (o + 1) in
      let y = byte c g o in
      let z = byte c g (o + 1) in
      (omega (arith, e, w, x, y, z), omega (arith, e, w, x, y, z))

  four : (o : ℕ) → be32 b o ≡ be32 c o → Same o × Same (o + 1) × Same (o + 2) × Same (o + 3)
  four o e =
      let b₀ = byte b f o in
      let b₁ = byte b f (o + 1) in
      let b₂ = byte b f (o + 2) in
      let b₃ = byte b f (o + 3) in
      let c₀ = byte c g o in
      let c₁ = byte c g (o + 1) in
      let c₂ = byte c g (o + 2) in
      let c₃ = byte c g (o + 3) in (
        omega (arith, e, b₀, b₁, b₂, b₃, c₀, c₁, c₂, c₃),
        omega (arith, e, b₀, b₁, b₂, b₃, c₀, c₁, c₂, c₃),
        omega (arith, e, b₀, b₁, b₂, b₃, c₀, c₁, c₂, c₃),
        omega (arith, e, b₀, b₁, b₂, b₃, c₀, c₁, c₂, c₃),
      )

  -- the six bytes of a cell
  six : (o r : ℕ) → raw_at b o ≡ raw_at c o → r < 6 → Same (o + r)
  six o r e h =
      let mark : Same o = ap (λ (x : RawCell). x.mark) e in
      let kind : Same (o + 1) = ap (λ (x : RawCell). x.kind) e in
      let n = four (o + 2) (ap (λ (x : RawCell). x.number) e) in
      let third : Same (o + 3) = subst Same (omega arith) n.1 in
      let fourth : Same (o + 4) = subst Same (omega arith) n.2 in
      let fifth : Same (o + 5) = subst Same (omega arith) n.3 in
      pick Same o r h mark kind n.0 third fourth fifth

  -- the first eight bytes
  eight : (i : ℕ) → i < 8 → file_header b ≡ file_header c → Same i
  eight i h e =
      by (cases_order i 6)
    where
      by : (i ≡ 6) ⊎ ((i < 6) ⊎ (6 < i)) → Same i
      by (inl p) = subst Same (sym p) (four 4 (ap (λ (x : FileHeader). x.receiver) e)).2
      by (inr (inl l)) =
          let v = two 0 (ap (λ (x : FileHeader). x.variables) e) in
          let w = two 2 (ap (λ (x : FileHeader). x.bindings) e) in
          let r = four 4 (ap (λ (x : FileHeader). x.receiver) e) in
          subst Same (omega arith) (pick Same 0 i l v.0 v.1 w.0 w.1 r.0 r.1)
      by (inr (inr l)) =
          let p : 7 ≡ i = omega (arith, l, h) in
          subst Same p (four 4 (ap (λ (x : FileHeader). x.receiver) e)).3

  -- an accepted file, and another that means the same
  module _ (a : accepted b ≡ true) (same : week_meaning c ≡ week_meaning b) where
    other : (accepted c ≡ true) × ((file_header c).receiver ≡ (file_header b).receiver)
    other =
        named (accepted c) _ _
        (ap (λ (m : Meaning). m.receiver) same
        ∙ ap (λ t. if t then Object (file_header b).receiver else Nil) a)

    counts : (row : Row) → header_count (file_header b) row ≡ header_count (file_header c) row
    counts row =
        sym (counted b a row)
        ∙ ap (λ (m : Meaning). length (row_of m row)) (sym same)
        ∙ counted c other.0 row

    starts : (row : Row) → row_start c row ≡ row_start b row
    starts Variables = refl
    starts Bindings = ap cell_start (sym (counts Variables))

    headers : file_header b ≡ file_header c
    headers =
        let v = counts Variables in
        let w = counts Bindings in
        let r = sym other.1 in
        λ j. record { variables = v j; bindings = w j; receiver = r j }

    -- cell k of a row, which is cell n of the file
    module _ (row : Row) (k n : ℕ) (e : row_start b row + 6 * k ≡ cell_start n) where
      cells : k < header_count (file_header b) row
          → cell_of (raw_at b (cell_start n)) ≡ cell_of (raw_at c (cell_start n))
      cells h =
          let x : k < row_count b row = omega (arith, h, all_counted b a row) in
          let y : k < row_count c row = omega (arith, h, counts row, all_counted c other.0 row) in
          ap (λ z. cell_of (raw_at b z)) (sym e)
          ∙ same_Some _ _ (sym (there b row k x)
          ∙ ap (λ (m : Meaning). slice_get (row_of m row) k) (sym same)
          ∙ there c row k y)
          ∙ ap (λ z. cell_of (raw_at c z)) (omega (arith, starts row, e))

      raw_in : k < header_count (file_header b) row → n < cell_count (file_header b)
          → raw_at b (cell_start n) ≡ raw_at c (cell_start n)
      raw_in h l =
          let m : n < cell_count (file_header c) =
          omega (arith, l, counts Variables, counts Bindings) in
          raw_settled _ _ ((kept b a).sound n l) ((kept c other.0).sound n m) (cells h)
          (number_small b f (cell_start n + 2)) (number_small c g (cell_start n + 2))

    raw_same : (n : ℕ) → n < cell_count (file_header b)
        → raw_at b (cell_start n) ≡ raw_at c (cell_start n)
    raw_same n l = by (cases_order n (file_header b).variables)
      where
        binding : (file_header b).variables ≤ n → raw_at b (cell_start n) ≡ raw_at c (cell_start n)
        binding h =
            raw_in Bindings (n - (file_header b).variables) n (omega (arith, h))
            (omega (arith, h, l)) l

        by : (n ≡ (file_header b).variables)
            ⊎ ((n < (file_header b).variables) ⊎ ((file_header b).variables < n))
            → raw_at b (cell_start n) ≡ raw_at c (cell_start n)
        by (inl e) = binding (omega (arith, e))
        by (inr (inl h)) = raw_in Variables n n refl h l
        by (inr (inr h)) = binding (omega (arith, h))

    lengths : length b ≡ length c
    lengths =
        (kept b a).ends ∙ ap (λ (h : FileHeader). cell_start (cell_count h)) headers
        ∙ sym (kept c other.0).ends

    bytes : (i : ℕ) → i < length b → Same i
    bytes i l = by (cases_order i 8)
      where
        in_cell : 8 ≤ i → Same i
        in_cell h =
            let n = (i - 8) / 6 in
            let r = (i - 8) % 6 in
            let inside : n < cell_count (file_header b) = omega (arith, h, l, (kept b a).ends) in
            subst Same (omega (arith, h)) (six (cell_start n) r (raw_same n inside) (omega arith))

        by : (i ≡ 8) ⊎ ((i < 8) ⊎ (8 < i)) → Same i
        by (inl e) = in_cell (omega (arith, e))
        by (inr (inl h)) = eight i h headers
        by (inr (inr h)) = in_cell (omega (arith, h))

    settled : b ≡ c
    settled = ext_get_or 0 b c lengths bytes

pub meaning_settles_bytes : MeaningSettlesBytes
meaning_settles_bytes b c f g a same = sym (settled b c f g a same)
