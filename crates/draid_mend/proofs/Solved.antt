-- The columns that are solved from a row of a block are those of the block.
use Rattle.std.proofs.Common.{◌≡◌, ◌+◌, ◌-◌, ◌*◌, ◌<◌, ◌≤◌, ◌∙◌, ◌++◌, ℕ, List, [], ◌∷◌, Some, arith, refl, sym, ap, subst, take, drop, replicate, get_or, length, inl, inr}
use Rattle.std.specs.Prelude.{All, Contains, slice_index}
use Rattle.std.proofs.Math.Nat.{mul-le-mul_right}
use Rattle.std.proofs.lemmas.Bool.{cases_lt}
use Rattle.std.proofs.lemmas.List.{get_or-take, get_or-drop, get_or-map, get_or-replicate, get_or-append-add, get_or_append_left, get_or_past, length-drop, length-map, length-replicate, length-take, length-take-le}
use Rattle.std.proofs.lemmas.List.Elements.{All-contains}
use Rattle.draid_gf.specs.Field.{IsByte}
use Rattle.draid_spec.specs.Geometry.{IsGeometry}
use Rattle.draid_spec.specs.declared.layout.Geometry.{Geometry}
use Rattle.draid_parity.specs.Codeword.{IsCodeword}
use Rattle.draid_parity.specs.Columns.{Completes, IsStripe, SolvesColumns, StripeValue, byte_row, column_at}
use Rattle.draid_block.specs.Blocks.{column_len, cut_of}
use Rattle.draid_block.specs.Columns.{Cut, data_column, sectors_before, sectors_in, stripes_of}
use Rattle.draid_machine.specs.declared.names.Key.{Key}
use Rattle.draid_machine.proofs.Small.{some_same}
use Rattle.draid_segments.specs.Segments.{Pieces}
use Rattle.draid_shard.specs.Columns.{row_bytes}
use Rattle.draid_mend.specs.Solving.{HasContent, IsOneSector, IsPiece, SolvesRow, sectors_of}

-- ---- bytes
zero_byte : (n j : ℕ) → IsByte (get_or (replicate n 0) j 0)
zero_byte n j = elim (cases_lt j n) [
  | inl lt ↦ rw (get_or-replicate {A = ℕ} n j 0 0 lt) (omega arith)
  | inr ge ↦ rw (get_or_past {X = ℕ} (replicate n 0) j 0 (omega (arith, length-replicate {A = ℕ} n 0))) (omega arith)
]

data_byte : (cut : Cut) (w : List ℕ) → ((j : ℕ) → IsByte (slice_index w j)) → (i j : ℕ) → IsByte (slice_index (data_column cut w i) j)
unfolding data_column
data_byte cut w bytes i j = elim (cases_lt j (length front)) [
  | inl lt ↦ rw (get_or_append_left front back 0 j lt) (within lt)
  | inr ge ↦ let e : length front + (j - length front) ≡ j = omega arith in
      subst (λ (k : ℕ). IsByte (get_or (front ++ back) k 0)) e (rw (get_or-append-add front back (j - length front) 0) (zero_byte _ (j - length front)))
] where
  front : List ℕ
  front = take (sectors_in cut (length w) i * cut.sector) (drop (sectors_before cut (length w) i * cut.sector) w)

  back : List ℕ
  back = replicate (stripes_of cut (length w) * cut.sector - length front) 0

  within : j < length front → IsByte (get_or front j 0)
  within lt =
      let m : ℕ = sectors_in cut (length w) i * cut.sector in
      let a : ℕ = sectors_before cut (length w) i * cut.sector in
      let short : j < m = omega (arith, length-take m (drop a w)) in
      rw (get_or-take m (drop a w) j 0 short, get_or-drop a w j 0) (bytes (a + j))

-- ---- a row of a column
row_at : (size row : ℕ) (column : List ℕ) (j : ℕ) → j < size → slice_index (row_bytes size column row) j ≡ slice_index column (row * size + j)
row_at size row column j less = get_or-take size (drop (row * size) column) j 0 less ∙ get_or-drop (row * size) column j 0

row_byte : (size row : ℕ) (column : List ℕ) → ((j : ℕ) → IsByte (slice_index column j)) → (j : ℕ) → IsByte (slice_index (row_bytes size column row) j)
row_byte size row column bytes j = elim (cases_lt j size) [
  | inl less ↦ rw (row_at size row column j less) (bytes (row * size + j))
  | inr past ↦ rw (get_or_past (row_bytes size column row) j 0 (let e = length-take size (drop (row * size) column) in omega (arith, e, past))) (omega arith)
]

row_long : (size row stripes : ℕ) (column : List ℕ) → length column ≡ stripes * size → row < stripes → length (row_bytes size column row) ≡ size
row_long size row stripes column long less =
    length-take-le size (drop (row * size) column) (let e = length-drop (row * size) column in let room : (row + 1) * size ≤ stripes * size = within row stripes size less in let one : (row + 1) * size ≡ row * size + size = grind arith in omega (arith, e, long, room, one))
  where
    within : (a b c : ℕ) → a < b → (a + 1) * c ≤ b * c
    within a b c lt = grind (arith, lt)

-- ---- the rows of all columns
column_row : (size row : ℕ) (columns : List (List ℕ)) (i : ℕ) → i < length columns → column_at (sectors_of size columns row) i ≡ row_bytes size (column_at columns i) row
column_row size row columns i less = get_or-map (λ column. row_bytes size column row) columns i [] [] less

byte_rows : (size row j : ℕ) (columns : List (List ℕ)) → j < size → byte_row j (sectors_of size columns row) ≡ byte_row (row * size + j) columns
byte_rows size row j [] less = refl
byte_rows size row j (column ∷ columns) less = λ i. row_at size row column j less i ∷ byte_rows size row j columns less i

module _ (geometry : Geometry) (g : IsGeometry geometry) (missing : List ℕ) (old new : StripeValue) (of : IsOneSector geometry old) (shape : new ≡ record old { columns = new.columns }) (is_stripe : IsStripe new)
    (restores : (whole : List (List ℕ)) → Completes missing old whole → new.columns ≡ whole) (solves : SolvesColumns old.parity missing old.columns new.columns)
    (in_range : All (λ i. i < old.parity + old.ndata) missing) where
  abbrev size : ℕ
  size = geometry.props.sector

  count : length new.columns ≡ geometry.spec.parity + geometry.spec.ndata
  count = is_stripe.count ∙ ap (λ (s : StripeValue). s.parity + s.ndata) shape ∙ (λ i. of.parity i + of.ndata i)

  module _ (stripes row : ℕ) (key : Key) (pieces : Pieces) (h : HasContent geometry stripes key pieces) (less : row < stripes)
      (read : (c : ℕ) → c < geometry.g → (Contains missing c → ⊥) → IsPiece pieces key row old c) where
    abbrev whole : List (List ℕ)
    whole = sectors_of size h.columns row

    many : length h.columns ≡ geometry.spec.parity + geometry.spec.ndata
    many = h.are.stripe.count

    columns_are : geometry.g ≡ geometry.spec.parity + geometry.spec.ndata
    columns_are = g.columns

    long : (i : ℕ) → i < geometry.g → length (column_at h.columns i) ≡ stripes * size
    unfolding column_len
    long i low = h.are.stripe.columns i (subst (λ n. i < n) columns_are low) ∙ ap (λ n. n * size) (sym h.long)

    at_row : (i : ℕ) → i < geometry.g → column_at whole i ≡ row_bytes size (column_at h.columns i) row
    at_row i low = column_row size row h.columns i (subst (λ n. i < n) (columns_are ∙ sym many) low)

    piece_is : (i : ℕ) → i < geometry.g → IsPiece pieces key row (record old { columns = whole }) i
    piece_is i low = ap Some (at_row i low) ∙ sym (h.rows i row low less)

    whole_stripe : IsStripe (record old { columns = whole })
    whole_stripe = record {
      some_parity = subst (λ n. 1 ≤ n) (sym of.parity) h.are.stripe.some_parity;
      parity_range = subst (λ n. n ≤ 3) (sym of.parity) h.are.stripe.parity_range;
      some_data = subst (λ n. 1 ≤ n) (sym of.ndata) h.are.stripe.some_data;
      data_range = subst (λ n. n ≤ 255) (sym of.ndata) h.are.stripe.data_range;
      count = length-map h.columns (λ column. row_bytes size column row) ∙ many ∙ (λ i. sym of.parity i + sym of.ndata i);
      columns = λ i low. (let below : i < geometry.g = subst (λ n. i < n) ((λ k. of.parity k + of.ndata k) ∙ sym columns_are) low in
          ap length (at_row i below) ∙ row_long size row stripes (column_at h.columns i) (long i below) less ∙ sym of.len);
    }

    past : (i : ℕ) → geometry.g ≤ i → column_at whole i ≡ column_at old.columns i
    past i high =
        let n : length whole ≡ geometry.g = length-map h.columns (λ column. row_bytes size column row) ∙ many ∙ sym columns_are in
        let m : length new.columns ≡ geometry.g = count ∙ sym columns_are in
        get_or_past whole i [] (omega (arith, n, high)) ∙ sym (get_or_past new.columns i [] (omega (arith, m, high))) ∙ solves.stays i out
      where
        out : Contains missing i → ⊥
        out here =
            let low = All-contains (λ (k : ℕ). k < old.parity + old.ndata) missing i in_range here in
            let p = of.parity in let d = of.ndata in let n = columns_are in omega (arith, low, p, d, n, high)

    completes : Completes missing old whole
    unfolding column_len
    completes = record {
      stripe = whole_stripe;
      bytes = λ i j found above. byte i j (subst (λ n. i < n) ((λ k. of.parity k + of.ndata k) ∙ sym columns_are) (All-contains (λ (k : ℕ). k < old.parity + old.ndata) missing i in_range found)) (subst (λ p. p ≤ i) of.parity above);
      encoded = λ j low. (let short : j < size = subst (λ n. j < n) of.len low in
          subst (λ (p : ℕ). IsCodeword p (byte_row j whole)) (sym of.parity)
          (subst (IsCodeword geometry.spec.parity) (sym (byte_rows size row j h.columns short)) (h.are.codewords (row * size + j) (inside j short))));
      stays = λ i out. elim (cases_lt i geometry.g) [
        | inl low ↦ some_same (pieces key i row) (column_at whole i) (column_at old.columns i) (sym (piece_is i low)) (sym (read i low out))
        | inr high ↦ past i high
      ];
    } where
      byte : (i j : ℕ) → i < geometry.g → geometry.spec.parity ≤ i → IsByte (slice_index (column_at whole i) j)
      byte i j below above =
          let e : geometry.spec.parity + (i - geometry.spec.parity) ≡ i = omega (arith, above) in
          let n = columns_are in
          rw (at_row i below) (row_byte size row (column_at h.columns i)
          (λ k. subst (λ (c : ℕ). IsByte (slice_index (column_at h.columns c) k)) e
          (rw (h.are.sectors (i - geometry.spec.parity) (omega (arith, below, above, n))) (data_byte (cut_of geometry) h.bytes h.each (i - geometry.spec.parity) k))) j)

      inside : (j : ℕ) → j < size → row * size + j < column_len (cut_of geometry) (length h.bytes)
      inside j short = subst (λ n. row * size + j < n * size) h.long (within row stripes size j less short)
        where
          within : (a b c k : ℕ) → a < b → k < c → a * c + k < b * c
          within a b c k lt kl = let up : (a + 1) * c ≤ b * c = mul-le-mul_right c (omega (arith, lt)) in let next : (a + 1) * c ≡ a * c + c = grind arith in omega (arith, up, next, kl)

    pub solved : (c : ℕ) → c < geometry.g → IsPiece pieces key row new c
    solved c low = ap (λ columns. Some (column_at columns c)) (restores whole completes) ∙ piece_is c low

  pub solves_row : SolvesRow geometry missing old new
  solves_row = record {
    shape = record {
      parity = ap (λ (s : StripeValue). s.parity) shape ∙ of.parity;
      ndata = ap (λ (s : StripeValue). s.ndata) shape ∙ of.ndata;
      len = ap (λ (s : StripeValue). s.len) shape ∙ of.len;
    };
    stays = λ c out. solves.stays c out;
    solved = solved;
  }
