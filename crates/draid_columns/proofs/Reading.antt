-- Rows of a column are read one after another.
use Rattle.std.proofs.Common.{arith, ◌≡◌, ◌+◌, ◌-◌, ◌*◌, ◌<◌, ◌≤◌, ℕ, List, Option, Some, None, refl, sym, ap, inl, inr, ◌∙◌, take, drop, length}
use Rattle.std.proofs.lemmas.Bool.{cases_lt}
use Rattle.std.proofs.lemmas.List.{drop-take}
use Rattle.std.proofs.lemmas.Slice.{take-put_mid_below, between-put_mid}
use borrow.Rule.Slice.PartMut.{put_mid, mid_of, mid_len, same_len_mid}
use Rattle.draid_rack.specs.Rack.{OnTold, Told}
use Rattle.draid_columns.specs.declared.rows.Rows.{Rows}
use Rattle.draid_columns.specs.Columns.{RowsStand, row_of}
use Rattle.draid_columns.proofs.Written.{row_within}

-- what was read into a row: `items` is what stood there before, `into` what was read
pub record ReadsRow (rows : Rows) (told : Option Told) (row : ℕ) (items into : List ℕ) : Type 0 where
  pub long : length items ≡ rows.count * rows.size
  pub below : row < rows.count
  pub whole : length into ≡ length (take (row * rows.size + rows.size - row * rows.size) (drop (row * rows.size) items))
  pub before : OnTold told (λ x. RowsStand rows x.reads items row)
  pub read : OnTold told (λ x. x.reads rows.leaf (rows.first + row) ≡ Some into)

-- the part that was read into
part_here : (size from k : ℕ) (items into : List ℕ) → from ≤ length items → length into ≡ size → take size (drop from (put_mid from k items into)) ≡ into
part_here size from k items into fits long =
    let n : from + size - from ≡ size = omega arith in
    rw n at (between-put_mid from k items into (from + size) fits (omega (arith, long)))

module _ (rows : Rows) (told : Option Told) (row : ℕ) (items into : List ℕ) (r : ReadsRow rows told row items into) where
  within : row * rows.size + rows.size ≤ length items
  within = row_within rows row (length items) r.below r.long

  part_len : length (mid_of (row * rows.size) (row * rows.size + rows.size - row * rows.size) items) ≡ row * rows.size + rows.size - row * rows.size
  part_len = mid_len (row * rows.size) (row * rows.size + rows.size) items within

  into_long : length into ≡ rows.size
  into_long = let n : row * rows.size + rows.size - row * rows.size ≡ rows.size = omega arith in r.whole ∙ part_len ∙ n

  pub row_long : length (put_mid (row * rows.size) (row * rows.size + rows.size - row * rows.size) items into) ≡ rows.count * rows.size
  row_long = same_len_mid (row * rows.size) (row * rows.size + rows.size - row * rows.size) items into r.whole ∙ r.long

  row_below : (j : ℕ) → j < row → row_of rows (put_mid (row * rows.size) (row * rows.size + rows.size - row * rows.size) items into) j ≡ row_of rows items j
  row_below j less =
      let before : j * rows.size + rows.size ≤ row * rows.size = row_within (record rows { count = row }) j (row * rows.size) less refl in
      let fits : row * rows.size ≤ length items = let w = within in omega (arith, w) in
      sym (drop-take (j * rows.size) rows.size (put_mid (row * rows.size) (row * rows.size + rows.size - row * rows.size) items into))
      ∙ ap (drop (j * rows.size)) (take-put_mid_below (row * rows.size) (row * rows.size + rows.size - row * rows.size) items into (j * rows.size + rows.size) before fits)
      ∙ drop-take (j * rows.size) rows.size items

  row_here : row_of rows (put_mid (row * rows.size) (row * rows.size + rows.size - row * rows.size) items into) row ≡ into
  row_here =
      let fits : row * rows.size ≤ length items = let w = within in omega (arith, w) in
      part_here rows.size (row * rows.size) (row * rows.size + rows.size - row * rows.size) items into fits into_long

  stands : (x : Told) → RowsStand rows x.reads items row → x.reads rows.leaf (rows.first + row) ≡ Some into
      → RowsStand rows x.reads (put_mid (row * rows.size) (row * rows.size + rows.size - row * rows.size) items into) (row + 1)
  stands x before read j less = elim (cases_lt j row) [
    | inl lower ↦ before j lower ∙ ap Some (sym (row_below j lower))
    | inr same ↦ (let e : j ≡ row = omega (arith, same, less) in rw e (read ∙ ap Some (sym row_here)))
  ]

  pub row_stands : OnTold told (λ x. RowsStand rows x.reads (put_mid (row * rows.size) (row * rows.size + rows.size - row * rows.size) items into) (row + 1))
  row_stands = by told r.before r.read
    where
      by : (o : Option Told) → OnTold o (λ x. RowsStand rows x.reads items row) → OnTold o (λ x. x.reads rows.leaf (rows.first + row) ≡ Some into)
          → OnTold o (λ x. RowsStand rows x.reads (put_mid (row * rows.size) (row * rows.size + rows.size - row * rows.size) items into) (row + 1))
      by None a b = tt
      by (Some x) a b = stands x a b
