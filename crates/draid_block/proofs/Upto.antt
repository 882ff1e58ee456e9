-- The front of the sectors that the data columns hold, column by column.
use Rattle.std.proofs.Common.{◌≡◌, ℕ, ◌+◌, ◌-◌, ◌*◌, ◌<◌, ◌≤◌, List, [], ◌++◌, length, take, min, arith, refl, sym, ap, inl, inr, add-one, length-append, length-take}
use Rattle.std.proofs.lemmas.Bool.{cases_lt}
use Rattle.std.proofs.lemmas.List.{take_all, take-append-le, take-take, append-nil}
use Rattle.std.proofs.Math.Seq.{take-append-add}
use Rattle.draid_parity.specs.Columns.{column_at}
use Rattle.draid_block.specs.Columns.{Cut, sectors_in}
use Rattle.draid_block.specs.Blocks.{sectors_upto, column_len}
use Rattle.draid_block.proofs.Filling.{part_short}

pub upto_none : (cut : Cut) (len : ℕ) (columns : List (List ℕ)) → take len (sectors_upto cut len columns 0) ≡ []
unfolding sectors_upto
upto_none cut len columns = take_all len [] (omega arith)

take_less : (n m : ℕ) (xs : List ℕ) → take n (take m xs) ≡ take (min m n) xs
take_less n m xs = elim (cases_lt m n) [
  | inl lt ↦ let e : min m n ≡ m = omega arith in rw (e, take_all n (take m xs) (omega (arith, length-take m xs))) refl
  | inr ge ↦ let e : min m n ≡ n = omega arith in rw (e, take-take n m xs ge) refl
]

front_more : (len left m : ℕ) (us column : List ℕ) → left + length (take len us) ≡ len → take len us ++ take (min m left) column ≡ take len (us ++ take m column)
front_more len left m us column h = elim (cases_lt (length us) len) [ inl lt ↦ long lt | inr ge ↦ full ge ] where
  long : length us < len → take len us ++ take (min m left) column ≡ take len (us ++ take m column)
  long lt =
      let all : take len us ≡ us = take_all len us (omega arith) in
      let same : length (take len us) ≡ length us = ap length all in
      let e : length us + left ≡ len = omega arith in
      rw (all, ← take_less left m column) (sym (rw e at (take-append-add us (take m column) left)))

  full : len ≤ length us → take len us ++ take (min m left) column ≡ take len (us ++ take m column)
  full ge =
      let e : min m left ≡ 0 = omega (arith, length-take len us) in
      rw (e, take-append-le len us (take m column) ge) (append-nil (take len us))

pub upto_more : (cut : Cut) (len : ℕ) (columns : List (List ℕ)) (column : List ℕ) (i end left : ℕ) → left + length (take len (sectors_upto cut len columns i)) ≡ len
    → end ≡ min (sectors_in cut len i * cut.sector) left → column ≡ column_at columns (cut.parity + i)
    → take len (sectors_upto cut len columns i) ++ take end column ≡ take len (sectors_upto cut len columns (i + 1))
unfolding sectors_upto
upto_more cut len columns column i end left h e c =
    rw (add-one, e, c) (front_more len left (sectors_in cut len i * cut.sector) (sectors_upto cut len columns i) (column_at columns (cut.parity + i)) h)

pub part_fits : (cut : Cut) (len i end left : ℕ) (column : List ℕ) → end ≡ min (sectors_in cut len i * cut.sector) left → length column ≡ column_len cut len → end ≡ length (take end column)
part_fits cut len i end left column e long = omega (arith, length-take end column, part_short cut len i)

pub left_more : (left end : ℕ) (us column : List ℕ) (len : ℕ) → left + length us ≡ len → end ≤ left → end ≡ length (take end column) → left - end + length (us ++ take end column) ≡ len
left_more left end us column len h few fits = omega (arith, length-append us (take end column))
