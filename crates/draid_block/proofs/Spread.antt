-- The columns of a block are columns of it.
use Rattle.std.proofs.Common.{◌≡◌, ◌⊎◌, ℕ, ◌+◌, ◌-◌, ◌*◌, ◌<◌, ◌≤◌, List, [], ◌++◌, length, map, drop, take, inl, inr, arith, sym, ◌∙◌, ap, subst, length-append, length-take}
use Rattle.std.specs.Prelude.{slice_index}
use Rattle.std.specs.List.{range_with_len}
use Rattle.std.proofs.lemmas.Bool.{cases_lt}
use Rattle.std.proofs.lemmas.List.{length-map, drop-map, drop_at, get_or_append_left, get_or-append-add}
use Rattle.std.proofs.lemmas.List.FromFn.{get_or-map-range_with_len, length-range_with_len}
use Rattle.draid_parity.specs.Codeword.{parity_sum}
use Rattle.draid_parity.specs.Columns.{IsStripe, byte_row, column_at}
use Rattle.draid_parity.proofs.WeightedSums.{byte_row-at}
use Rattle.draid_block.specs.Columns.{Cut, data_column, sectors_before, sectors_in}
use Rattle.draid_block.specs.Blocks.{AreColumns, column_len, columns_of, data_columns, parity_column, stripe_of}
use Rattle.draid_block.proofs.Filling.{column_filled, length-filled, part_short}
use Rattle.draid_block.proofs.One.{columns_same}

abbrev parities : Cut → List ℕ → List (List ℕ)
parities cut w = map (λ k. parity_column cut w k) (range_with_len 0 cut.parity)

parities_count : (cut : Cut) (w : List ℕ) → length (parities cut w) ≡ cut.parity
parities_count cut w = length-map (range_with_len 0 cut.parity) (λ k. parity_column cut w k) ∙ length-range_with_len 0 cut.parity

data_count : (cut : Cut) (w : List ℕ) → length (data_columns cut w) ≡ cut.ndata
data_count cut w = length-map (range_with_len 0 cut.ndata) (λ i. data_column cut w i) ∙ length-range_with_len 0 cut.ndata

parity_at : (cut : Cut) (w : List ℕ) (k : ℕ) → k < cut.parity → column_at (columns_of cut w) k ≡ parity_column cut w k
unfolding columns_of
parity_at cut w k below =
    let count = parities_count cut w in
    get_or_append_left (parities cut w) (data_columns cut w) [] k (omega (arith, below, count))
    ∙ get_or-map-range_with_len (λ n. parity_column cut w n) 0 cut.parity k k [] below (omega arith)

data_at : (cut : Cut) (w : List ℕ) (i : ℕ) → i < cut.ndata → column_at (columns_of cut w) (cut.parity + i) ≡ data_column cut w i
unfolding columns_of
data_at cut w i below =
    subst (λ (n : ℕ). column_at (parities cut w ++ data_columns cut w) (n + i) ≡ data_column cut w i) (parities_count cut w)
    (get_or-append-add (parities cut w) (data_columns cut w) i [] ∙ get_or-map-range_with_len (λ n. data_column cut w n) 0 cut.ndata i i [] below (omega arith))

data_long : (cut : Cut) (w : List ℕ) (i : ℕ) → length (data_column cut w i) ≡ column_len cut (length w)
data_long cut w i =
    ap length (column_filled cut w i)
    ∙ length-filled (column_len cut (length w)) (take (sectors_in cut (length w) i * cut.sector) (drop (sectors_before cut (length w) i * cut.sector) w))
    (omega (arith, part_short cut (length w) i, length-take (sectors_in cut (length w) i * cut.sector) (drop (sectors_before cut (length w) i * cut.sector) w)))

parity_long : (cut : Cut) (w : List ℕ) (k : ℕ) → length (parity_column cut w k) ≡ column_len cut (length w)
parity_long cut w k =
    length-map (range_with_len 0 (column_len cut (length w))) (λ j. parity_sum k (byte_row j (data_columns cut w))) ∙ length-range_with_len 0 (column_len cut (length w))

counted : (cut : Cut) (w : List ℕ) → length (columns_of cut w) ≡ cut.parity + cut.ndata
unfolding columns_of
counted cut w = (let first = parities_count cut w in let second = data_count cut w in omega (arith, first, second, length-append (parities cut w) (data_columns cut w)))

whole_stripe : (cut : Cut) (w : List ℕ) → 1 ≤ cut.parity → cut.parity ≤ 3 → 1 ≤ cut.ndata → cut.ndata ≤ 255 → IsStripe (stripe_of cut (length w) (columns_of cut w))
whole_stripe cut w some_parity most_parity some_data most_data = record {
  some_parity = some_parity;
  parity_range = most_parity;
  some_data = some_data;
  data_range = most_data;
  count = counted cut w;
  columns = λ i below. at i below (cases_lt i cut.parity);
} where
  at : (i : ℕ) → i < cut.parity + cut.ndata → (i < cut.parity) ⊎ (cut.parity ≤ i) → length (column_at (columns_of cut w) i) ≡ column_len cut (length w)
  at i below (inl lt) = ap length (parity_at cut w i lt) ∙ parity_long cut w i
  at i below (inr ge) =
      let e : cut.parity + (i - cut.parity) ≡ i = omega arith in
      subst (λ (k : ℕ). length (column_at (columns_of cut w) k) ≡ column_len cut (length w)) e
      (ap length (data_at cut w (i - cut.parity) (omega (arith, below, ge))) ∙ data_long cut w (i - cut.parity))

data_rest : (cut : Cut) (w : List ℕ) → drop cut.parity (columns_of cut w) ≡ data_columns cut w
unfolding columns_of
data_rest cut w = drop_at (parities cut w) (data_columns cut w) cut.parity (parities_count cut w)

pub are_columns : (cut : Cut) (w : List ℕ) → 1 ≤ cut.parity → cut.parity ≤ 3 → 1 ≤ cut.ndata → cut.ndata ≤ 255 → AreColumns cut w (columns_of cut w)
are_columns cut w some_parity most_parity some_data most_data = record {
  stripe = whole_stripe cut w some_parity most_parity some_data most_data;
  sectors = data_at cut w;
  codewords = λ j below k k_below.
      byte_row-at j (columns_of cut w) k
      ∙ ap (λ (c : List ℕ). slice_index c j) (parity_at cut w k k_below)
      ∙ get_or-map-range_with_len (λ n. parity_sum k (byte_row n (data_columns cut w))) 0 (column_len cut (length w)) j j 0 below (omega arith)
      ∙ ap (λ (l : List (List ℕ)). parity_sum k (byte_row j l)) (sym (data_rest cut w))
      ∙ ap (parity_sum k) (sym (drop-map (λ (c : List ℕ). slice_index c j) cut.parity (columns_of cut w)));
}

pub only_columns : (cut : Cut) (w : List ℕ) (columns : List (List ℕ)) → AreColumns cut w columns → columns ≡ columns_of cut w
only_columns cut w columns are =
    columns_same cut w columns (columns_of cut w) are
    (are_columns cut w are.stripe.some_parity are.stripe.parity_range are.stripe.some_data are.stripe.data_range)
