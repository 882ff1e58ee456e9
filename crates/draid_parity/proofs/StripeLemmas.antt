-- Stripes as wholes.
use Rattle.std.proofs.Common.{◌≡◌, ℕ, suc, ◌+◌, ◌^◌, ◌<◌, ◌≤◌, ◌∙◌, List, [], ◌∷◌, length, drop, get_or, bit_xor, inl, inr, refl, sym, ap, ap₂, arith}
use Rattle.std.specs.Prelude.{slice_index}
use Rattle.std.specs.Int.Bits.{xor_zero_r}
use Rattle.std.proofs.lemmas.Bool.{cases_lt}
use Rattle.std.proofs.lemmas.List.{drop-map, get_or_past}
use Rattle.draid_gf.specs.Field.{field_power, field_product}
use Rattle.draid_gf.proofs.Product.{field_product-zero}
use Rattle.draid_parity.specs.Codeword.{IsCodeword, parity_sum, weighted_sum}
use Rattle.draid_parity.specs.Columns.{Completes, HasSum, IsSolution, IsStripe, StripeValue, byte_row, column_at}
use Rattle.draid_parity.proofs.WeightedSums.{byte_row-at, data_row-at}

-- a row of bytes whose parity bytes are the sums
pub codeword-from_sums : (parity : ℕ) (columns : List (List ℕ)) → ((k : ℕ) → k < parity → HasSum parity columns k) → (j : ℕ) → IsCodeword parity (byte_row j columns)
codeword-from_sums parity columns sums j = λ k below.
    byte_row-at j columns k ∙ sums k below j ∙ ap (parity_sum k) (sym (drop-map (λ c. slice_index c j) parity columns))

-- ---- past the end of the columns all is zero, the sums too
pub weighted_sum-zeros : (c : ℕ) (xs : List ℕ) → ((i : ℕ) → get_or xs i 0 ≡ 0) → weighted_sum c xs ≡ 0
unfolding weighted_sum
weighted_sum-zeros c [] none = refl
weighted_sum-zeros c (x ∷ xs) none =
    ap₂ bit_xor (ap (field_product (field_power c (length xs))) (none 0) ∙ field_product-zero (field_power c (length xs)))
    (weighted_sum-zeros c xs (λ i. none (suc i)))
    ∙ xor_zero_r 0

past : (s : StripeValue) → IsStripe s → (j : ℕ) → s.len ≤ j → (i : ℕ) → slice_index (column_at s.columns i) j ≡ 0
past s is j above i = elim (cases_lt i (s.parity + s.ndata)) [
  | inl lt ↦ let long = is.columns i lt in get_or_past (column_at s.columns i) j 0 (omega (arith, long))
  | inr ge ↦ let count = is.count in ap (λ c. slice_index c j) (get_or_past s.columns i [] (omega (arith, count)))
]

-- codewords that complete a stripe solve for its missing columns
pub solution-from_codewords : (missing : List ℕ) (s : StripeValue) (whole : List (List ℕ)) → Completes missing s whole → IsSolution missing s whole
solution-from_codewords missing s whole given = record {
  stripe = given.stripe;
  bytes = given.bytes;
  solves = record {
    stays = given.stays;
    solved = λ k is. sum k is.in_range;
    encoded = λ k below there. sum k below;
  };
} where
  sum : (k : ℕ) → k < s.parity → HasSum s.parity whole k
  sum k below j = elim (cases_lt j s.len) [
    | inl lt ↦
        sym (byte_row-at j whole k) ∙ given.encoded j lt k below
        ∙ ap (parity_sum k) (drop-map (λ c. slice_index c j) s.parity whole)
    | inr ge ↦
        let zeros = past (record s { columns = whole }) given.stripe j ge in
        zeros k ∙ sym (weighted_sum-zeros (2 ^ k) (byte_row j (drop s.parity whole)) (λ i. data_row-at j s.parity whole i ∙ zeros (s.parity + i)))
  ]
