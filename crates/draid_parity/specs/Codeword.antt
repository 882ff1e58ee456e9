-- Codewords of single, double and triple parity (OpenZFS, `vdev_raidz.c`), byte by byte.
use Rattle.std.specs.Prelude.{◌≡◌, ℕ, ◌^◌, ◌<◌, List, [], ◌∷◌, length, drop, slice_index, bit_xor}
use Rattle.draid_gf.specs.Field.{field_product, field_power}

-- the sum of d data bytes with the coefficients c^(d-1), .., c, 1
unfoldable pub weighted_sum : ℕ → List ℕ → ℕ
weighted_sum c [] = 0
weighted_sum c (x ∷ xs) = bit_xor (field_product (field_power c (length xs)) x) (weighted_sum c xs)

-- sum k of the data bytes: P at 0, Q at 1 and R at 2, with the powers of 1, 2 and 4
abbrev pub parity_sum : ℕ → List ℕ → ℕ
parity_sum k bytes = weighted_sum (2 ^ k) bytes

-- the bytes P, Q and R, as many as the parity says, and then the data bytes
abbrev pub IsCodeword : ℕ → List ℕ → Type 0
IsCodeword parity row = (k : ℕ) → k < parity → slice_index row k ≡ parity_sum k (drop parity row)
