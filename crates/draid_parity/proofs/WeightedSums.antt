-- The bytes of a row of columns.
use Rattle.std.proofs.Common.{◌≡◌, ℕ, ◌+◌, ◌-◌, ◌∙◌, List, [], length, get_or, drop, ap}
use Rattle.std.specs.Prelude.{slice_index}
use Rattle.std.proofs.Math.ListN.{get_or-map}
use Rattle.std.proofs.lemmas.List.{length-map, length-drop, get_or-drop}
use Rattle.draid_parity.specs.Columns.{byte_row, column_at}

-- ---- rows of bytes
pub byte_row-at : (j : ℕ) (columns : List (List ℕ)) (i : ℕ) → get_or (byte_row j columns) i 0 ≡ slice_index (column_at columns i) j
byte_row-at j columns i = get_or-map (λ column. slice_index column j) columns i []

pub data_row-at : (j p : ℕ) (columns : List (List ℕ)) (i : ℕ) → get_or (byte_row j (drop p columns)) i 0 ≡ slice_index (column_at columns (p + i)) j
data_row-at j p columns i = byte_row-at j (drop p columns) i ∙ ap (λ column. slice_index column j) (get_or-drop p columns i [])

pub data_row-length : (j p : ℕ) (columns : List (List ℕ)) → length (byte_row j (drop p columns)) ≡ length columns - p
data_row-length j p columns = length-map (drop p columns) (λ c. slice_index c j) ∙ length-drop p columns
