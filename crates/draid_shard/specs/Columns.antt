-- The columns of a block that is written.
use Rattle.std.specs.Prelude.{◌≡◌, ◌<◌, ◌*◌, ℕ, List, Some, take, drop}
use Rattle.draid_machine.specs.declared.names.Key.{Key}
use Rattle.draid_parity.specs.Columns.{column_at}
use Rattle.draid_segments.specs.Segments.{Pieces}

-- the bytes of a row of a column, where sectors have this length
abbrev pub row_bytes : ℕ → List ℕ → ℕ → List ℕ
row_bytes size column row = take size (drop (row * size) column)

-- the pieces of a key are known, and are the rows of these columns
abbrev pub ArePieces : ℕ → ℕ → ℕ → List (List ℕ) → Key → Pieces → Type 0
ArePieces size count stripes columns key pieces =
    (c row : ℕ) → c < count → row < stripes → pieces key c row ≡ Some (row_bytes size (column_at columns c) row)
