-- How a block's sectors are cut over the data columns of its stripes.
use Rattle.std.specs.Int.{div_ceil}
use Rattle.std.specs.Prelude.{ℕ, zero, suc, ◌+◌, ◌-◌, ◌*◌, ◌%◌, ◌==◌, List, ◌++◌, length, take, drop, replicate, nat_lt, if◌then◌else◌}

-- how blocks are cut: the bytes of a sector, and how many data and parity columns a stripe has
pub record Cut : Type 0 where
  pub sector : ℕ
  pub ndata : ℕ
  pub parity : ℕ

-- how many sectors a block of so many bytes fills, the last one perhaps in part
unfoldable pub sectors_of : Cut → ℕ → ℕ
sectors_of cut len = div_ceil len cut.sector

-- how many stripes the block takes: each holds one sector of every data column
unfoldable pub stripes_of : Cut → ℕ → ℕ
stripes_of cut len = div_ceil (sectors_of cut len) cut.ndata

-- how many data columns are full where the block doesn't fill its stripes (0: it fills them all)
unfoldable pub full_columns : Cut → ℕ → ℕ
full_columns cut len = sectors_of cut len % cut.ndata

-- Of h stripes a data column holds h sectors of the block. Where only the first r columns are full, each later one holds one less.
unfoldable pub sectors_in : Cut → ℕ → ℕ → ℕ
sectors_in cut len i =
    if full_columns cut len == 0 then stripes_of cut len
    else if nat_lt i (full_columns cut len) then stripes_of cut len
    else stripes_of cut len - 1

-- how many sectors of the block the data columns before this one hold, since they take the sectors in order
unfoldable pub sectors_before : Cut → ℕ → ℕ → ℕ
sectors_before cut len zero = 0
sectors_before cut len (suc i) = sectors_before cut len i + sectors_in cut len i

-- the bytes, filled with zero bytes up to this length
abbrev pub filled : ℕ → List ℕ → List ℕ
filled len bytes = bytes ++ replicate (len - length bytes) 0

-- A data column: its sectors of the block, filled with zero bytes to a sector for each stripe.
unfoldable pub data_column : Cut → List ℕ → ℕ → List ℕ
data_column cut w i =
    filled (stripes_of cut (length w) * cut.sector)
    (take (sectors_in cut (length w) i * cut.sector) (drop (sectors_before cut (length w) i * cut.sector) w))
