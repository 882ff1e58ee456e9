-- The columns of a block over the stripes of any geometry.
use Rattle.std.specs.Prelude.{◌≡◌, ◌⊎◌, ◌≤◌, ◌<◌, ◌+◌, ◌*◌, ℕ, zero, suc, List, [], ◌++◌, length, map, take, slice_index}
use Rattle.std.specs.List.{range_with_len}
use Rattle.draid_names.specs.declared.numbers.TheConstants.{LONGEST_BLOCK}
use Rattle.sha2.specs.Sha256.{sha256}
use Rattle.draid_gf.specs.Field.{IsByte}
use Rattle.draid_names.specs.declared.pointer.Pointer.{Pointer}
use Rattle.draid_spec.specs.declared.layout.Geometry.{Geometry}
use Rattle.draid_parity.specs.Codeword.{parity_sum}
use Rattle.draid_parity.specs.Columns.{StripeValue, IsStripe, IsEncoded, byte_row, column_at}
use Rattle.draid_block.specs.Columns.{Cut, stripes_of, sectors_in, data_column}

-- how the pools of a geometry cut their blocks
abbrev pub cut_of : Geometry → Cut
cut_of geometry = record { sector = geometry.props.sector; ndata = geometry.spec.ndata; parity = geometry.spec.parity }

-- the bytes of one column of a block of this length: a sector for each of its stripes
unfoldable pub column_len : Cut → ℕ → ℕ
column_len cut len = stripes_of cut len * cut.sector

-- Columns of a block of this length as the columns of a stripe, each with its sectors of all the block's stripes.
abbrev pub stripe_of : Cut → ℕ → List (List ℕ) → StripeValue
stripe_of cut len columns = record { parity = cut.parity; ndata = cut.ndata; len = column_len cut len; columns = columns }

-- The columns of the block w: the parity columns, and then the data columns, which have the sectors of w. At each byte they are a codeword.
pub record AreColumns (cut : Cut) (w : List ℕ) (columns : List (List ℕ)) : Type 0 where
  pub stripe : IsStripe (stripe_of cut (length w) columns)
  pub sectors : (i : ℕ) → i < cut.ndata → column_at columns (cut.parity + i) ≡ data_column cut w i
  pub codewords : IsEncoded (stripe_of cut (length w) columns)

-- the data columns of the block w
abbrev pub data_columns : Cut → List ℕ → List (List ℕ)
data_columns cut w = map (λ i. data_column cut w i) (range_with_len 0 cut.ndata)

-- parity column k of the block w: sum k of its data columns at each byte
abbrev pub parity_column : Cut → List ℕ → ℕ → List ℕ
parity_column cut w k = map (λ j. parity_sum k (byte_row j (data_columns cut w))) (range_with_len 0 (column_len cut (length w)))

-- the columns of the block w
unfoldable pub columns_of : Cut → List ℕ → List (List ℕ)
columns_of cut w = map (λ k. parity_column cut w k) (range_with_len 0 cut.parity) ++ data_columns cut w

-- the sectors of a block of this length that its first data columns hold, in order
unfoldable pub sectors_upto : Cut → ℕ → List (List ℕ) → ℕ → List ℕ
sectors_upto cut len columns zero = []
sectors_upto cut len columns (suc i) =
    sectors_upto cut len columns i ++ take (sectors_in cut len i * cut.sector) (column_at columns (cut.parity + i))

-- the bytes of a block of this length with these columns
abbrev pub bytes_of : Cut → ℕ → List (List ℕ) → List ℕ
bytes_of cut len columns = take len (sectors_upto cut len columns cut.ndata)

-- the content of a pointer: bytes of its length with its digest
pub record IsContent (pointer : Pointer) (w : List ℕ) : Type 0 where
  pub len : length w ≡ pointer.len
  pub digest : sha256 w ≡ pointer.digest
  pub bytes : (j : ℕ) → IsByte (slice_index w j)

-- what contracts see of a block that is cut: how, its bytes, and its columns
pub record BlockValue : Type 0 where
  pub cut : Cut
  pub bytes : List ℕ
  pub columns : List (List ℕ)

-- the parts are those of the block
pub record IsBlock (block : BlockValue) (len stripes : ℕ) (digest : List ℕ) : Type 0 where
  pub some : 1 ≤ len
  pub short : len ≤ LONGEST_BLOCK
  pub sector : (block.cut.sector ≡ 512) ⊎ (block.cut.sector ≡ 4096)
  pub len_is : length block.bytes ≡ len
  pub stripes_is : stripes ≡ stripes_of block.cut len
  pub digest_is : digest ≡ sha256 block.bytes
  pub bytes : (j : ℕ) → IsByte (slice_index block.bytes j)
  pub columns : AreColumns block.cut block.bytes block.columns

-- the value of a block whose columns are this stripe's
abbrev pub block_value : ℕ → ℕ → StripeValue → BlockValue
block_value sector len stripe =
    let cut : Cut = record { sector = sector; ndata = stripe.ndata; parity = stripe.parity } in
    record { cut = cut; bytes = bytes_of cut len stripe.columns; columns = stripe.columns }
