-- The columns of a stripe that are solved from those that were read are the block's.
use Rattle.std.specs.Prelude.{◌≡◌, ◌<◌, ℕ, List, Some, Contains, IsSome, length, map, slice_index}
use Rattle.draid_gf.specs.Field.{IsByte}
use Rattle.draid_parity.specs.Columns.{StripeValue, column_at}
use Rattle.draid_block.specs.Blocks.{AreColumns, cut_of}
use Rattle.draid_block.specs.Columns.{stripes_of}
use Rattle.draid_spec.specs.declared.layout.Geometry.{Geometry}
use Rattle.draid_machine.specs.declared.names.Key.{Key}
use Rattle.draid_segments.specs.Segments.{Pieces}
use Rattle.draid_shard.specs.Columns.{ArePieces, row_bytes}

-- the sectors of a row of a block's columns
abbrev pub sectors_of : ℕ → List (List ℕ) → ℕ → List (List ℕ)
sectors_of size columns row = map (λ column. row_bytes size column row) columns

-- The pieces of a key are the rows of the columns of some bytes, of as many stripes.
pub record HasContent (geometry : Geometry) (stripes : ℕ) (key : Key) (pieces : Pieces) : Type 0 where
  pub bytes : List ℕ
  pub columns : List (List ℕ)
  pub are : AreColumns (cut_of geometry) bytes columns
  pub each : (j : ℕ) → IsByte (slice_index bytes j)
  pub rows : ArePieces geometry.props.sector geometry.g stripes columns key pieces
  pub long : stripes ≡ stripes_of (cut_of geometry) (length bytes)

-- where some piece of a key is known, all are, and these are the pieces of some bytes
abbrev pub HasKnownContent : Geometry → ℕ → Key → Pieces → Type 0
HasKnownContent geometry stripes key pieces = (c row : ℕ) → IsSome (pieces key c row) → HasContent geometry stripes key pieces

-- a stripe has one sector of each column of a layout
pub record IsOneSector (geometry : Geometry) (stripe : StripeValue) : Type 0 where
  pub parity : stripe.parity ≡ geometry.spec.parity
  pub ndata : stripe.ndata ≡ geometry.spec.ndata
  pub len : stripe.len ≡ geometry.props.sector

-- a column of a stripe that was read is the block's piece in a row
abbrev pub IsPiece : Pieces → Key → ℕ → StripeValue → ℕ → Type 0
IsPiece pieces key row stripe c = Some (column_at stripe.columns c) ≡ pieces key c row

-- What was solved of a row of a block. A column that was read stays as it was. Where all those that were read are the block's, so are the missing ones.
pub record SolvesRow (geometry : Geometry) (missing : List ℕ) (old new : StripeValue) : Type 0 where
  pub shape : IsOneSector geometry new
  pub stays : (c : ℕ) → (Contains missing c → ⊥) → column_at new.columns c ≡ column_at old.columns c
  pub solved : (stripes row : ℕ) (key : Key) (pieces : Pieces) → HasContent geometry stripes key pieces → row < stripes
      → ((c : ℕ) → c < geometry.g → (Contains missing c → ⊥) → IsPiece pieces key row old c) → (c : ℕ) → c < geometry.g → IsPiece pieces key row new c
