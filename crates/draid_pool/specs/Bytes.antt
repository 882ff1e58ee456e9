-- What is known of the bytes of a metaslab's blocks.
use Rattle.std.specs.Prelude.{◌≡◌, ◌⊎◌, ⊤, ℕ, true, List, Some, IsSome, length, slice_index}
use Rattle.sha2.specs.Sha256.{sha256}
use Rattle.draid_gf.specs.Field.{IsByte}
use Rattle.draid_spec.specs.declared.layout.Geometry.{Geometry}
use Rattle.draid_block.specs.Blocks.{AreColumns, cut_of}
use Rattle.draid_block.specs.Columns.{stripes_of}
use Rattle.draid_machine.specs.declared.event.Event.{Event}
use Rattle.draid_machine.specs.declared.event.Event.TheVariants as event
use Rattle.draid_machine.specs.declared.names.Held.{Held}
use Rattle.draid_machine.specs.declared.names.Key.{Key}
use Rattle.draid_machine.specs.Names.{is_block}
use Rattle.draid_objects.specs.Blocks.{Table}
use Rattle.draid_segments.specs.Segments.{Pieces}
use Rattle.draid_shard.specs.Columns.{ArePieces}
use Rattle.draid_shard.specs.Part.{Part}
use Rattle.draid_session.specs.State.{Metaslab}

-- the pieces of a block are the rows of the columns of bytes that have its length and digest
pub record HasBytes (geometry : Geometry) (h : Held) (key : Key) (pieces : Pieces) : Type 0 where
  pub content : List ℕ
  pub len : length content ≡ h.len
  pub digest : sha256 content ≡ h.digest
  pub bytes : (j : ℕ) → IsByte (slice_index content j)
  pub columns : List (List ℕ)
  pub are : AreColumns (cut_of geometry) content columns
  pub rows : ArePieces geometry.props.sector geometry.g h.stripes columns key pieces

-- so they are where one of them is known
abbrev pub KnowsBlock : Geometry → Held → Key → Pieces → Type 0
KnowsBlock geometry h key pieces = (column row : ℕ) → IsSome (pieces key column row) → HasBytes geometry h key pieces

-- so it is of each block of a table, live or freed
abbrev pub KnowsBlocks : Geometry → Pieces → Table → Type 0
KnowsBlocks geometry pieces table = (key : Key) (h : Held) → table key ≡ Some h → is_block h.stage ≡ true → KnowsBlock geometry h key pieces

-- each block of a metaslab, live or freed, has bytes of its length and digest, of which these are the pieces
abbrev pub HaveBytes : Geometry → Pieces → Metaslab → Type 0
HaveBytes geometry pieces x = (key : Key) (h : Held) → x.world.core.held key ≡ Some h → is_block h.stage ≡ true → HasBytes geometry h key pieces

-- and of the ticket that an event ends as a block
abbrev pub KnowsFinished : Geometry → Pieces → Table → Event → Type 0
KnowsFinished geometry pieces table (event.Finish key) = (h : Held) → table key ≡ Some h → KnowsBlock geometry h key pieces
KnowsFinished geometry pieces table e = ⊤

-- the pieces of a key are those that they were, or the key has a block, and they are those of bytes that have its length and digest
abbrev pub SamePieces : Part → Metaslab → Pieces → Pieces → Key → Type 0
SamePieces part x pieces now key = (now key ≡ pieces key) ⊎ ((h : Held) × (x.world.core.held key ≡ Some h) × (is_block h.stage ≡ true) × HasBytes part.geometry h key now)

-- so are those of each key
pub record KeepsContents (part : Part) (x : Metaslab) (pieces later : Pieces) : Type 0 where
  pub each : (key : Key) → SamePieces part x pieces later key

-- each block has as many stripes as its bytes take
abbrev pub AreLong : Geometry → Metaslab → Type 0
AreLong geometry x = (key : Key) (h : Held) → x.world.core.held key ≡ Some h → h.stripes ≡ stripes_of (cut_of geometry) h.len
