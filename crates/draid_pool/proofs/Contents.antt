-- The bytes of a metaslab's blocks, where pieces may be those of other bytes of the same length and digest.
use Rattle.std.proofs.Common.{◌≡◌, ◌∙◌, inl, inr, Some, sym, ap, subst, length}
use Rattle.sha2.specs.Sha256.{sha256}
use Rattle.draid_rack.specs.declared.Rack as racks
use Rattle.draid_area.specs.declared.Area as areas
use Rattle.draid_block.specs.Blocks.{cut_of}
use Rattle.draid_block.specs.Columns.{stripes_of}
use Rattle.draid_spec.specs.declared.layout.Geometry.{Geometry}
use Rattle.draid_machine.specs.declared.names.Held.{Held}
use Rattle.draid_machine.specs.declared.names.Key.{Key}
use Rattle.draid_segments.specs.Segments.{Pieces}
use Rattle.draid_objects.specs.Changes.{Write, key_of}
use Rattle.draid_shard.specs.Columns.{ArePieces}
use Rattle.draid_shard.specs.Part.{Part}
use Rattle.draid_shard.specs.declared.shard.Shard.{Shard}
use Rattle.draid_shard.proofs.Held.{HasEntry, held_entry}
use Rattle.draid_session.specs.State.{Metaslab}
use Rattle.draid_pool.specs.Bytes.{AreLong, HasBytes, SamePieces}
use Rattle.draid_pool.specs.Metaslabs.{IsMetaslab}
use Rattle.draid_pool.specs.Objects.{HasPieces}
use Rattle.draid_pool.proofs.Bytes.{same_bytes}

-- what a write's block has then
pub pieces_by : (geometry : Geometry) (h : Held) (key : Key) (write : Write) (pieces : Pieces) → HasBytes geometry h key pieces → key_of write ≡ key → h.len ≡ length write.bytes → h.digest ≡ sha256 write.bytes
    → h.stripes ≡ stripes_of (cut_of geometry) h.len → HasPieces geometry write pieces
pieces_by geometry h key write pieces has own len digest long = record {
  content = has.content;
  len = has.len ∙ len;
  digest = has.digest ∙ digest;
  bytes = has.bytes;
  columns = has.columns;
  are = has.are;
  rows = subst (λ k. ArePieces geometry.props.sector geometry.g (stripes_of (cut_of geometry) (length write.bytes)) has.columns k pieces) (sym own)
      (subst (λ n. ArePieces geometry.props.sector geometry.g n has.columns key pieces) (long ∙ ap (stripes_of (cut_of geometry)) len) has.rows);
}

module _ {R A : Type 0} (rack : racks.Ghosts R) (area : areas.Ghosts A) where
  -- as many stripes as its bytes take
  pub held_long : (part : Part) (pieces : Pieces) (shard : Shard R A) (y : Metaslab) (key : Key) (held : Held) → IsMetaslab rack area part pieces shard y → y.world.core.held key ≡ Some held
      → held.stripes ≡ stripes_of (cut_of part.geometry) held.len
  held_long part pieces shard y key held is at =
      let e : HasEntry shard.entries key held = held_entry shard.entries key held (sym (is.stands.is_in.held key) ∙ at) in
      let block = (is.valid.tables.placed held.first e.e e.there).is_block in
      subst (λ (h : Held). h.stripes ≡ stripes_of (cut_of part.geometry) h.len) e.held_is (subst (λ (p : Part). e.e.pointer.stripes ≡ stripes_of (cut_of p.geometry) e.e.pointer.len) is.part_is block.stripes)

  pub all_long : (part : Part) (pieces : Pieces) (shard : Shard R A) (y : Metaslab) → IsMetaslab rack area part pieces shard y → AreLong part.geometry y
  all_long part pieces shard y is key held at = held_long part pieces shard y key held is at

-- ---- pieces that may be those of other bytes

-- those that are the same then
pub same_on : (part : Part) (x : Metaslab) (pieces mid now : Pieces) (key : Key) → now key ≡ mid key → SamePieces part x pieces mid key → SamePieces part x pieces now key
same_on part x pieces mid now key same (inl e) = inl (same ∙ e)
same_on part x pieces mid now key same (inr (h, there, block, has)) = inr (h, there, block, same_bytes part.geometry h key mid now same has)

-- those that are the same behind that, or that may be others again
pub same_then : (part : Part) (x mid : Metaslab) (pieces now later : Pieces) (key : Key) → ((h : Held) → mid.world.core.held key ≡ Some h → x.world.core.held key ≡ Some h)
    → SamePieces part x pieces now key → SamePieces part mid now later key → SamePieces part x pieces later key
same_then part x mid pieces now later key was first (inl same) = same_on part x pieces now later key same first
same_then part x mid pieces now later key was first (inr (h, there, block, has)) = inr (h, was h there, block, has)
