-- The blocks of a pool's metaslab have bytes: each is some write's.
use Rattle.std.proofs.Common.{◌≡◌, ◌∙◌, ℕ, Some, sym, ap, subst, length, true}
use Rattle.std.specs.Prelude.{option_map, slice_get}
use Rattle.draid_rack.specs.declared.Rack as racks
use Rattle.sha2.specs.Sha256.{sha256}
use Rattle.draid_area.specs.declared.Area as areas
use Rattle.draid_block.specs.Blocks.{cut_of}
use Rattle.draid_block.specs.Columns.{stripes_of}
use Rattle.draid_spec.specs.declared.layout.Geometry.{Geometry}
use Rattle.draid_machine.specs.declared.names.Held.{Held}
use Rattle.draid_machine.specs.declared.names.Key.{Key}
use Rattle.draid_segments.specs.Segments.{Pieces}
use Rattle.draid_objects.specs.Blocks.{table_of}
use Rattle.draid_objects.specs.Changes.{Write, key_of}
use Rattle.draid_objects.proofs.Finding.{write_key}
use Rattle.draid_shard.specs.Columns.{ArePieces}
use Rattle.draid_shard.specs.Part.{Part}
use Rattle.draid_shard.specs.declared.shard.Shard.{Shard}
use Rattle.draid_mend.specs.Solving.{HasContent, HasKnownContent}
use Rattle.draid_session.specs.State.{Metaslab, State}
use Rattle.draid_pool.specs.Metaslabs.{IsMetaslab}
use Rattle.draid_pool.specs.Objects.{HasPieces, blocks_of}
use Rattle.draid_pool.specs.Pools.{Represents, part_in}
use Rattle.draid_pool.specs.declared.pool.Pool.{Pool}
use Rattle.draid_pool.specs.Bytes.{HasBytes}
use Rattle.draid_pool.proofs.Contents.{held_long}
use Rattle.draid_visits.specs.Steps.{HasContents}
use Rattle.draid_machine.specs.Names.{is_block}

bytes_by : (geometry : Geometry) (held : Held) (key : Key) (write : Write) (pieces : Pieces) → HasPieces geometry write pieces → key_of write ≡ key → held.len ≡ length write.bytes
    → held.digest ≡ sha256 write.bytes → held.stripes ≡ stripes_of (cut_of geometry) held.len → HasBytes geometry held key pieces
bytes_by geometry held key write pieces has own len digest long = record {
  content = has.content;
  len = has.len ∙ sym len;
  digest = has.digest ∙ sym digest;
  bytes = has.bytes;
  columns = has.columns;
  are = has.are;
  rows = subst (λ k. ArePieces geometry.props.sector geometry.g held.stripes has.columns k pieces) own
      (subst (λ n. ArePieces geometry.props.sector geometry.g n has.columns (key_of write) pieces) (sym (long ∙ ap (stripes_of (cut_of geometry)) len)) has.rows);
}

-- so they have content
content_by : (geometry : Geometry) (held : Held) (key : Key) (pieces : Pieces) → HasBytes geometry held key pieces → held.stripes ≡ stripes_of (cut_of geometry) held.len → HasContent geometry held.stripes key pieces
content_by geometry held key pieces has long = record {
  bytes = has.content;
  columns = has.columns;
  are = has.are;
  each = has.bytes;
  rows = has.rows;
  long = long ∙ ap (stripes_of (cut_of geometry)) (sym has.len);
}

module _ {R A : Type 0} (rack : racks.Ghosts R) (area : areas.Ghosts A) where
  -- what is known of a block is its content
  pub known_content : (part : Part) (pieces : Pieces) (shard : Shard R A) (y : Metaslab) (key : Key) (held : Held) → IsMetaslab rack area part pieces shard y → is_block held.stage ≡ true → y.world.core.held key ≡ Some held
      → HasKnownContent part.geometry held.stripes key pieces
  known_content part pieces shard y key held is block at c row known = content_by part.geometry held key pieces (is.bytes key held at block c row known) (held_long rack area part pieces shard y key held is at)

  pub contents_of : (pool : Pool R A) (x : State) (r : Represents rack area pool x) (m : ℕ) (shard : Shard R A) (y : Metaslab) → slice_get x.metaslabs m ≡ Some y
      → IsMetaslab rack area (part_in x m) (r.stands.pieces m) shard y → HasContents (part_in x m) (r.stands.pieces m) y
  contents_of pool x r m shard y there is key held at block =
      let here : blocks_of x.metaslabs m key ≡ Some held = ap (λ o. table_of (option_map (λ (z : Metaslab). z.world) o) key) there ∙ at in
      let own = r.stands.holds.stores.only m key held here (r.stands.holds.settled m key held here) in
      bytes_by x.geometry held key own.0 (r.stands.pieces m) (r.stands.holds.bytes m key held own.0 here own.1) (write_key x.store.changes key own.0 own.1) own.3.len own.3.digest_is
      (held_long rack area (part_in x m) (r.stands.pieces m) shard y key held is at)
