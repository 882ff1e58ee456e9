-- The blocks of a pool's metaslab have bytes: each is some write's.
use Rattle.std.proofs.Common.{◌≡◌, ◌∙◌, ℕ, Some, sym, ap, subst, length}
use Rattle.std.specs.Prelude.{option_map, slice_get}
use Rattle.sha2.specs.Sha256.{sha256}
use Rattle.draid_rack.specs.declared.Rack as racks
use Rattle.draid_area.specs.declared.Area as areas
use Rattle.draid_block.specs.Blocks.{cut_of}
use Rattle.draid_block.specs.Columns.{stripes_of}
use Rattle.draid_spec.specs.declared.layout.Geometry.{Geometry}
use Rattle.draid_machine.specs.declared.names.Held.{Held}
use Rattle.draid_machine.specs.declared.names.Key.{Key}
use Rattle.draid_segments.specs.Segments.{Pieces}
use Rattle.draid_objects.specs.Blocks.{table_of}
use Rattle.draid_objects.specs.Changes.{Write, key_of}
use Rattle.draid_objects.proofs.Finding.{write_key}
use Rattle.draid_shard.specs.Columns.{ArePieces}
use Rattle.draid_shard.specs.declared.shard.Shard.{Shard}
use Rattle.draid_session.specs.State.{Metaslab, State}
use Rattle.draid_pool.specs.Bytes.{HasBytes, HaveBytes}
use Rattle.draid_pool.specs.Metaslabs.{IsMetaslab}
use Rattle.draid_pool.specs.Objects.{HasPieces, blocks_of}
use Rattle.draid_pool.specs.Pools.{Represents, part_in}
use Rattle.draid_pool.specs.declared.pool.Pool.{Pool}
use Rattle.draid_pool.proofs.Contents.{held_long}

bytes_by : (geometry : Geometry) (held : Held) (key : Key) (write : Write) (pieces : Pieces) → HasPieces geometry write pieces → key_of write ≡ key → held.len ≡ length write.bytes
    → held.digest ≡ sha256 write.bytes → held.stripes ≡ stripes_of (cut_of geometry) held.len → HasBytes geometry held key pieces
bytes_by geometry held key write pieces has own len digest long = record {
  content = has.content;
  len = has.len ∙ sym len;
  digest = has.digest ∙ sym digest;
  bytes = has.bytes;
  columns = has.columns;
  are = has.are;
  rows = subst (λ k. ArePieces geometry.props.sector geometry.g held.stripes has.columns k pieces) own
      (subst (λ n. ArePieces geometry.props.sector geometry.g n has.columns (key_of write) pieces) (sym (long ∙ ap (stripes_of (cut_of geometry)) len)) has.rows);
}

pub pool_bytes : {R A : Type 0} (rack : racks.Ghosts R) (area : areas.Ghosts A) (pool : Pool R A) (x : State) (r : Represents rack area pool x) (m : ℕ) (shard : Shard R A) (y : Metaslab) → slice_get x.metaslabs m ≡ Some y
    → IsMetaslab rack area (part_in x m) (r.stands.pieces m) shard y → HaveBytes x.geometry (r.stands.pieces m) y
pool_bytes rack area pool x r m shard y there is key held at block =
    let here : blocks_of x.metaslabs m key ≡ Some held = ap (λ o. table_of (option_map (λ (z : Metaslab). z.world) o) key) there ∙ at in
    let own = r.stands.holds.stores.only m key held here (r.stands.holds.settled m key held here) in
    bytes_by x.geometry held key own.0 (r.stands.pieces m) (r.stands.holds.bytes m key held own.0 here own.1) (write_key x.store.changes key own.0 own.1) own.3.len own.3.digest_is
    (held_long rack area (part_in x m) (r.stands.pieces m) shard y key held is at)
