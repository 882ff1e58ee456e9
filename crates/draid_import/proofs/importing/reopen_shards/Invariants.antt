use Rattle.std.proofs.Common.{◌≡◌, ◌≤◌, ℕ, Some, length}
use Rattle.std.specs.Prelude.{slice_get, vec_capacity}
use Rattle.draid_shard.specs.declared.shard.Shard.{Shard}
use Rattle.draid_uber.specs.Slots.{group_of}
use Rattle.draid_uber.specs.Uber.{kept_of, layout_of, next_leaf_of}
use Rattle.draid_session.specs.State.{limit_of}
use Rattle.draid_import.specs.Found.{IsReopened, OpensAllOver}
use Rattle.draid_pool.specs.Taking.{TakesFirst}
use Rattle.draid_import.proofs.importing.reopen_shards.Given as goal

-- the metaslabs so far are open
abbrev pub invariant-loop-number : goal.invariant-loop-number
invariant-loop-number g l = let shelf = g.H.Shelf in record {
  many : length l.shards.items ≡ l.number;
  each : (m : ℕ) (shard : Shard g.row.H-R.Denot g.row.H-A.Denot) → slice_get l.shards.items m ≡ Some shard
      → IsReopened g.H.R.Rack (record { geometry = layout_of l.uber; perms = l.perms; number = m }) (group_of (kept_of l.uber)) shard;
  room : (layout_of l.uber).props.metaslabs ≤ vec_capacity l.shards;
  over : OpensAllOver g.H.R.Rack g.H.A.Area (limit_of (layout_of l.uber)) (group_of (kept_of l.uber)) (next_leaf_of l.uber) (shelf.told l.initial.shelf) (shelf.leaves l.initial.shelf) (shelf.counts l.initial.shelf) l.shards.items;
  told : TakesFirst l.number (shelf.told l.initial.shelf) (shelf.told l.shelf);
  counts : (m : ℕ) → l.number ≤ m → shelf.counts l.shelf m ≡ shelf.counts l.initial.shelf m;
  leaves : (m : ℕ) → l.number ≤ m → shelf.leaves l.shelf m ≡ shelf.leaves l.initial.shelf m;
  later : shelf.faults l.initial.shelf ≤ shelf.faults l.shelf;
  bound : l.number ≤ (layout_of l.uber).props.metaslabs;
}
