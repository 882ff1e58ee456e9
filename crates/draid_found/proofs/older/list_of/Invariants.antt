use Rattle.std.proofs.Common.{◌≤◌, ◌-◌}
use Rattle.std.specs.Prelude.{nat_eq}
use Rattle.std.specs.HashMap.{get}
use Rattle.draid_spec.specs.Geometry.{metaslab_stripes}
use Rattle.draid_found.specs.Together.{noted_in}
use Rattle.draid_found.proofs.Listing.{ListsBelow}
use Rattle.draid_found.proofs.older.list_of.Given as goal

-- the blocks below a stripe were listed
abbrev pub invariant-loop-pointer : goal.invariant-loop-pointer
invariant-loop-pointer g l = record {
  listed : ListsBelow l.shard (get nat_eq l.newest) l.upto l.from l.initial.list.items (noted_in l.initial.keys) l.list.items (noted_in l.keys);
  bound : l.from ≤ metaslab_stripes l.shard.geometry;
}

abbrev pub decreases-loop-pointer : goal.decreases-loop-pointer
decreases-loop-pointer g l = metaslab_stripes l.shard.geometry - l.from
