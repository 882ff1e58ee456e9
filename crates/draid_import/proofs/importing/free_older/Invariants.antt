use Rattle.std.proofs.Common.{◌≡◌, ◌≤◌, ◌-◌, ℕ, Some}
use Rattle.std.specs.Prelude.{nat_eq}
use Rattle.std.specs.HashMap.{get}
use Rattle.draid_spec.specs.Geometry.{metaslab_stripes}
use Rattle.draid_machine.specs.declared.names.Stage.TheVariants.{Live}
use Rattle.draid_entries.specs.declared.entry.Entry.{Entry}
use Rattle.draid_entries.specs.Entries.{entry_at}
use Rattle.draid_uber.specs.Uber.{point_of}
use Rattle.draid_import.specs.Found.{FreesOlder, KeepsFoundAt}
use Rattle.draid_import.proofs.ImportFreed.{OnlyBelow}
use Rattle.draid_import.proofs.importing.free_older.Given as goal

-- the blocks below a stripe were looked at
abbrev pub invariant-loop-pointer : goal.invariant-loop-pointer
invariant-loop-pointer g l = record {
  frees : FreesOlder g.R.Rack (get nat_eq l.newest) (point_of l.uber).group l.initial.shard l.shard;
  open_group : l.shard.open_group ≡ l.initial.shard.open_group;
  left : (first : ℕ) (e : Entry) → l.from ≤ first → entry_at l.shard.entries first ≡ Some e → e.stage ≡ Live;
  bound : l.from ≤ metaslab_stripes l.initial.shard.geometry;
  keeps : KeepsFoundAt g.R.Rack g.A.Area (get nat_eq l.newest) (point_of l.uber).group l.floor l.initial.shard l.shard;
  only : OnlyBelow g.R.Rack g.A.Area (get nat_eq l.newest) (point_of l.uber).group l.floor l.from l.shard;
}

abbrev pub decreases-loop-pointer : goal.decreases-loop-pointer
decreases-loop-pointer g l = metaslab_stripes l.initial.shard.geometry - l.from
