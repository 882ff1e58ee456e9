use Rattle.std.proofs.Common.{◌≤◌, ◌-◌}
use Rattle.std.specs.Prelude.{nat_eq}
use Rattle.std.specs.HashMap.{get}
use Rattle.draid_spec.specs.Geometry.{metaslab_stripes}
use Rattle.draid_found.specs.Together.{noted_in}
use Rattle.draid_found.proofs.NewestBeside.{NotingBeside}
use Rattle.draid_found.proofs.beside.note_all_beside.Given as goal

-- the blocks below a stripe were noted
abbrev pub invariant-loop-pointer : goal.invariant-loop-pointer
invariant-loop-pointer g l = record {
  noted : NotingBeside g.R.Rack l.shard (noted_in l.keys) l.from (get nat_eq l.initial.newest) (get nat_eq l.newest);
  bound : l.from ≤ metaslab_stripes l.shard.geometry;
}

abbrev pub decreases-loop-pointer : goal.decreases-loop-pointer
decreases-loop-pointer g l = metaslab_stripes l.shard.geometry - l.from
