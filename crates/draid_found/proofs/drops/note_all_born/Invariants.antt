use Rattle.std.proofs.Common.{◌≤◌, ◌-◌}
use Rattle.draid_spec.specs.Geometry.{metaslab_stripes}
use Rattle.draid_found.specs.Together.{noted_in}
use Rattle.draid_found.proofs.Born.{NotesBornBelow}
use Rattle.draid_found.proofs.drops.note_all_born.Given as goal

-- the blocks below a stripe were noted
abbrev pub invariant-loop-pointer : goal.invariant-loop-pointer
invariant-loop-pointer g l = record {
  noted : NotesBornBelow l.shard l.upto l.from (noted_in l.initial.keys) (noted_in l.keys);
  bound : l.from ≤ metaslab_stripes l.shard.geometry;
}

abbrev pub decreases-loop-pointer : goal.decreases-loop-pointer
decreases-loop-pointer g l = metaslab_stripes l.shard.geometry - l.from
