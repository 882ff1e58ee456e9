use Rattle.std.proofs.Common.{◌≡◌, ◌≤◌, ◌-◌}
use Rattle.std.specs.Prelude.{nat_eq}
use Rattle.std.specs.HashMap.{get}
use Rattle.draid_spec.specs.Geometry.{metaslab_stripes}
use Rattle.draid_found.specs.Together.{noted_in, place_in}
use Rattle.draid_found.proofs.Noted.{Noting}
use Rattle.draid_found.proofs.Together.{NotesBelow}
use Rattle.draid_found.proofs.finding.Found.note_all.Given as goal

-- the blocks below a stripe were noted
abbrev pub invariant-loop-pointer : goal.invariant-loop-pointer
invariant-loop-pointer g l = record {
  noting : Noting g.R.Rack l.shard l.from (get nat_eq l.initial.self.newest) (get nat_eq l.self.newest) l.initial.self.seq l.self.seq;
  keys : NotesBelow l.shard l.from (noted_in l.initial.self.keys) (noted_in l.self.keys);
  at : l.at ≡ place_in l.shard l.from;
  bound : l.from ≤ metaslab_stripes l.shard.geometry;
}

abbrev pub decreases-loop-pointer : goal.decreases-loop-pointer
decreases-loop-pointer g l = metaslab_stripes l.shard.geometry - l.from
