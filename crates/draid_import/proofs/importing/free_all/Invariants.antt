use Rattle.std.proofs.Common.{◌≤◌, length}
use Rattle.std.specs.Prelude.{nat_eq}
use Rattle.std.specs.HashMap.{get}
use Rattle.draid_uber.specs.Uber.{point_of}
use Rattle.draid_import.specs.Found.{KeepsFound}
use Rattle.draid_import.proofs.Found.{Freeing}
use Rattle.draid_import.proofs.ImportFreed.{OnlyIn}
use Rattle.draid_import.proofs.importing.free_all.Given as goal

-- the metaslabs below a number were looked at
abbrev pub invariant-loop-number : goal.invariant-loop-number
invariant-loop-number g l = record {
  freeing : Freeing g.R.Rack (get nat_eq l.newest) (point_of l.uber).group l.number l.initial.shards.items l.shards.items;
  keeps : KeepsFound g.R.Rack g.A.Area (get nat_eq l.newest) (point_of l.uber).group l.floor l.initial.shards.items l.shards.items;
  only : OnlyIn g.R.Rack g.A.Area (get nat_eq l.newest) (point_of l.uber).group l.floor l.number l.shards.items;
  bound : l.number ≤ length l.initial.shards.items;
}
