-- A shard stands for a state of its metaslab, and its rack has what that state says.
use Rattle.draid_rack.specs.Rack.{OnTold}
use Rattle.draid_rack.specs.declared.Rack.{Ghosts}
use Rattle.draid_machine.specs.Created.{IsReached}
use Rattle.draid_machine.specs.State as machine
use Rattle.draid_segments.specs.Segments.{Backed, Pieces}
use Rattle.draid_shard.specs.States.{IsIn, layout_by}
use Rattle.draid_shard.specs.declared.shard.Shard.{Shard}

pub record StandsFor {R A : Type 0} (rack : Ghosts R) (shard : Shard R A) (w : machine.State) (pieces : Pieces) : Type 0 where
  pub is_in : IsIn shard w
  pub reached : IsReached (layout_by shard) w
  pub segments : OnTold (rack.told shard.rack) (Backed (layout_by shard) pieces w)
