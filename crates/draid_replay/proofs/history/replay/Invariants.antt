use Rattle.draid_world.specs.World.{site_layout, state_of}
use Rattle.draid_replay.specs.History.{IsSoFar}
use Rattle.draid_replay.proofs.history.replay.Given as goal

abbrev pub invariant-loop-at : goal.invariant-loop-at
invariant-loop-at l = IsSoFar (site_layout l.site) (state_of l.fn.start) l.events l.at (state_of l.world)
