use Rattle.std.proofs.Common.{◌<◌, ℕ, get_or}
use Rattle.draid_machine.specs.Step.{FlushesThere}
use Rattle.draid_world.specs.World.{core_of, pass_of, site_layout}
use Rattle.draid_passes.proofs.ends.are_flushed.Given as goal

abbrev pub invariant-loop-leaf : goal.invariant-loop-leaf
invariant-loop-leaf l = (i : ℕ) → i < l.leaf-index → FlushesThere (site_layout l.site) (core_of l.tables) (pass_of l.pass) (get_or l.leaves i 0)
