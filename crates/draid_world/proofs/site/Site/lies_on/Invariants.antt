use Rattle.std.proofs.Common.{◌≡◌, ◌==◌, false}
use Rattle.draid_machine.specs.Names.{any_below}
use Rattle.draid_world.specs.World.{core_of, site_layout}
use Rattle.draid_world.specs.Lying.{keeps_at}
use Rattle.draid_world.proofs.site.Site.lies_on.Given as goal

abbrev pub invariant-loop-stripe : goal.invariant-loop-stripe
invariant-loop-stripe l = any_below l.stripe (keeps_at (site_layout l.self) (core_of l.tables) (λ m. m == l.leaf) l.name) ≡ false
