use Rattle.std.proofs.Common.{◌<◌, ℕ}
use Rattle.draid_machine.specs.Step.{FailsThere}
use Rattle.draid_world.specs.World.{core_of, site_layout}
use Rattle.draid_scrubs.proofs.wholes.heals_there.Given as goal

abbrev pub invariant-loop-column : goal.invariant-loop-column
invariant-loop-column l = (c : ℕ) → c < l.column → FailsThere (site_layout l.site) (core_of l.tables) l.held c l.leaf → ⊥
