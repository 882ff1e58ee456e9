use Rattle.std.proofs.Common.{◌≡◌, ◌<◌, ℕ, Some}
use Rattle.draid_machine.specs.declared.names.ArmName.{ArmName}
use Rattle.draid_machine.specs.Arms as arms
use Rattle.draid_world.specs.World.{core_of, site_layout}
use Rattle.draid_steps.proofs.fetch.is_read.Given as goal

abbrev pub invariant-loop-column : goal.invariant-loop-column
invariant-loop-column l =
    (c : ℕ) (n : ArmName) → c < l.column → arms.reading (site_layout l.site) (core_of l.tables) l.held c ≡ Some n
    → arms.leaf_at (site_layout l.site) (core_of l.tables).order n l.held.first ≡ Some l.leaf → ⊥
