use Rattle.std.proofs.Common.{◌≡◌, ◌-◌}
use Rattle.draid_chain.specs.Chain.{spare_slot}
use Rattle.draid_machine.specs.Arms.{first_spares}
use Rattle.draid_world.specs.World.{home_at, names_at, site_layout}
use Rattle.draid_world.proofs.Chains.{end_from}
use Rattle.draid_world.proofs.site.Site.home.Given as goal

abbrev pub invariant-loop-passed : goal.invariant-loop-passed
invariant-loop-passed l =
    end_from (spare_slot l.self.perms l.slice) (first_spares (names_at l.order)) (l.self.geometry.spec.spares - l._passed) l.slot
    ≡ home_at (site_layout l.self) (names_at l.order) l.spare l.stripe
