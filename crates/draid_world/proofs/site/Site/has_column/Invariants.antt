use Rattle.std.proofs.Common.{◌≡◌, false}
use Rattle.draid_machine.specs.Names.{any_below, has_name}
use Rattle.draid_world.specs.World.{core_of, site_layout}
use Rattle.draid_world.proofs.site.Site.has_column.Given as goal

abbrev pub invariant-loop-column : goal.invariant-loop-column
invariant-loop-column l =
    any_below l.column (λ c. has_name ((core_of l.tables).order ((site_layout l.self).slot_of l.stripe c)) l.name) ≡ false
