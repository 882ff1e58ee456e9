use Rattle.std.proofs.Common.{◌≡◌, ◌<◌, true}
use Rattle.draid_machine.specs.Claims.{is_on}
use Rattle.draid_machine.specs.Names.{has_segment}
use Rattle.draid_machine.specs.declared.names.Segment.{Segment}
use Rattle.draid_world.specs.World.{names_at, site_layout}
use Rattle.draid_images.proofs.openings.add_block.Given as goal

abbrev pub invariant-loop-column : goal.invariant-loop-column
invariant-loop-column l =
    ((s : Segment) → has_segment l.fn.set.keys s ≡ true → has_segment l.set.keys s ≡ true)
    × ((s : Segment) → l.key ≡ s.key → s.column < l.column → is_on (site_layout l.site) (names_at l.order) s l.held ≡ true → has_segment l.set.keys s ≡ true)
