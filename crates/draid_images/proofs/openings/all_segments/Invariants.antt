use Rattle.std.proofs.Common.{◌≡◌, ◌⊎◌, true, Some}
use Rattle.draid_machine.specs.Claims.{is_on}
use Rattle.draid_machine.specs.Names.{has_segment}
use Rattle.draid_machine.specs.declared.names.Held.{Held}
use Rattle.draid_machine.specs.declared.names.Segment.{Segment}
use Rattle.draid_world.specs.World.{held_in, names_at, site_layout}
use Rattle.draid_steps.proofs.Entries.{AreApart, AllLow}
use Rattle.draid_images.proofs.openings.all_segments.Given as goal

abbrev pub invariant-loop-key : goal.invariant-loop-key
invariant-loop-key l =
    ((s : Segment) (h : Held) → held_in l.tables.held.entries s.key ≡ Some h → is_on (site_layout l.site) (names_at l.tables.order.items) s h ≡ true
    → (has_segment l.set.keys s ≡ true) ⊎ (held_in l.key-iterator s.key ≡ Some h))
    × AreApart l.key-iterator × AllLow l.key-iterator
