use Rattle.std.proofs.Common.{◌≡◌, ◌||◌, drop, Bool}
use Rattle.std.specs.List.{list_any}
use Rattle.draid_machine.specs.Names.{has_segment}
use Rattle.draid_machine.specs.declared.names.ArmName.{ArmName}
use Rattle.draid_machine.specs.declared.names.Segment.{Segment}
use Rattle.draid_world.specs.World.{names_at, site_layout}
use Rattle.draid_steps.specs.Columns.{is_row}
use Rattle.draid_steps.proofs.columns.add_landed.Given as goal

abbrev pub invariant-loop-name : goal.invariant-loop-name
invariant-loop-name l = (s : Segment) →
    let test : ArmName → Bool = λ n. is_row (site_layout l.site) (names_at l.order) l.key l.held l.column n l.held.stripes s in
    (has_segment l.segments.keys s || list_any test (drop l.name-index l.landed)) ≡ (has_segment l.fn.segments.keys s || list_any test l.landed)
