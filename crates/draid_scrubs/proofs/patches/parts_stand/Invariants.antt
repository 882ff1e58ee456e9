use Rattle.std.proofs.Common.{drop}
use Rattle.draid_scrubs.specs.Patches.{EachPart, PartStands}
use Rattle.draid_world.specs.World.{core_of, site_layout}
use Rattle.draid_scrubs.proofs.patches.parts_stand.Given as goal

abbrev pub invariant-loop-part : goal.invariant-loop-part
invariant-loop-part l = record {
  front : EachPart (PartStands (site_layout l.site) (core_of l.tables) l.held l.failed l.patched) (drop l.part-index l.patched)
      → EachPart (PartStands (site_layout l.site) (core_of l.tables) l.held l.failed l.patched) l.patched;
  back : EachPart (PartStands (site_layout l.site) (core_of l.tables) l.held l.failed l.patched) l.patched
      → EachPart (PartStands (site_layout l.site) (core_of l.tables) l.held l.failed l.patched) (drop l.part-index l.patched);
}
