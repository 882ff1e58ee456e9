use Rattle.std.proofs.Common.{take}
use Rattle.draid_passes.specs.Blocks.{Adds, OnNames}
use Rattle.draid_world.specs.World.{core_of, site_layout}
use Rattle.draid_passes.proofs.blocks.add_names.Given as goal

abbrev pub invariant-loop-name : goal.invariant-loop-name
invariant-loop-name l =
    Adds (OnNames (site_layout l.site) (core_of l.tables).order l.part.key l.part.held l.part.column (take l.name-index l.names)) l.fn.out.items l.out.items
