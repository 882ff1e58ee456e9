use Rattle.draid_scrubs.specs.Healing.{is_dubious}
use Rattle.draid_world.specs.World.{core_of}
use Rattle.draid_world.proofs.Picks.{ArePicked}
use Rattle.draid_scrubs.proofs.healing.doubted.Given as goal

abbrev pub invariant-loop-segment : goal.invariant-loop-segment
invariant-loop-segment l = ArePicked (is_dubious (core_of l.tables) l.birth l.patched) l.all l.segment-index l.out.items
