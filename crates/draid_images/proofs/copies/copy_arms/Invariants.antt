use Rattle.draid_world.specs.World.{arm_in}
use Rattle.draid_images.proofs.Copied.{AreCopied}
use Rattle.draid_images.proofs.copies.copy_arms.Given as goal

abbrev pub invariant-loop-name : goal.invariant-loop-name
invariant-loop-name l = AreCopied l.copying l.table.entries l.name-iterator (arm_in l.copy.entries)
