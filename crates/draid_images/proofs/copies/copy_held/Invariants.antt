use Rattle.draid_world.specs.World.{held_in}
use Rattle.draid_images.proofs.Copied.{IsCopied}
use Rattle.draid_images.proofs.copies.copy_held.Given as goal

abbrev pub invariant-loop-key : goal.invariant-loop-key
invariant-loop-key l = IsCopied l.copying l.table.entries l.key-iterator (held_in l.copy.entries)
