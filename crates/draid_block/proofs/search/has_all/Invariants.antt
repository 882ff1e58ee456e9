use Rattle.std.proofs.Common.{◌≡◌, drop}
use Rattle.draid_block.specs.Order.{covers}
use Rattle.draid_block.proofs.search.has_all.Given as goal

abbrev pub invariant-loop-i : goal.invariant-loop-i
invariant-loop-i l = covers l.absent l.set ≡ covers (drop l.i-index l.absent) l.set
