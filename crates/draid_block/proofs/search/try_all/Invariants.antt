use Rattle.std.proofs.Common.{◌≡◌, ◌+◌, []}
use Rattle.draid_block.specs.Blocks.{cut_of}
use Rattle.draid_block.specs.Order.{covering, sets_below}
use Rattle.draid_block.specs.Search.{NoneOf}
use Rattle.draid_block.proofs.search.try_all.Given as goal

abbrev pub invariant-loop-size : goal.invariant-loop-size
invariant-loop-size l = record {
  none : NoneOf (cut_of l.search.geometry.now) l.search.fetched.now (covering l.search.absent.now (sets_below l.size (l.search.geometry.now.spec.parity + l.search.geometry.now.spec.ndata))) l.attempts 0 l.attempts.tried;
  begun : l.begun.items ≡ [];
}
