use Rattle.std.proofs.Common.{take}
use Rattle.draid_pool.specs.Committing.{DropsListed}
use Rattle.draid_pool.proofs.committing.drop_detached.Given as goal

abbrev pub invariant-loop-gone : goal.invariant-loop-gone
invariant-loop-gone g l = record {
  drops : DropsListed g.R.Rack l.slots l.group (take l.gone-index l.gone-items) l.initial.rack l.rack;
}
