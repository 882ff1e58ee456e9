use Rattle.std.proofs.Common.{◌≡◌}
use Rattle.draid_blocks.specs.Tickets.{Carries}
use Rattle.draid_shard.specs.Fits.{Valid}
use Rattle.draid_shard.specs.States.{part_of}
use Rattle.draid_tests_shard.proofs.shard.put_all.Given as goal

abbrev pub invariant-loop-column : goal.invariant-loop-column
invariant-loop-column g l = record {
  valid : Valid g.R.Rack l.shard;
  part : part_of l.shard ≡ part_of l.initial.shard;
  carries : Carries l.shard l.ticket l.block;
  next : l.ticket.next ≡ l._column;
}
