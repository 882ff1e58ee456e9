use Rattle.std.proofs.Common.{nat_lt}
use Rattle.draid_ranges.specs.Numbers.{has}
use Rattle.draid_ranges.proofs.Within.{no_run}
use Rattle.draid_metaslab.proofs.Untaken.{untaken_more}
use Rattle.draid_metaslab.proofs.space.untaken.Goals as goal

pub loop-run-preserved : goal.loop-run-preserved
loop-run-preserved c = λ x.
    untaken_more c.args.taken.now c.loop-run.run-index x no_run (nat_lt x c.args.total) (has c.loop-run.set x) (has c.remove.new.self x) c.loop-run-test.true
    ((c.requires.taken c.loop-run.run-index no_run c.loop-run-test.true).some) (c.in_ok-remove.ensures.ok x) (c.loop-run.invariant x)
