use Rattle.std.proofs.Common.{false}
use Rattle.draid_spacemap.specs.declared.map.Record.{Record}
use Rattle.draid_ranges.specs.Numbers.{has}
use Rattle.draid_spacemap.proofs.Applied.{applied_more}
use Rattle.draid_spacemap.proofs.map.replayed.Goals as goal

pub loop-entry-preserved : goal.loop-entry-preserved
loop-entry-preserved c = λ x.
    let d : Record = record { run = record { first = 0; len = 0 }; allocates = false } in
    applied_more c.args.records.now c.loop-entry.entry-index d x (has c.apply.new.set x) (has c.loop-entry.set x) c.loop-entry-test.true (c.in_ok-apply.ensures x) (c.loop-entry.invariant x)
