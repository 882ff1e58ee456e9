use Rattle.std.proofs.Common.{arith}
use Rattle.draid_ranges.proofs.Rooms.{room_from, room_more}
use Rattle.draid_ranges.proofs.Within.{end_below, no_run}
use Rattle.draid_ranges.proofs.room.lowest_room.Goals as goal

pub end-requires : goal.end-requires
end-requires c = let h = end_below c.args.runs.now c.loop-run.run-index 0 281474976710657 no_run c.requires.apart c.loop-run-test.true in omega arith

pub returns-then-saturating_sub-len-clause-lowest : goal.returns-then-saturating_sub-len-clause-lowest
returns-then-saturating_sub-len-clause-lowest c = λ q room.
    let h = room_from c.args.runs.now c.loop-run.run-index c.args.len c.args.from c.args.to q no_run c.requires.apart c.loop-run-test.true c.requires.some (c.loop-run.invariant q) room in
    omega arith

pub loop-run-preserved : goal.loop-run-preserved
loop-run-preserved c = λ q room.
    room_more c.args.runs.now c.loop-run.run-index c.args.len c.args.from c.args.to q no_run c.requires.apart c.loop-run-test.true c.requires.some (c.loop-run.invariant q) (omega arith) room
