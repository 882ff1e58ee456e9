use Rattle.std.proofs.Common.{arith}
use Rattle.draid_restore.proofs.Roomy.{columns_pushed}
use Rattle.draid_restore.proofs.rooms.columns_for.Goals as goal

pub loop-column-preserved : goal.loop-column-preserved
loop-column-preserved c =
    let i = c.loop-column.invariant in
    let e = c.push_reserved.ensures in
    record {
      each = columns_pushed c.args.spots.now c.args.bytes c.loop-column.column c.loop-column.listed.items c.push_reserved.new.self.items c.in_ok-buffer.buffer e.items i.each c.in_ok-buffer.ensures;
      room = (let same = e.capacity in let was = i.room in omega (arith, same, was));
    }
