use Rattle.std.proofs.Common.{◌∷◌, [], Some, arith, ap, length}
use Rattle.std.proofs.lemmas.List.{length-append}
use Rattle.draid_blocks.proofs.Taking.{whole_pushed}
use Rattle.draid_blocks.proofs.fetching.room_for.Goals as goal

pub loop-column-preserved : goal.loop-column-preserved
loop-column-preserved c =
    let i = c.loop-column.invariant in
    let e = c.push_reserved.ensures in
    let v = c.in_ok-vec.field-0 in
    record {
      count = omega (arith, ap length e.items, length-append c.loop-column.columns.items (Some v ∷ []), i.count);
      whole = whole_pushed c.push_reserved.new.self.items c.loop-column.columns.items v c.args.bytes e.items i.whole (omega (arith, c.in_ok-vec.ensures.len, v.ok.0));
      room = omega (arith, e.capacity, i.room);
    }
