use Rattle.std.proofs.Common.{arith, ◌∙◌, ◌∷◌, [], ap, length, length-append}
use Rattle.draid_clashes.specs.Lanes.{lanes_in}
use Rattle.draid_run.proofs.Lining.{opens_more}
use Rattle.draid_run.proofs.lanes.open_lanes.Goals as goal

pub loop-init : goal.loop-init
loop-init c = record { many = ap (λ xs. length xs) c.in_ok-lanes.ensures.items; are = ap lanes_in c.in_ok-lanes.ensures.items; room = c.in_ok-lanes.ensures.capacity }

pub loop-preserved : goal.loop-preserved
loop-preserved c =
    let before = c.loop.invariant.many in
    let longer = length-append c.loop.lanes.items (c.new.result ∷ []) in
    let now = ap (λ xs. length xs) c.push_reserved.ensures.items in
    let room = c.loop.invariant.room in
    let same = c.push_reserved.ensures.capacity in
    record {
      many = omega (arith, before, longer, now);
      are = ap lanes_in c.push_reserved.ensures.items ∙ opens_more c.loop.lanes.items c.new.result c.loop.counter c.new.ensures.items c.loop.invariant.are;
      room = omega (arith, room, same);
    }
