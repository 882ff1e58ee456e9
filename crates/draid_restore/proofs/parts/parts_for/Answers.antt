use Rattle.std.proofs.Common.{◌∷◌, [], ap, arith, length}
use Rattle.std.proofs.lemmas.List.{length-append}
use Rattle.draid_restore.proofs.Roomy.{rooms_pushed}
use Rattle.draid_restore.proofs.parts.parts_for.Goals as goal

pub loop-arm-preserved : goal.loop-arm-preserved
loop-arm-preserved c =
    let i = c.loop-arm.invariant in
    let e = c.in_ok-push.ensures in
    record {
      many = (let all = ap length e.items in let more = length-append c.loop-arm.parts.items (c.in_ok-part.part ∷ []) in let was = i.many in omega (arith, all, more, was));
      rooms = rooms_pushed c.args.rows c.loop-arm.parts.items c.push.new.self.items c.in_ok-part.part e.items i.rooms c.in_ok-part.ensures;
    }
