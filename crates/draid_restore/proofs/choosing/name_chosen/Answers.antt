use Rattle.std.proofs.Common.{◌∙◌, ◌∷◌, ◌++◌, [], ap, arith, length}
use Rattle.std.proofs.lemmas.List.{length-append}
use Rattle.draid_restore.proofs.Chosen.{chosen_more}
use Rattle.draid_restore.proofs.choosing.name_chosen.Goals as goal

pub loop-column-preserved : goal.loop-column-preserved
loop-column-preserved c =
    let i = c.loop-column.invariant in
    let e = c.push_reserved.ensures in
    record {
      many = (let all = ap length e.items in let more = length-append c.loop-column.chosen.items (c.chosen_arm.result ∷ []) in let was = i.many in omega (arith, all, more, was));
      each = chosen_more c.args.spots.now c.args.failed.now c.loop-column.column c.loop-column.chosen.items c.push_reserved.new.self.items
          (e.items ∙ ap (λ arm. c.loop-column.chosen.items ++ arm ∷ []) c.chosen_arm.ensures) i.many i.each;
      room = e.capacity ∙ i.room;
    }
