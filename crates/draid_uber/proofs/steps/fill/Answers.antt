use Rattle.std.proofs.Common.{rules, ◌≡◌, length}
use borrow.Rule.Slice.PartMut.{mid_of}
use Rattle.draid_uber.proofs.Ends.{behind_at, behind_few, fill_done, fill_refused}
use Rattle.draid_uber.proofs.steps.fill.Goals as goal

pub returns-clause-refused : goal.returns-clause-refused
returns-clause-refused g c = λ kept e shut.
    let long : length c.args.bytes.now ≡ 51 = search rules in
    fill_refused kept c.args.slot c.base.result e c.base.ensures (mid_of 1 50 c.args.bytes.now) c.put.result _ _ (behind_few c.args.bytes.now long) shut c.put.ensures.puts

pub returns-clause-filled : goal.returns-clause-filled
returns-clause-filled g c = λ kept e shut.
    let long : length c.args.bytes.now ≡ 51 = search rules in
    fill_done kept c.args.slot c.base.result e c.base.ensures (mid_of 1 50 c.args.bytes.now) c.args.bytes.now c.put.result _ _ (behind_few c.args.bytes.now long)
    (λ i some less. behind_at c.args.bytes.now i long some) shut c.put.ensures.puts
