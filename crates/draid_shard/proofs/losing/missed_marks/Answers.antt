use Rattle.std.proofs.Common.{◌≡◌, ◌<◌, ◌∙◌, arith, length, rules, subst}
use Rattle.std.proofs.lemmas.List.{length-set}
use Rattle.draid_spec.specs.declared.layout.Geometry.{Geometry}
use Rattle.draid_shard.specs.States.{part_of}
use Rattle.draid_shard.proofs.Fitted.{fits_rows}
use Rattle.draid_shard.specs.Losing.{AreMissed}
use Rattle.draid_shard.proofs.Missing.{missed_next, missed_none, row_in, unmarked}
use Rattle.draid_shard.proofs.losing.missed_marks.Goals as goal

pub loop-column-init : goal.loop-column-init
loop-column-init g c = record {
  count = search rules;
  each = λ slot arm there. missed_none (part_of c.args.shard.now) c.args.shard.now.slots c.args.pointer.now c.args.failed.now slot arm _ (unmarked 64 slot arm);
}

pub missed_arms-requires : goal.missed_arms-requires
missed_arms-requires g c =
    let v = c.requires.laid in
    record {
      row = row_in (g.R.Rack.shape c.args.shard.now.rack) c.args.shard.now.slots c.rows_of-rows.result
          (fits_rows (part_of c.args.shard.now) v.part c.args.shard.now.slots v.slots (g.R.Rack.shape c.args.shard.now.rack) c.args.pointer.now c.requires.run c.loop-column.column c.loop-column-test.true c.rows_of-rows.result
          c.rows_of-rows.ensures v.leaves);
    }

pub loop-column-preserved : goal.loop-column-preserved
loop-column-preserved g c =
    let i = c.loop-column.invariant in
    let v = c.requires.laid in
    let count = i.count in
    let fits = fits_rows (part_of c.args.shard.now) v.part c.args.shard.now.slots v.slots (g.R.Rack.shape c.args.shard.now.rack) c.args.pointer.now c.requires.run c.loop-column.column c.loop-column-test.true c.rows_of-rows.result
    c.rows_of-rows.ensures v.leaves in
    let below = subst (λ (geometry : Geometry). c.rows_of-rows.result.slot < geometry.spec.children) v.slots.geometry_is fits.slot_below in
    let most = v.part.layout.geometry_is.spec.most_children in
    let inside : c.rows_of-rows.result.slot < length c.loop-column.marks = omega (arith, count, below, most) in
    record {
      count = length-set c.loop-column.marks c.rows_of-rows.result.slot c.missed_arms.result ∙ count;
      each = missed_next (part_of c.args.shard.now) c.args.shard.now.slots c.args.pointer.now c.args.failed.now c.loop-column.column c.rows_of-rows.result c.rows_of-rows.ensures c.loop-column.marks c.missed_arms.result inside
          c.missed_arms.ensures i.each;
    }

pub returns : goal.returns
returns g c =
    let past = c.loop-column-test.false in
    let upto = c.loop-column.auto.column-end in
    let all : c.loop-column.column ≡ c.args.shard.now.geometry.g = omega (arith, past, upto) in
    subst (λ n. AreMissed (part_of c.args.shard.now) c.args.shard.now.slots c.args.pointer.now c.args.failed.now n c.loop-column.marks) all c.loop-column.invariant.each
