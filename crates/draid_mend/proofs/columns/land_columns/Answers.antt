use Rattle.std.proofs.Common.{◌≡◌, ◌+◌, ◌<◌, ◌≤◌, ◌∙◌, arith, length, refl, sym, subst}
use Rattle.std.specs.Prelude.{vec_capacity}
use Rattle.draid_rack.specs.Rack.{OnBothTold}
use Rattle.draid_machine.proofs.Small.{absurd_test}
use Rattle.draid_spec.specs.declared.layout.Geometry.{Geometry}
use Rattle.draid_shard.specs.Part.{IsRun}
use Rattle.draid_shard.specs.States.{part_of}
use Rattle.draid_shard.proofs.WithRack.{geometry_in, rack_twice}
use Rattle.draid_mend.specs.Aiming.{AreAimed}
use Rattle.draid_mend.specs.Solving.{IsOneSector}
use Rattle.draid_mend.specs.Stripes.{AnswerBelow, FailsColumns, LandsBelow}
use Rattle.draid_mend.proofs.Aimed.{few_columns}
use Rattle.draid_mend.proofs.Columned.{answer_back, fails_back, few_next, lands_back, lands_none, no_fail, room_next, there_in}
use Rattle.draid_mend.proofs.Laid.{laid_rack}
use Rattle.draid_mend.proofs.columns.land_columns.Goals.{then-land_next, else-land_next}
use Rattle.draid_mend.proofs.columns.land_columns.Goals as goal

pub loop-column-init : goal.loop-column-init
loop-column-init g c = record {
  whole = refl;
  shape = refl;
  lands = lands_none (part_of c.args.shard.now) c.args.shard.now.slots c.args.pointer.now c.args.targets.now c.args.columns.now.columns c.args.chosen.now c.args.failed.now.items (g.R.Rack.told c.args.shard.now.rack);
  fails = no_fail (part_of c.args.shard.now) c.args.shard.now.slots c.args.pointer.now c.args.targets.now c.args.failed.now.items;
  counts = λ first was. was;
  room = refl;
  answered = λ is k less. absurd (omega (arith, less));
  few = omega arith;
}

pub land_next-requires : goal.land_next-requires
land_next-requires g c =
    let i = c.loop-column.invariant in
    let same = geometry_in c.args.shard.now c.loop-column.shard i.whole in
    let most = few_columns (part_of c.args.shard.now) c.requires.laid.part in
    record {
      laid = laid_rack g.R.Rack c.args.shard.now c.loop-column.shard i.whole i.shape c.requires.laid;
      run = subst (λ (geometry : Geometry). IsRun geometry c.args.pointer.now.first c.args.pointer.now.stripes) (sym same) c.requires.run;
      aimed = subst (λ s. AreAimed (part_of s) c.args.pointer.now.first c.args.targets.now (length c.args.targets.now) c.aimed_columns-aimed.result) (sym i.whole) c.aimed_columns-aimed.ensures.aimed;
      marks = (let long = c.aimed_columns-aimed.ensures.long in subst (λ (geometry : Geometry). geometry.g ≤ length c.aimed_columns-aimed.result) (sym same) (omega (arith, long, most)));
      one = c.requires.one;
      there = there_in c.args.shard.now c.loop-column.shard c.args.targets.now i.whole c.requires.there;
      shape = subst (λ (geometry : Geometry). IsOneSector geometry c.args.columns.now) (sym same) c.requires.shape;
      chosen = subst (λ (geometry : Geometry). length c.args.chosen.now ≡ geometry.g) (sym same) c.requires.chosen;
      less = subst (λ (geometry : Geometry). c.loop-column.column < geometry.g) (sym same) c.loop-column-test.true;
      room = (let room = i.room in let had = c.requires.room in let few = i.few in let ok = c.loop-column.failed.ok.0 in let first = c.args.failed.now.ok.0 in
          let need : length c.loop-column.failed.items + length c.args.targets.now ≤ vec_capacity c.args.failed.now
          = room_next (length c.args.failed.now.items) (vec_capacity c.args.failed.now) (length c.loop-column.failed.items) (length c.args.targets.now) c.loop-column.column c.args.shard.now.geometry.g (omega (arith, had, first)) few
          c.loop-column-test.true in
          omega (arith, need, room, ok));
    }

pub loop-column-preserved : goal.loop-column-preserved
loop-column-preserved g c =
    let i = c.loop-column.invariant in
    let e = c.land_next.ensures in
    record {
      whole = rack_twice c.args.shard.now c.loop-column.shard c.land_next.new.shard i.whole e.rack;
      shape = e.shape ∙ i.shape;
      lands = lands_back c.args.shard.now c.loop-column.shard c.args.pointer.now c.args.targets.now c.args.columns.now.columns c.args.chosen.now c.loop-column.column (c.loop-column.column + 1) c.loop-column.failed.items
          c.land_next.new.failed.items (g.R.Rack.told c.loop-column.shard.rack) (g.R.Rack.told c.land_next.new.shard.rack) i.whole e.lands (g.R.Rack.told c.args.shard.now.rack) i.lands;
      fails = fails_back c.args.shard.now c.loop-column.shard c.args.pointer.now c.args.targets.now c.loop-column.column (c.loop-column.column + 1) c.loop-column.failed.items c.land_next.new.failed.items i.whole e.fails
          c.args.failed.now.items i.fails;
      counts = λ first was. e.counts first (i.counts first was);
      room = e.room ∙ i.room;
      answered = elim c.if-land_next.branch [
        | then-land_next w ↦ λ is. answer_back c.args.shard.now c.loop-column.shard c.args.pointer.now c.args.targets.now c.loop-column.column (c.loop-column.column + 1) i.whole (e.answered w.if-land_next.true) (i.answered (sym w.answered-is ∙ is))
        | else-land_next w ↦ λ is. absurd_test c.if-land_next.answered is (w.answered-is ∙ w.if-land_next.false)
      ];
      few = few_next (length c.args.failed.now.items) (length c.loop-column.failed.items) (length c.land_next.new.failed.items) (length c.args.targets.now) c.loop-column.column i.few e.few;
    }

pub returns : goal.returns
returns g c =
    let i = c.loop-column.invariant in
    let past = c.loop-column-test.false in
    let upto = c.loop-column.auto.column-end in
    let all : c.loop-column.column ≡ c.args.shard.now.geometry.g = omega (arith, past, upto) in
    record {
      rack = i.whole;
      shape = i.shape;
      lands = subst (λ n. OnBothTold (g.R.Rack.told c.args.shard.now.rack) (g.R.Rack.told c.loop-column.shard.rack)
          (LandsBelow (part_of c.args.shard.now) c.args.shard.now.slots c.args.pointer.now c.args.targets.now n c.args.columns.now.columns c.args.chosen.now c.loop-column.failed.items)) all i.lands;
      fails = subst (λ n. FailsColumns (part_of c.args.shard.now) c.args.shard.now.slots c.args.pointer.now c.args.targets.now n c.args.failed.now.items c.loop-column.failed.items) all i.fails;
      counts = i.counts;
      answered = λ is. subst (AnswerBelow (part_of c.args.shard.now) c.args.shard.now.slots c.args.pointer.now c.args.targets.now) all (i.answered is);
    }
