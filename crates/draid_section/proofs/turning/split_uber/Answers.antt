use Rattle.std.proofs.Common.{◌≡◌, ◌∙◌, arith, ap, length, refl}
use Rattle.draid_section.proofs.LanePasses.{lane_held, lane_other, lane_some, split_all, split_more, split_start}
use Rattle.draid_section.proofs.turning.split_uber.Goals as goal

pub loop-lane-init : goal.loop-lane-init
loop-lane-init g c =
    let is = c.args.passes.ok.0 in
    let none : length c.args.passes.items ≡ 0 = ap (λ ps. length ps) c.requires.none in
    (split_start c.args.turn.now c.args.passes.items c.args.first.now c.requires.none c.requires.first, omega (arith, is, none), refl)

pub split-pass-requires-clause-held : goal.split-pass-requires-clause-held
split-pass-requires-clause-held g c = lane_held c.args.turn.now c.args.count c.loop-lane.lane c.from-number.result c.loop-lane.passes.items c.loop-lane.first c.loop-lane.invariant.0 c.requires.few c.loop-lane-test.true c.from-number.ensures

pub split-pass-requires-clause-other : goal.split-pass-requires-clause-other
split-pass-requires-clause-other g c = lane_other c.args.turn.now c.args.count c.loop-lane.lane c.from-number.result c.loop-lane.passes.items c.loop-lane.first c.loop-lane.invariant.0 c.requires.few c.loop-lane-test.true c.from-number.ensures

pub split-pass-requires-clause-some : goal.split-pass-requires-clause-some
split-pass-requires-clause-some g c = lane_some c.args.turn.now c.args.count c.loop-lane.lane c.from-number.result c.loop-lane.passes.items c.loop-lane.first c.loop-lane.invariant.0 c.requires.few c.loop-lane-test.true c.from-number.ensures

pub loop-lane-preserved : goal.loop-lane-preserved
loop-lane-preserved g c =
    let e = c.split-pass.ensures in
    let pushed = c.push_reserved.ensures in
    let len = pushed.len in
    let was = c.loop-lane.invariant.1 in (
      split_more c.args.turn.now c.args.count c.loop-lane.lane c.from-number.result c.loop-lane.passes.items c.loop-lane.first c.loop-lane.invariant.0 c.requires.few c.loop-lane-test.true c.from-number.ensures c.push_reserved.new.self.items c.split-pass.new.pass c.split-pass.result e.same e.left e.new pushed.items,
      omega (arith, len, was),
      pushed.capacity ∙ c.loop-lane.invariant.2,
    )

pub returns : goal.returns
returns g c =
    let over = c.loop-lane-test.false in
    let end = c.loop-lane.auto.lane-end in
    split_all c.args.turn.now c.args.count c.loop-lane.lane c.loop-lane.passes.items c.loop-lane.first c.loop-lane.invariant.0 (omega (arith, over, end))
