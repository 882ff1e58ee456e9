use Rattle.std.proofs.Common.{◌≡◌, ap, arith, length, subst}
use Rattle.draid_slots.specs.Table.{arms_of}
use Rattle.draid_disks.specs.Checks.{LeastUpto}
use Rattle.draid_disks.proofs.Going.{each_there}
use Rattle.draid_disks.proofs.checks.least_over.Goals as goal

pub least_with-least-requires-clause-there : goal.least_with-least-requires-clause-there
least_with-least-requires-clause-there g c =
    let count : length c.arms.result.now ≡ length (arms_of c.args.slots.now c.args.at.slot) = ap length c.arms.ensures.arms in
    let test = c.loop-other-test.true in
    let end = c.loop-other.auto.other-end in
    each_there c.args.slots.now c.args.shards.now c.args.at c.loop-other.other c.requires.slot c.requires.alike (omega (arith, count, test, end))

pub loop-other-preserved : goal.loop-other-preserved
loop-other-preserved g c = c.least_with-least.ensures c.loop-other.invariant

pub returns : goal.returns
returns g c =
    let count : length c.arms.result.now ≡ length (arms_of c.args.slots.now c.args.at.slot) = ap length c.arms.ensures.arms in
    let test = c.loop-other-test.false in
    let end = c.loop-other.auto.other-end in
    let all : c.loop-other.other ≡ length (arms_of c.args.slots.now c.args.at.slot) = omega (arith, count, test, end) in
    subst (λ n. LeastUpto c.args.shards.now c.args.at n c.loop-other.least) all c.loop-other.invariant
