use Rattle.std.proofs.Common.{arith, ◌∙◌, refl}
use Rattle.draid_columns.proofs.Written.{rows_kept}
use Rattle.draid_shard.specs.Spots.{rows_for}
use Rattle.draid_heal.proofs.Armed.{get_upto}
use Rattle.draid_heal.proofs.Settled.{all_settled, none_settled}
use Rattle.draid_heal.proofs.settle.settle_arms.Goals as goal

pub settle_arm-requires-clause-there : goal.settle_arm-requires-clause-there
settle_arm-requires-clause-there g c k spot at = rows_kept (g.R.Rack.shape c.args.rack.now) (g.R.Rack.shape c.loop-i.rack) (rows_for c.args.extent.count c.args.extent.size spot) c.loop-i.invariant.shape (c.requires.there k spot at)

pub loop-i-init : goal.loop-i-init
loop-i-init g c = record {
  shape = refl;
  settles = none_settled c.args.extent.count c.args.spots.now c.args.patched.now (g.R.Rack.told c.args.rack.now);
  firm = c.requires.firm;
  later = λ who. omega arith;
}

pub loop-i-preserved : goal.loop-i-preserved
loop-i-preserved g c = let was = c.loop-i.invariant in record {
  shape = c.settle_arm.ensures.shape ∙ was.shape;
  settles = c.settle_arm.ensures.settles (g.R.Rack.told c.args.rack.now) was.settles;
  firm = c.settle_arm.ensures.firm;
  later = λ who. let a = was.later who in let b = c.settle_arm.ensures.later who in omega (arith, a, b);
}

pub returns-clause-settles : goal.returns-clause-settles
returns-clause-settles g c = all_settled c.args.extent.count c.args.spots.now c.args.patched.now c.loop-i.i (g.R.Rack.told c.args.rack.now) (g.R.Rack.told c.loop-i.rack)
    (λ k spot at. let less = get_upto c.args.spots.now k spot at in let end = c.loop-i-test.false in omega (arith, less, end)) c.loop-i.invariant.settles
