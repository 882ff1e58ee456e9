use Rattle.std.proofs.Common.{refl}
use Rattle.draid_pool.specs.Whole.{IsWhole}
use Rattle.draid_pool.specs.declared.pool.Pool.{Pool}
use Rattle.draid_pool.proofs.OwnedKnows.{knows_all, whole_by}
use Rattle.draid_pool.proofs.OwnedStands.{whole_left}
use Rattle.draid_pool.proofs.Wholes.{whole_geometry}
use Rattle.draid_pool.specs.Threads.{Knows}
use Rattle.draid_pool.proofs.OwnedKnows.{all, left_in, table_in}
use Rattle.draid_store.specs.Answers.{SumDoes}
use Rattle.draid_store.specs.Batches.{SumTries}
use Rattle.draid_store.specs.Fetching.{ButLooks}
use Rattle.draid_pool.proofs.Joining.{leads_as}
use Rattle.draid_store.proofs.ReadSteps.{sum_stays, tries_but}
use Rattle.draid_store.proofs.Unlooked.{carries_but}
use Rattle.draid_store.proofs.summing.sum.Goals as goal

pub sum_objects-requires-clause-geometry : goal.sum_objects-requires-clause-geometry
sum_objects-requires-clause-geometry g c κs within = c.requires.whole.layout.geometry_is

pub sum_objects-requires-clause-layout : goal.sum_objects-requires-clause-layout
sum_objects-requires-clause-layout g c κs within m shard at = whole_geometry g.R.Rack g.A.Area c.args.pool.now m shard c.requires.whole at

pub sum_objects-requires-clause-whole : goal.sum_objects-requires-clause-whole
sum_objects-requires-clause-whole g c κs within = whole_by g.R.Rack g.A.Area c.args.pool.now c.requires.whole

pub returns : goal.returns
returns g c =
    let old = c.args.pool.now in
    let new : Pool g.row.R.Denot g.row.A.Denot = record old { metaslabs = c.sum_objects.new.metaslabs } in
    let e = c.sum_objects.ensures in
    let whole : IsWhole g.R.Rack g.A.Area new = whole_left g.R.Rack g.A.Area old new c.requires.whole refl refl e.stay e.whole c.requires.whole.point in
    record {
      whole = whole;
      same = λ o. refl;
      sums = e.sums;
      step = λ x is.
          carries_but g.R.Rack g.A.Area old new x is refl refl whole _ _ _ (SumDoes x c.args.first c.args.count c.sum_objects.result) (sum_stays x c.args.first c.args.count c.sum_objects.result)
          (leads_as _ _ _ _ _ _ x (SumTries x c.args.first c.args.count c.sum_objects.result) (ButLooks (SumDoes x c.args.first c.args.count c.sum_objects.result)) (λ y. Knows g.R.Rack g.A.Area all (left_in new) (table_in new) new.own.seq new.own.floor y)
          (tries_but x c.args.first c.args.count c.sum_objects.result) (e.step x is.stands.geometry (knows_all g.R.Rack g.A.Area old x is)));
    }
