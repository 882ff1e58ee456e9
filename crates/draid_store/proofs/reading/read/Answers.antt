use Rattle.std.proofs.Common.{refl}
use Rattle.draid_pool.specs.Whole.{IsWhole}
use Rattle.draid_pool.specs.declared.pool.Pool.{Pool}
use Rattle.draid_pool.proofs.OwnedKnows.{knows_all, whole_by}
use Rattle.draid_pool.proofs.OwnedStands.{carries_out, whole_left}
use Rattle.draid_pool.proofs.Wholes.{whole_geometry}
use Rattle.draid_store.specs.Answers.{ReadDoes}
use Rattle.draid_store.proofs.ReadSteps.{read_stays}
use Rattle.draid_store.proofs.reading.read.Goals as goal

pub read_object-requires : goal.read_object-requires
read_object-requires g c = record {
  fits = tt;
  own = refl;
  geometry = c.requires.whole.layout.geometry_is;
  layout = λ m shard at. whole_geometry g.R.Rack g.A.Area c.args.pool.now m shard c.requires.whole at;
  whole = whole_by g.R.Rack g.A.Area c.args.pool.now c.requires.whole;
}

pub returns : goal.returns
returns g c =
    let old = c.args.pool.now in
    let new : Pool g.row.R.Denot g.row.A.Denot = record old { metaslabs = c.read_object.new.metaslabs } in
    let e = c.read_object.ensures in
    let whole : IsWhole g.R.Rack g.A.Area new = whole_left g.R.Rack g.A.Area old new c.requires.whole refl refl e.stay e.whole c.requires.whole.point in
    record {
      whole = whole;
      same = λ o. refl;
      read = e.read;
      step = λ x is.
          carries_out g.R.Rack g.A.Area old new x is refl refl whole _ _ _ (ReadDoes x c.args.object c.read_object.result) (read_stays x c.args.object c.read_object.result) (e.step x is.stands.geometry (knows_all g.R.Rack g.A.Area old x is));
    }
