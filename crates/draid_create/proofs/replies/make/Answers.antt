use Rattle.std.proofs.Common.{◌∙◌, sym}
use Rattle.draid_pool.specs.Shelves.{on_shelf}
use Rattle.draid_create.proofs.Making.{same_later}
use Rattle.draid_create.proofs.Making.{make_failed, make_opened, make_refused, make_unnamed}
use Rattle.draid_create.proofs.replies.make.Goals as goal

pub returns-in-Err : goal.returns-in-Err
returns-in-Err g c = record {
  makes = make_refused g.H.R.Rack g.H.A.Area c.args.spec c.args.props (on_shelf g.H.Shelf c.args.shelf.now) c.args.pool.now c.in-Err.why (sym c.geometry.ensures.exact ∙ c.in-Err.is) c.requires.closed;
  later = same_later (g.H.Shelf.faults c.args.shelf.now);
}

pub returns-in_default : goal.returns-in_default
returns-in_default g c = record {
  makes = make_unnamed g.H.R.Rack g.H.A.Area c.args.spec c.args.props (on_shelf g.H.Shelf c.args.shelf.now) c.args.pool.now c.in-Ok.layout (sym c.geometry.ensures.exact ∙ c.in-Ok.is) c.requires.closed;
  later = same_later (g.H.Shelf.faults c.args.shelf.now);
}

pub returns-in-Err-create : goal.returns-in-Err-create
returns-in-Err-create g c = record {
  makes = make_failed g.H.R.Rack g.H.A.Area c.args.spec c.args.props (on_shelf g.H.Shelf c.args.shelf.now) c.args.pool.now (on_shelf g.H.Shelf c.create.new.shelf) c.in-Err-create.fault c.in-Err-create.ensures.answer c.in-Err-create.ensures.shelf c.requires.closed;
  later = c.create.ensures.later;
}

pub returns-in-Ok-create : goal.returns-in-Ok-create
returns-in-Ok-create g c = record {
  makes = make_opened g.H.R.Rack g.H.A.Area c.args.spec c.args.props (on_shelf g.H.Shelf c.args.shelf.now) c.args.pool.now (on_shelf g.H.Shelf c.create.new.shelf) c.in-Ok-create.open c.in-Ok.layout
      (record { name = c.in-Ok-vdev_name.name; stripes = c.pool_stripes.result }) (sym c.geometry.ensures.exact ∙ c.in-Ok.is) c.in-Ok-vdev_name.ensures c.pool_stripes.ensures c.in-Ok-create.ensures.whole c.in-Ok-create.ensures.answer c.in-Ok-create.ensures.shelf;
  later = c.create.ensures.later;
}
