use Rattle.std.proofs.Common.{◌+◌, arith, refl}
use Rattle.draid_uber.specs.Slots.{group_of}
use Rattle.draid_uber.specs.Uber.{kept_of}
use Rattle.draid_pool.proofs.GroupClosed.{closes_each, none_beyond}
use Rattle.draid_pool.proofs.GroupDone.{with_both}
use Rattle.draid_pool.proofs.Keeping.{all_arms_by, all_asked_by, passes_by, racks_by}
use Rattle.draid_pool.proofs.SyncDone.{finish_all, finish_waits}
use Rattle.draid_pool.proofs.Wholes.{few_geometry}
use Rattle.draid_pool.proofs.pool.Pool.finish.Goals as goal

pub finish_group-requires : goal.finish_group-requires
finish_group-requires g c =
    let pool = c.args.self.now in
    let w = c.requires.whole in
    record {
      fits = tt;
      some = (let some = w.layout.geometry_is.props.some_metaslabs in omega (arith, some));
      few = few_geometry g.R.Rack g.A.Area pool w;
      own = refl;
      valid = w.uber;
      ready = closes_each g.R.Rack g.A.Area pool (group_of (kept_of pool.uber) + 1) w refl;
      beyond = none_beyond g.R.Rack g.A.Area pool w;
    }

pub unreachable-requires : goal.unreachable-requires
unreachable-requires g c = finish_waits g.R.Rack g.A.Area c.args.self.now c.requires.whole c.finish_group.new.metaslabs c.finish_group.new.uber c.in-None.ensures.finishes

pub returns : goal.returns
returns g c =
    let old = c.args.self.now in
    let new = with_both g.R.Rack g.A.Area old c.finish_group.new.metaslabs c.finish_group.new.uber in
    let z = finish_all g.R.Rack g.A.Area old c.requires.whole c.in-Some.result c.finish_group.new.metaslabs c.finish_group.new.uber c.in-Some.ensures.finishes in
    record {
      whole = z.whole;
      objects = refl;
      later = z.later;
      passes = passes_by g.R.Rack.faults old new z.stays;
      racks = racks_by g.R.Rack.faults old new z.stays;
      arms = all_arms_by g.R.Rack.faults old new z.stays;
      asked = all_asked_by g.R.Rack.faults old new z.stays;
      grows = z.grows;
      cause = z.cause;
      not_last = z.not_last;
      idle = z.idle;
      carries = z.carries;
    }
