use Rattle.std.proofs.Common.{◌+◌, arith, refl}
use Rattle.draid_uber.specs.Slots.{group_of}
use Rattle.draid_uber.specs.Uber.{kept_of}
use Rattle.draid_pool.proofs.GroupClosed.{closes_each, none_beyond}
use Rattle.draid_pool.proofs.GroupDone.{with_both}
use Rattle.draid_pool.proofs.Keeping.{all_arms_by, all_asked_by, passes_by, racks_by}
use Rattle.draid_pool.proofs.SyncDone.{sync_all, sync_waits}
use Rattle.draid_pool.proofs.Wholes.{few_geometry, same_pointers}
use Rattle.draid_pool.proofs.pool.Pool.sync.Goals as goal

pub sync_groups-requires : goal.sync_groups-requires
sync_groups-requires g c =
    let pool = c.args.self.now in
    let w = c.requires.whole in
    record {
      fits = tt;
      some = (let some = w.layout.geometry_is.props.some_metaslabs in omega (arith, some));
      few = few_geometry g.R.Rack g.A.Area pool w;
      own = refl;
      valid = w.uber;
      ready = closes_each g.R.Rack g.A.Area pool (group_of (kept_of pool.uber) + 1) w refl;
      beyond = none_beyond g.R.Rack g.A.Area pool w;
    }

pub unreachable-requires : goal.unreachable-requires
unreachable-requires g c = sync_waits g.R.Rack g.A.Area c.args.self.now c.requires.whole c.sync_groups.new.metaslabs c.sync_groups.new.uber c.in-None.ensures.syncs

pub returns : goal.returns
returns g c =
    let old = c.args.self.now in
    let new = with_both g.R.Rack g.A.Area old c.sync_groups.new.metaslabs c.sync_groups.new.uber in
    let z = sync_all g.R.Rack g.A.Area old c.requires.whole c.in-Some.result c.sync_groups.new.metaslabs c.sync_groups.new.uber c.in-Some.ensures.syncs in
    record {
      whole = z.whole;
      same = same_pointers old new refl;
      later = z.later;
      passes = passes_by g.R.Rack.faults old new z.stays;
      racks = racks_by g.R.Rack.faults old new z.stays;
      arms = all_arms_by g.R.Rack.faults old new z.stays;
      asked = all_asked_by g.R.Rack.faults old new z.stays;
      versions = z.versions;
      rises = z.rises;
      names = z.names;
      idle = z.idle;
      cause = z.cause;
      carries = z.carries;
    }
