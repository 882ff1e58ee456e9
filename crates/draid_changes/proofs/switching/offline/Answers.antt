use Rattle.std.proofs.Common.{◌+◌, true, arith, refl}
use Rattle.draid_uber.specs.Slots.{group_of}
use Rattle.draid_uber.specs.Uber.{kept_of}
use Rattle.draid_pool.proofs.GroupClosed.{closes_each, none_beyond}
use Rattle.draid_pool.proofs.GroupDone.{with_both}
use Rattle.draid_pool.proofs.Wholes.{few_geometry, same_pointers}
use Rattle.draid_changes.proofs.OwnedSwitch.{switch_all, switch_waits}
use Rattle.draid_changes.proofs.switching.offline.Goals as goal

pub switch_leaf-requires : goal.switch_leaf-requires
switch_leaf-requires g c =
    let pool = c.args.pool.now in
    let w = c.requires.whole in
    record {
      fits = tt;
      some = (let some = w.layout.geometry_is.props.some_metaslabs in omega (arith, some));
      few = few_geometry g.R.Rack g.A.Area pool w;
      own = refl;
      valid = w.uber;
      ready = closes_each g.R.Rack g.A.Area pool (group_of (kept_of pool.uber) + 1) w refl;
      beyond = none_beyond g.R.Rack g.A.Area pool w;
      alike = λ m n x y at there. (w.alike m n x y at there).arms;
    }

pub unreachable-requires : goal.unreachable-requires
unreachable-requires g c = switch_waits g.R.Rack g.A.Area c.args.pool.now c.requires.whole c.args.leaf true c.switch_leaf.new.metaslabs c.switch_leaf.new.uber c.in-None.ensures.switches

pub returns : goal.returns
returns g c =
    let old = c.args.pool.now in
    let new = with_both g.R.Rack g.A.Area old c.switch_leaf.new.metaslabs c.switch_leaf.new.uber in
    let z = switch_all g.R.Rack g.A.Area old c.requires.whole c.args.leaf true c.in-Some.result c.switch_leaf.new.metaslabs c.switch_leaf.new.uber c.in-Some.ensures.switches in
    record {
      whole = z.whole;
      same = same_pointers old new refl;
      later = z.later;
      cause = z.cause;
      carries = z.carries;
      arms = z.arms_are;
    }
