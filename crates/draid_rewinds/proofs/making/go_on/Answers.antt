use Rattle.std.proofs.Common.{arith, refl}
use Rattle.draid_pool.proofs.GroupClosed.{none_beyond}
use Rattle.draid_pool.proofs.Wholes.{few_geometry}
use Rattle.draid_rewinds.proofs.Going.{going, going_waits, may_go}
use Rattle.draid_rewinds.proofs.making.go_on.Goals as goal

pub go_on_sync-requires : goal.go_on_sync-requires
go_on_sync-requires g c =
    let pool = c.args.pool.now in
    let w = c.requires.whole in
    record {
      fits = tt;
      some = (let some = w.layout.geometry_is.props.some_metaslabs in omega (arith, some));
      few = few_geometry g.R.Rack g.A.Area pool w;
      own = refl;
      valid = w.uber;
      may = may_go g.R.Rack g.A.Area pool c.args.group w c.requires.next c.requires.closing;
      beyond = none_beyond g.R.Rack g.A.Area pool w;
    }

pub unreachable-requires : goal.unreachable-requires
unreachable-requires g c = going_waits g.R.Rack g.A.Area c.args.pool.now c.args.group c.requires.whole c.requires.next c.go_on_sync.new.metaslabs c.go_on_sync.new.syncing c.go_on_sync.new.uber c.in-None.ensures.goes

pub returns : goal.returns
returns g c =
    let z = going g.R.Rack g.A.Area c.args.pool.now c.args.group c.requires.whole c.requires.next c.in-Some.result c.go_on_sync.new.metaslabs c.go_on_sync.new.syncing c.go_on_sync.new.uber c.in-Some.ensures.goes in
    record { whole = z.whole; own = refl; later = z.later; cause = z.cause; carries = z.carries }
