use Rattle.std.proofs.Common.{refl}
use Rattle.draid_pool.proofs.GroupClosed.{none_beyond, with_owned}
use Rattle.draid_pool.proofs.GroupDone.{with_both}
use Rattle.draid_pool.proofs.Wholes.{few_geometry, same_pointers}
use Rattle.draid_visits.proofs.OwnedMends.{each_valid, left_begun, low_begun, may_mend, rebuild_begun, rebuild_done, rebuild_refused, rebuild_waits}
use Rattle.draid_names.specs.declared.pass_kind.PassKind.TheVariants.{Rebuild}
use Rattle.draid_visits.proofs.rebuilding.rebuild.Goals as goal

pub begin_rebuild-requires : goal.begin_rebuild-requires
begin_rebuild-requires g c =
    let pool = c.args.pool.now in
    let w = c.requires.whole in
    record { fits = tt; few = few_geometry g.R.Rack g.A.Area pool w; passes = refl; valid = each_valid g.R.Rack g.A.Area pool w; beyond = none_beyond g.R.Rack g.A.Area pool w }

pub returns-in-Err : goal.returns-in-Err
returns-in-Err g c =
    let old = c.args.pool.now in
    let b = c.begin_rebuild.new.metaslabs in
    let z = rebuild_refused g.R.Rack g.A.Area c.args.limit old c.requires.whole c.in-Err.fault b c.in-Err.ensures.begins in
    record { whole = z.whole; same = same_pointers old (with_owned old b) refl; later = z.later; cause = z.cause; within = tt; carries = z.carries; passes = z.passes }

pub go_on-requires : goal.go_on-requires
go_on-requires g c =
    let old = c.args.pool.now in
    let w = c.requires.whole in
    let b = c.begin_rebuild.new.metaslabs in
    let it = c.in-Ok.mending in
    let e = c.in-Ok.ensures in
    let r = rebuild_begun g.R.Rack g.A.Area c.args.limit old w it b e.begins e.some.0 e.some.1 e.some.2 in
    record { fits = tt; own = refl; passes = refl; may = may_mend g.R.Rack g.A.Area c.args.limit old w Rebuild it b r.begun; long = e.long; low = low_begun g.R.Rack g.A.Area c.args.limit old w Rebuild it b r.begun }

pub unreachable-requires : goal.unreachable-requires
unreachable-requires g c =
    let old = c.args.pool.now in
    let w = c.requires.whole in
    let b = c.begin_rebuild.new.metaslabs in
    let it = c.in-Ok.mending in
    let e = c.in-Ok.ensures in
    let r = rebuild_begun g.R.Rack g.A.Area c.args.limit old w it b e.begins e.some.0 e.some.1 e.some.2 in
    rebuild_waits g.R.Rack g.A.Area c.args.limit old w it b r c.go_on.new.metaslabs c.go_on.new.uber c.go_on.new.mending c.in-None.ensures.mends

pub returns : goal.returns
returns g c =
    let old = c.args.pool.now in
    let w = c.requires.whole in
    let b = c.begin_rebuild.new.metaslabs in
    let it = c.in-Ok.mending in
    let e = c.in-Ok.ensures in
    let r = rebuild_begun g.R.Rack g.A.Area c.args.limit old w it b e.begins e.some.0 e.some.1 e.some.2 in
    let f = c.in-Some.ensures in
    let new = with_both g.R.Rack g.A.Area old c.go_on.new.metaslabs c.go_on.new.uber in
    let z = rebuild_done g.R.Rack g.A.Area c.args.limit old w it b r c.in-Some.answer c.go_on.new.metaslabs c.go_on.new.uber c.go_on.new.mending f.mends in
    record {
      whole = z.whole;
      same = same_pointers old new refl;
      later = z.later;
      cause = z.cause;
      within = f.within c.args.limit (left_begun g.R.Rack g.A.Area c.args.limit old w Rebuild it b r.begun);
      carries = z.carries;
      passes = z.passes;
    }
