use Rattle.std.proofs.Common.{refl}
use Rattle.draid_pool.proofs.GroupClosed.{none_beyond, with_owned}
use Rattle.draid_pool.proofs.GroupDone.{with_both}
use Rattle.draid_pool.proofs.Wholes.{few_geometry, same_pointers}
use Rattle.draid_visits.proofs.OwnedMends.{each_valid, left_begun, low_begun, may_mend, scrub_begun, scrub_done, scrub_refused, scrub_waits}
use Rattle.draid_names.specs.declared.pass_kind.PassKind.TheVariants.{Heal}
use Rattle.draid_visits.proofs.rebuilding.scrub.Goals as goal

pub begin_scrub-requires : goal.begin_scrub-requires
begin_scrub-requires g c =
    let pool = c.args.pool.now in
    let w = c.requires.whole in
    record { fits = tt; few = few_geometry g.R.Rack g.A.Area pool w; passes = refl; valid = each_valid g.R.Rack g.A.Area pool w; beyond = none_beyond g.R.Rack g.A.Area pool w }

pub returns-in-Err : goal.returns-in-Err
returns-in-Err g c =
    let old = c.args.pool.now in
    let b = c.begin_scrub.new.metaslabs in
    let z = scrub_refused g.R.Rack g.A.Area c.args.limit old c.requires.whole c.in-Err.fault b c.in-Err.ensures.begins in
    record { whole = z.whole; same = same_pointers old (with_owned old b) refl; later = z.later; geometry = refl; within = tt; carries = z.carries; passes = z.passes; idle = z.idle }

pub go_on-requires : goal.go_on-requires
go_on-requires g c =
    let old = c.args.pool.now in
    let w = c.requires.whole in
    let b = c.begin_scrub.new.metaslabs in
    let it = c.in-Ok.mending in
    let e = c.in-Ok.ensures in
    let r = scrub_begun g.R.Rack g.A.Area c.args.limit old w it b e.begins in
    record { fits = tt; own = refl; passes = refl; may = may_mend g.R.Rack g.A.Area c.args.limit old w Heal it b r.begun; long = e.long; low = low_begun g.R.Rack g.A.Area c.args.limit old w Heal it b r.begun }

pub unreachable-requires : goal.unreachable-requires
unreachable-requires g c =
    let old = c.args.pool.now in
    let w = c.requires.whole in
    let b = c.begin_scrub.new.metaslabs in
    let it = c.in-Ok.mending in
    let e = c.in-Ok.ensures in
    let r = scrub_begun g.R.Rack g.A.Area c.args.limit old w it b e.begins in
    scrub_waits g.R.Rack g.A.Area c.args.limit old w it b r c.go_on.new.metaslabs c.go_on.new.uber c.go_on.new.mending c.in-None.ensures.mends

pub returns : goal.returns
returns g c =
    let old = c.args.pool.now in
    let w = c.requires.whole in
    let b = c.begin_scrub.new.metaslabs in
    let it = c.in-Ok.mending in
    let e = c.in-Ok.ensures in
    let r = scrub_begun g.R.Rack g.A.Area c.args.limit old w it b e.begins in
    let f = c.in-Some.ensures in
    let new = with_both g.R.Rack g.A.Area old c.go_on.new.metaslabs c.go_on.new.uber in
    let z = scrub_done g.R.Rack g.A.Area c.args.limit old w it b r c.in-Some.answer c.go_on.new.metaslabs c.go_on.new.uber c.go_on.new.mending f.mends in
    record {
      whole = z.whole;
      same = same_pointers old new refl;
      later = z.later;
      geometry = refl;
      within = f.within c.args.limit (left_begun g.R.Rack g.A.Area c.args.limit old w Heal it b r.begun);
      carries = z.carries;
      passes = z.passes;
      idle = z.idle;
    }
