use Rattle.std.proofs.Common.{◌∙◌, Ok, Err, arith, refl, ap, subst}
use Rattle.draid_shard.specs.Fits.{Valid}
use Rattle.draid_pool.specs.Drifts.{groups_number}
use Rattle.draid_pool.proofs.RoundSteps.{concerns_own, did_not, did_some, each_all, each_more, each_stays, held_by, round_all, round_more}
use Rattle.draid_changes.specs.Switching.{HasReserved, ReservesOne}
use Rattle.draid_changes.proofs.LeafHolds.{reserve_keeps, reserved_next}
use Rattle.draid_changes.proofs.rounds.reserve_each.Goals as goal

pub loop-metaslab-init : goal.loop-metaslab-init
loop-metaslab-init g c = record { fits = c.requires.fits; locks = refl; owns = refl; valid = c.requires.valid; done = λ m less. absurd (omega (arith, less)); each = (refl, refl) }

pub hold-op-requires-clause-may : goal.hold-op-requires-clause-may
hold-op-requires-clause-may g c =
    let i = c.loop-metaslab.invariant in
    let z = i.valid c.loop-metaslab.metaslab c.loop-metaslab-test.true in
    let own = ap (λ owns. owns groups_number) i.owns ∙ c.requires.own in
    record {
      shard = z.0;
      there = z.1;
      valid = z.2;
      ready = λ x d. d.valid;
      keeps = λ x y after next did. reserve_keeps g.R.Rack g.A.Area x y after.out did;
      own = λ n is. concerns_own (g.M.Metaslabs.owns c.loop-metaslab.metaslabs) groups_number n own is;
    }

pub unreachable-requires : goal.unreachable-requires
unreachable-requires g c = (let h = c.hold-op.ensures.held in did_not (λ result. ReservesOne g.R.Rack h.before result h.after) c.hold-op.result.out h.related c.in_default.is)

pub loop-metaslab-preserved : goal.loop-metaslab-preserved
loop-metaslab-preserved g c =
    let l = c.loop-metaslab in
    let i = l.invariant in
    let h = c.hold-op.ensures.held in
    let came = did_some (λ result. ReservesOne g.R.Rack h.before result h.after) c.hold-op.result.out c.in-Some.reserved h.related c.in-Some.is in
    let did : ReservesOne g.R.Rack h.before (Ok tt) h.after = subst (λ result. ReservesOne g.R.Rack h.before result h.after) c.in-Ok.is came in
    record {
      fits = c.hold-op.ensures.fits;
      locks = c.hold-op.ensures.locks ∙ i.locks;
      owns = c.hold-op.ensures.owns ∙ i.owns;
      valid = each_stays (Valid g.R.Rack) (g.M.Metaslabs.last l.metaslabs) (g.M.Metaslabs.last c.hold-op.new.self) l.metaslab h.after h.is did.valid c.args.count i.valid;
      done = each_more (HasReserved g.R.Rack) (g.M.Metaslabs.last l.metaslabs) (g.M.Metaslabs.last c.hold-op.new.self) l.metaslab h.after h.is (reserved_next g.R.Rack g.A.Area h.before h.after did) i.done;
      each = round_more g.R.Rack g.A.Area g.M.Metaslabs.last g.M.Metaslabs.went g.M.Metaslabs.shared (g.M.Metaslabs.owns c.args.metaslabs.now) (λ none x y. ReservesOne g.R.Rack x (Ok tt) y) l.metaslab 0 0 c.args.metaslabs.now l.metaslabs c.hold-op.new.self i.each
          (held_by g.R.Rack g.A.Area g.M.Metaslabs.last g.M.Metaslabs.went g.M.Metaslabs.shared (g.M.Metaslabs.owns l.metaslabs) (g.M.Metaslabs.owns c.args.metaslabs.now) i.owns (λ x y. ReservesOne g.R.Rack x (Ok tt) y) l.metaslabs l.metaslab c.hold-op.new.self h.shard h.before h.after h.there h.drifts h.is h.went did);
    }

pub returns-in-Err : goal.returns-in-Err
returns-in-Err g c =
    let l = c.loop-metaslab in
    let i = l.invariant in
    let h = c.hold-op.ensures.held in
    let came = did_some (λ result. ReservesOne g.R.Rack h.before result h.after) c.hold-op.result.out c.in-Some.reserved h.related c.in-Some.is in
    let did : ReservesOne g.R.Rack h.before (Err c.in-Err.fault) h.after = subst (λ result. ReservesOne g.R.Rack h.before result h.after) c.in-Err.is came in
    record {
      fits = c.hold-op.ensures.fits;
      locks = c.hold-op.ensures.locks ∙ i.locks;
      owns = c.hold-op.ensures.owns ∙ i.owns;
      next = tt;
      reserves = record {
        place = l.metaslab;
        below = c.loop-metaslab-test.true;
        sum = 0;
        mid = l.metaslabs;
        front = i.each;
        stop = held_by g.R.Rack g.A.Area g.M.Metaslabs.last g.M.Metaslabs.went g.M.Metaslabs.shared (g.M.Metaslabs.owns l.metaslabs) (g.M.Metaslabs.owns c.args.metaslabs.now) i.owns (λ x y. ReservesOne g.R.Rack x (Err c.in-Err.fault) y) l.metaslabs l.metaslab c.hold-op.new.self h.shard h.before h.after h.there h.drifts h.is h.went did;
      };
    }

pub returns : goal.returns
returns g c =
    let l = c.loop-metaslab in
    let i = l.invariant in
    let end = c.loop-metaslab-test.false in
    let low = l.auto.metaslab-end in
    record {
      fits = i.fits;
      locks = i.locks;
      owns = i.owns;
      next = each_all (HasReserved g.R.Rack) (g.M.Metaslabs.last l.metaslabs) l.metaslab c.args.count (omega (arith, end)) i.done;
      reserves = round_all g.R.Rack g.A.Area g.M.Metaslabs.last g.M.Metaslabs.went g.M.Metaslabs.shared (g.M.Metaslabs.owns c.args.metaslabs.now) (λ none x y. ReservesOne g.R.Rack x (Ok tt) y) l.metaslab c.args.count 0 c.args.metaslabs.now l.metaslabs (omega (arith, low)) (omega (arith, end)) i.each;
    }
