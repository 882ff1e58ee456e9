use Rattle.draid_pool.specs.Drifts.{passes_number}
use Rattle.draid_pool.specs.Rounds.{HeldOnce}
use Rattle.draid_pool.proofs.RoundSteps.{concerns_own, did_not, did_some}
use Rattle.draid_visits.specs.Units.{UnitIn}
use Rattle.draid_visits.proofs.LookHolds.{once_whole}
use Rattle.draid_visits.proofs.UnitHolds.{unit_keeps_by, unit_ready}
use Rattle.draid_visits.proofs.VisitsStay.{unit_blocks}
use Rattle.draid_visits.proofs.lends.lend_next.Goals as goal

pub hold-op-requires-clause-may : goal.hold-op-requires-clause-may
hold-op-requires-clause-may g c =
    let z = c.requires.may in
    let owns = g.M.Metaslabs.owns c.args.metaslabs.now in
    record {
      shard = z.0;
      there = z.1;
      valid = z.2.valid;
      ready = λ x d. unit_ready g.R.Rack g.A.Area g.M.Metaslabs.shared owns c.requires.passes c.args.kind z.0 x d z.2;
      keeps = λ x y after may did. unit_keeps_by g.R.Rack g.A.Area x y c.args.kind c.args.used_up after.out did;
      own = λ n is. concerns_own owns passes_number n c.requires.passes is;
    }

pub unreachable-requires : goal.unreachable-requires
unreachable-requires g c =
    let h = c.hold-op.ensures.held in
    did_not (λ came. UnitIn g.R.Rack g.A.Area c.args.kind c.args.used_up came h.before h.after) c.hold-op.result.out h.related c.in_default.is

pub returns : goal.returns
returns g c =
    let h = c.hold-op.ensures.held in
    let m = g.M.Metaslabs in
    let owns = m.owns c.args.metaslabs.now in
    let came = c.in-Some.came in
    let did : UnitIn g.R.Rack g.A.Area c.args.kind c.args.used_up came h.before h.after = did_some (λ one. UnitIn g.R.Rack g.A.Area c.args.kind c.args.used_up one h.before h.after) c.hold-op.result.out came h.related c.in-Some.is in
    let once : HeldOnce g.R.Rack g.A.Area m.last m.went m.shared owns (UnitIn g.R.Rack g.A.Area c.args.kind c.args.used_up came) c.args.metaslabs.now c.args.metaslab c.hold-op.new.self
    = record { shard = h.shard; there = h.there; before = h.before; after = h.after; drifts = h.drifts; did = did; is = h.is; goes = h.went } in
    record {
      fits = c.hold-op.ensures.fits;
      locks = c.hold-op.ensures.locks;
      owns = c.hold-op.ensures.owns;
      whole = λ table seq floor whole. once_whole g.R.Rack g.A.Area m.last m.went m.shared owns (UnitIn g.R.Rack g.A.Area c.args.kind c.args.used_up came) c.args.metaslabs.now c.args.metaslab c.hold-op.new.self once (λ x y u. u.table.part) (λ x y u. u.groups)
          (λ x y v u. u.valid) (λ x y u. unit_blocks g.R.Rack g.A.Area c.args.kind c.args.used_up came x y u) table seq floor whole;
      held = once;
    }
