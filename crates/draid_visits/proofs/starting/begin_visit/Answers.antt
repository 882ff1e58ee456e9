use Rattle.draid_pool.specs.Drifts.{passes_number}
use Rattle.draid_pool.specs.Rounds.{HeldOnce}
use Rattle.draid_pool.proofs.RoundSteps.{concerns_own, did_not, did_some}
use Rattle.draid_visits.specs.Starts.{StartsIn}
use Rattle.draid_visits.proofs.LookHolds.{once_stays, once_whole}
use Rattle.draid_visits.proofs.StartHolds.{not_running_by, start_keeps, start_ready}
use Rattle.draid_visits.proofs.starting.begin_visit.Goals as goal

pub hold-op-requires-clause-may : goal.hold-op-requires-clause-may
hold-op-requires-clause-may g c =
    let z = c.requires.may in
    let owns = g.M.Metaslabs.owns c.args.metaslabs.now in
    record {
      shard = z.0;
      there = z.1;
      valid = z.2.valid;
      ready = λ x d. start_ready g.R.Rack g.A.Area c.args.kind g.M.Metaslabs.shared owns c.requires.own z.0 x d z.2;
      keeps = λ x y after may did. start_keeps g.R.Rack g.A.Area c.args.kind x y after.out did;
      own = λ n is. concerns_own owns passes_number n c.requires.own is;
    }

pub unreachable-requires : goal.unreachable-requires
unreachable-requires g c =
    let h = c.hold-op.ensures.held in
    did_not (λ result. StartsIn g.R.Rack g.A.Area c.args.kind h.before result h.after) c.hold-op.result.out h.related c.in_default.is

pub begun_by-requires : goal.begun_by-requires
begun_by-requires g c =
    let h = c.hold-op.ensures.held in
    not_running_by g.R.Rack g.A.Area c.args.kind h.before h.after c.in-Some.came (did_some (λ result. StartsIn g.R.Rack g.A.Area c.args.kind h.before result h.after) c.hold-op.result.out c.in-Some.came h.related c.in-Some.is)

pub returns : goal.returns
returns g c =
    let h = c.hold-op.ensures.held in
    let m = g.M.Metaslabs in
    let owns = m.owns c.args.metaslabs.now in
    let came = c.in-Some.came in
    let did : StartsIn g.R.Rack g.A.Area c.args.kind h.before came h.after = did_some (λ result. StartsIn g.R.Rack g.A.Area c.args.kind h.before result h.after) c.hold-op.result.out came h.related c.in-Some.is in
    let once : HeldOnce g.R.Rack g.A.Area m.last m.went m.shared owns (λ x y. StartsIn g.R.Rack g.A.Area c.args.kind x came y) c.args.metaslabs.now c.args.metaslab c.hold-op.new.self
    = record { shard = h.shard; there = h.there; before = h.before; after = h.after; drifts = h.drifts; did = did; is = h.is; goes = h.went } in
    record {
      fits = c.hold-op.ensures.fits;
      locks = c.hold-op.ensures.locks;
      owns = c.hold-op.ensures.owns;
      stay = once_stays g.R.Rack g.A.Area m.last m.went m.shared owns (λ x y. StartsIn g.R.Rack g.A.Area c.args.kind x came y) c.args.metaslabs.now c.args.metaslab c.hold-op.new.self once (λ x y s. s.part) (λ x y s. s.groups);
      whole = λ table seq floor whole. once_whole g.R.Rack g.A.Area m.last m.went m.shared owns (λ x y. StartsIn g.R.Rack g.A.Area c.args.kind x came y) c.args.metaslabs.now c.args.metaslab c.hold-op.new.self once (λ x y s. s.part) (λ x y s. s.groups) (λ x y v s. s.valid)
          (λ x y s. s.blocks) table seq floor whole;
      begins = (came, c.begun_by.ensures, once);
    }
