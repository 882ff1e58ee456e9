use Rattle.std.proofs.Common.{◌+◌, ◌∙◌, ℕ, suc, Bool, true, false, None, Some, arith, refl, ap, subst}
use Rattle.draid_uber.specs.Slots.{group_of}
use Rattle.draid_uber.specs.Uber.{kept_of}
use Rattle.draid_pool.specs.Drifts.{groups_number, passes_number}
use Rattle.draid_pool.proofs.PhaseSteps.{next_low}
use Rattle.draid_pool.proofs.RoundSteps.{concerns_own}
use Rattle.draid_visits.proofs.PassesStay.{parts_there}
use Rattle.draid_visits.proofs.ReadyHolds.{ready_behind, ready_keeps, ready_ready, rebuild_on}
use Rattle.draid_visits.proofs.VisitsStay.{kept_none, kept_once, kept_sync, whole_then}
use Rattle.draid_visits.proofs.readying.make_ready.Goals as goal

pub waits-init : goal.waits-init
waits-init g c = record {
  fits = c.requires.fits;
  locks = refl;
  owns = refl;
  valid = c.requires.valid;
  ready = c.requires.ready;
  beyond = c.requires.beyond;
  whole = λ table seq floor whole. whole;
  rebuild = c.requires.rebuild;
  kept = kept_none g.R.Rack g.A.Area g.M.Metaslabs.last g.M.Metaslabs.went g.M.Metaslabs.shared (g.M.Metaslabs.owns c.args.metaslabs.now) c.requires.passes c.args.metaslab c.args.metaslabs.now;
  waited = (0, (refl, refl));
}

pub hold-op-requires-clause-may : goal.hold-op-requires-clause-may
hold-op-requires-clause-may g c =
    let l = c.waits in
    let i = l.invariant in
    let z = i.rebuild in
    let owns = g.M.Metaslabs.owns l.metaslabs in
    let own = ap (λ (o : ℕ → Bool). o passes_number) i.owns ∙ c.requires.passes in
    record {
      shard = z.0;
      there = z.1;
      valid = z.2.valid;
      ready = λ x d. ready_ready g.R.Rack g.A.Area g.M.Metaslabs.shared owns own z.0 x d z.2;
      keeps = λ x y after may did. ready_keeps g.R.Rack g.A.Area x y after.out did;
      own = λ n is. concerns_own owns passes_number n own is;
    }

pub returns-then-op : goal.returns-then-op
returns-then-op g c =
    let l = c.waits in
    let i = l.invariant in
    let m = g.M.Metaslabs in
    let owns = m.owns c.args.metaslabs.now in
    let h = c.hold-op.ensures.held in
    let held = ready_behind g.R.Rack g.A.Area m.last m.went m.shared owns c.requires.own c.args.count (m.owns l.metaslabs) i.owns c.hold-op.result.out true c.if-op.true l.metaslabs l.uber c.args.metaslab c.hold-op.new.self
    h.shard h.before h.after h.there h.drifts h.related h.is h.went c.requires.below i.ready i.beyond in
    record {
      fits = c.hold-op.ensures.fits;
      locks = c.hold-op.ensures.locks ∙ i.locks;
      owns = c.hold-op.ensures.owns ∙ i.owns;
      valid = i.valid;
      ready = held.ready;
      beyond = held.beyond;
      whole = λ table seq floor whole. held.whole table seq floor (i.whole table seq floor whole);
      kept = kept_once g.R.Rack g.A.Area m.last m.went m.shared owns c.requires.passes c.args.metaslab true c.args.metaslabs.now l.metaslabs c.hold-op.new.self i.kept held.once;
      readies = (i.waited.0, l.metaslabs, i.waited.1, held.once);
    }

pub sync-requires : goal.sync-requires
sync-requires g c =
    let l = c.waits in
    let i = l.invariant in
    let m = g.M.Metaslabs in
    let owns = m.owns c.args.metaslabs.now in
    let h = c.hold-op.ensures.held in
    let held = ready_behind g.R.Rack g.A.Area m.last m.went m.shared owns c.requires.own c.args.count (m.owns l.metaslabs) i.owns c.hold-op.result.out false c.if-op.false l.metaslabs l.uber c.args.metaslab c.hold-op.new.self
    h.shard h.before h.after h.there h.drifts h.related h.is h.went c.requires.below i.ready i.beyond in
    record {
      fits = c.hold-op.ensures.fits;
      some = (let below = c.requires.below in omega (arith, below));
      few = c.requires.few;
      own = ap (λ (o : ℕ → Bool). o groups_number) (c.hold-op.ensures.owns ∙ i.owns) ∙ c.requires.own;
      passes = ap (λ (o : ℕ → Bool). o passes_number) (c.hold-op.ensures.owns ∙ i.owns) ∙ c.requires.passes;
      valid = i.valid;
      ready = held.ready;
      beyond = held.beyond;
    }

pub returns-in_default : goal.returns-in_default
returns-in_default g c =
    let l = c.waits in
    let i = l.invariant in
    let m = g.M.Metaslabs in
    let owns = m.owns c.args.metaslabs.now in
    let h = c.hold-op.ensures.held in
    let held = ready_behind g.R.Rack g.A.Area m.last m.went m.shared owns c.requires.own c.args.count (m.owns l.metaslabs) i.owns c.hold-op.result.out false c.if-op.false l.metaslabs l.uber c.args.metaslab c.hold-op.new.self
    h.shard h.before h.after h.there h.drifts h.related h.is h.went c.requires.below i.ready i.beyond in
    let e = c.in_default.ensures in
    let synced = subst (λ o. g.S.Syncs.relates o c.args.count c.hold-op.new.self l.uber None c.sync.new.metaslabs c.sync.new.uber) (c.hold-op.ensures.owns ∙ i.owns) e.syncs in
    record {
      fits = e.fits;
      locks = e.locks ∙ (c.hold-op.ensures.locks ∙ i.locks);
      owns = e.owns ∙ (c.hold-op.ensures.owns ∙ i.owns);
      valid = e.valid;
      ready = e.ready;
      beyond = e.beyond;
      whole = whole_then g.R.Rack owns (m.owns c.hold-op.new.self) (c.hold-op.ensures.owns ∙ i.owns) (m.last c.args.metaslabs.now) (m.last c.hold-op.new.self) (m.last c.sync.new.metaslabs) (λ table seq floor whole. held.whole table seq floor (i.whole table seq floor whole)) e.whole;
      kept = kept_sync g.R.Rack g.A.Area m.last m.went m.shared owns c.requires.passes c.args.metaslab c.args.metaslabs.now c.hold-op.new.self c.sync.new.metaslabs
          (kept_once g.R.Rack g.A.Area m.last m.went m.shared owns c.requires.passes c.args.metaslab false c.args.metaslabs.now l.metaslabs c.hold-op.new.self i.kept held.once) e.keeps;
      readies = (i.waited.0, l.metaslabs, l.uber, c.hold-op.new.self, i.waited.1, held.once, synced);
    }

pub returns-in-Err : goal.returns-in-Err
returns-in-Err g c =
    let l = c.waits in
    let i = l.invariant in
    let m = g.M.Metaslabs in
    let owns = m.owns c.args.metaslabs.now in
    let h = c.hold-op.ensures.held in
    let held = ready_behind g.R.Rack g.A.Area m.last m.went m.shared owns c.requires.own c.args.count (m.owns l.metaslabs) i.owns c.hold-op.result.out false c.if-op.false l.metaslabs l.uber c.args.metaslab c.hold-op.new.self
    h.shard h.before h.after h.there h.drifts h.related h.is h.went c.requires.below i.ready i.beyond in
    let e = c.in-Some.ensures in
    let synced = subst (λ o. g.S.Syncs.relates o c.args.count c.hold-op.new.self l.uber (Some c.in-Some.came) c.sync.new.metaslabs c.sync.new.uber) (c.hold-op.ensures.owns ∙ i.owns) e.syncs in
    record {
      fits = e.fits;
      locks = e.locks ∙ (c.hold-op.ensures.locks ∙ i.locks);
      owns = e.owns ∙ (c.hold-op.ensures.owns ∙ i.owns);
      valid = e.valid;
      ready = e.ready;
      beyond = e.beyond;
      whole = whole_then g.R.Rack owns (m.owns c.hold-op.new.self) (c.hold-op.ensures.owns ∙ i.owns) (m.last c.args.metaslabs.now) (m.last c.hold-op.new.self) (m.last c.sync.new.metaslabs) (λ table seq floor whole. held.whole table seq floor (i.whole table seq floor whole)) e.whole;
      kept = kept_sync g.R.Rack g.A.Area m.last m.went m.shared owns c.requires.passes c.args.metaslab c.args.metaslabs.now c.hold-op.new.self c.sync.new.metaslabs
          (kept_once g.R.Rack g.A.Area m.last m.went m.shared owns c.requires.passes c.args.metaslab false c.args.metaslabs.now l.metaslabs c.hold-op.new.self i.kept held.once) e.keeps;
      readies = (i.waited.0, l.metaslabs, l.uber, c.hold-op.new.self, i.waited.1, held.once, subst (λ r. g.S.Syncs.relates owns c.args.count c.hold-op.new.self l.uber (Some r) c.sync.new.metaslabs c.sync.new.uber) c.in-Err.is synced);
    }

pub waits-smaller : goal.waits-smaller
waits-smaller g c =
    let l = c.waits in
    let i = l.invariant in
    let m = g.M.Metaslabs in
    let owns = m.owns c.args.metaslabs.now in
    let h = c.hold-op.ensures.held in
    let held = ready_behind g.R.Rack g.A.Area m.last m.went m.shared owns c.requires.own c.args.count (m.owns l.metaslabs) i.owns c.hold-op.result.out false c.if-op.false l.metaslabs l.uber c.args.metaslab c.hold-op.new.self
    h.shard h.before h.after h.there h.drifts h.related h.is h.went c.requires.below i.ready i.beyond in
    let e = c.in-Some.ensures in
    let rises = e.rises c.in-Ok.field-0 (ap Some c.in-Ok.is) in
    let low = next_low g.R.Rack (group_of (kept_of l.uber) + 1) c.args.count (m.last l.metaslabs) (let below = c.requires.below in omega (arith, below)) i.ready in
    omega (arith, rises, low)

pub waits-preserved : goal.waits-preserved
waits-preserved g c =
    let l = c.waits in
    let i = l.invariant in
    let m = g.M.Metaslabs in
    let owns = m.owns c.args.metaslabs.now in
    let h = c.hold-op.ensures.held in
    let held = ready_behind g.R.Rack g.A.Area m.last m.went m.shared owns c.requires.own c.args.count (m.owns l.metaslabs) i.owns c.hold-op.result.out false c.if-op.false l.metaslabs l.uber c.args.metaslab c.hold-op.new.self
    h.shard h.before h.after h.there h.drifts h.related h.is h.went c.requires.below i.ready i.beyond in
    let e = c.in-Some.ensures in
    let synced = subst (λ o. g.S.Syncs.relates o c.args.count c.hold-op.new.self l.uber (Some c.in-Some.came) c.sync.new.metaslabs c.sync.new.uber) (c.hold-op.ensures.owns ∙ i.owns) e.syncs in
    record {
      fits = e.fits;
      locks = e.locks ∙ (c.hold-op.ensures.locks ∙ i.locks);
      owns = e.owns ∙ (c.hold-op.ensures.owns ∙ i.owns);
      valid = e.valid;
      ready = e.ready;
      beyond = e.beyond;
      whole = whole_then g.R.Rack owns (m.owns c.hold-op.new.self) (c.hold-op.ensures.owns ∙ i.owns) (m.last c.args.metaslabs.now) (m.last c.hold-op.new.self) (m.last c.sync.new.metaslabs) (λ table seq floor whole. held.whole table seq floor (i.whole table seq floor whole)) e.whole;
      rebuild = rebuild_on g.R.Rack g.A.Area m.last m.went m.shared owns c.requires.own c.args.count c.requires.passes l.metaslabs c.args.metaslab c.hold-op.new.self held.once i.rebuild (group_of (kept_of c.sync.new.uber) + 1) c.sync.new.metaslabs
          (parts_there g.R.Rack g.A.Area m.last m.went m.shared owns c.requires.passes c.hold-op.new.self c.sync.new.metaslabs e.keeps) c.requires.below e.ready;
      kept = kept_sync g.R.Rack g.A.Area m.last m.went m.shared owns c.requires.passes c.args.metaslab c.args.metaslabs.now c.hold-op.new.self c.sync.new.metaslabs
          (kept_once g.R.Rack g.A.Area m.last m.went m.shared owns c.requires.passes c.args.metaslab false c.args.metaslabs.now l.metaslabs c.hold-op.new.self i.kept held.once) e.keeps;
      waited = (suc i.waited.0, (l.metaslabs, l.uber, c.hold-op.new.self, c.in-Ok.field-0, i.waited.1, held.once, subst (λ r. g.S.Syncs.relates owns c.args.count c.hold-op.new.self l.uber (Some r) c.sync.new.metaslabs c.sync.new.uber) c.in-Ok.is synced));
    }
