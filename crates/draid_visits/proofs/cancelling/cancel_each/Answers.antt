use Rattle.std.proofs.Common.{◌≡◌, ◌∙◌, None, arith, refl, ap, subst}
use Rattle.draid_shard.specs.declared.shard.Shard.{Shard}
use Rattle.draid_pool.specs.Drifts.{Drifts, passes_number}
use Rattle.draid_pool.proofs.HeldBy.{stay_held, stay_same, stay_then}
use Rattle.draid_pool.proofs.QuietWhole.{quiet_whole}
use Rattle.draid_pool.proofs.RoundSteps.{beyond, concerns_own, each_all, each_more, held_by, round_all, round_more}
use Rattle.draid_visits.specs.Cancelling.{CancelsIn}
use Rattle.draid_visits.proofs.CancelHolds.{cancels_keep, one_at_most}
use Rattle.draid_visits.proofs.cancelling.cancel_each.Goals as goal

pub loop-metaslab-init : goal.loop-metaslab-init
loop-metaslab-init g c = record {
  fits = c.requires.fits;
  locks = refl;
  owns = refl;
  rest = λ k from. refl;
  low = omega arith;
  stay = stay_same (g.M.Metaslabs.owns c.args.metaslabs.now) (g.M.Metaslabs.last c.args.metaslabs.now);
  whole = λ table seq floor whole. whole;
  none = λ m less. absurd (omega (arith, less));
  each = (refl, refl);
}

pub hold-op-requires-clause-may : goal.hold-op-requires-clause-may
hold-op-requires-clause-may g c =
    let i = c.loop-metaslab.invariant in
    let z = c.requires.valid c.loop-metaslab.metaslab c.loop-metaslab-test.true in
    let own = ap (λ owns. owns passes_number) i.owns ∙ c.requires.own in
    record {
      shard = z.0;
      there = i.rest c.loop-metaslab.metaslab (omega arith) ∙ z.1;
      valid = z.2;
      ready = λ x d. d.valid;
      keeps = λ x y after valid did. cancels_keep g.R.Rack g.A.Area x y after.out did;
      own = λ n is. concerns_own (g.M.Metaslabs.owns c.loop-metaslab.metaslabs) passes_number n own is;
    }

pub overflow_add-ended : goal.overflow_add-ended
overflow_add-ended g c =
    let l = c.loop-metaslab in
    let h = c.hold-op.ensures.held in
    let low = l.invariant.low in
    let one = one_at_most h.before.pass in
    let is = h.related.ended_are in
    let below = c.loop-metaslab-test.true in
    let few = c.requires.few in
    omega (arith, low, one, is, below, few)

pub loop-metaslab-preserved : goal.loop-metaslab-preserved
loop-metaslab-preserved g c =
    let l = c.loop-metaslab in
    let i = l.invariant in
    let h = c.hold-op.ensures.held in
    let did = h.related in
    let owns = g.M.Metaslabs.owns c.args.metaslabs.now in
    let first = g.M.Metaslabs.last c.args.metaslabs.now in
    let last = g.M.Metaslabs.last l.metaslabs in
    let new = g.M.Metaslabs.last c.hold-op.new.self in
    let drifts : Drifts g.R.Rack g.A.Area g.M.Metaslabs.shared owns h.shard h.before = subst (λ o. Drifts g.R.Rack g.A.Area g.M.Metaslabs.shared o h.shard h.before) i.owns h.drifts in
    let low = i.low in
    let one = one_at_most h.before.pass in
    let is = did.ended_are in
    record {
      fits = c.hold-op.ensures.fits;
      locks = c.hold-op.ensures.locks ∙ i.locks;
      owns = c.hold-op.ensures.owns ∙ i.owns;
      rest = λ k from. beyond first last new l.metaslab h.after h.is i.rest k from;
      low = omega (arith, low, one, is);
      stay = stay_then owns first last new i.stay (stay_held owns g.R.Rack g.A.Area g.M.Metaslabs.shared last new l.metaslab h.shard h.before h.after h.there drifts did.part did.groups h.is);
      whole = λ table seq floor whole.
          quiet_whole g.R.Rack g.A.Area g.M.Metaslabs.shared owns last new l.metaslab h.shard h.before h.after h.there drifts did.valid did.part did.groups did.blocks h.is table seq floor (i.whole table seq floor whole);
      none = each_more (λ (shard : Shard g.row.R.Denot g.row.A.Denot). shard.pass ≡ None) last new l.metaslab h.after h.is did.none i.none;
      each = round_more g.R.Rack g.A.Area g.M.Metaslabs.last g.M.Metaslabs.went g.M.Metaslabs.shared owns (λ some x y. CancelsIn g.R.Rack g.A.Area x some y) l.metaslab l.ended c.hold-op.result.out c.args.metaslabs.now l.metaslabs c.hold-op.new.self i.each
          (held_by g.R.Rack g.A.Area g.M.Metaslabs.last g.M.Metaslabs.went g.M.Metaslabs.shared (g.M.Metaslabs.owns l.metaslabs) owns i.owns (λ x y. CancelsIn g.R.Rack g.A.Area x c.hold-op.result.out y) l.metaslabs l.metaslab c.hold-op.new.self h.shard h.before h.after h.there h.drifts h.is h.went did);
    }

pub returns : goal.returns
returns g c =
    let l = c.loop-metaslab in
    let i = l.invariant in
    let end = c.loop-metaslab-test.false in
    let upto = l.auto.metaslab-end in
    record {
      fits = i.fits;
      locks = i.locks;
      owns = i.owns;
      stay = i.stay;
      whole = i.whole;
      none = each_all (λ (shard : Shard g.row.R.Denot g.row.A.Denot). shard.pass ≡ None) (g.M.Metaslabs.last l.metaslabs) l.metaslab c.args.count (omega (arith, end)) i.none;
      cancels = round_all g.R.Rack g.A.Area g.M.Metaslabs.last g.M.Metaslabs.went g.M.Metaslabs.shared (g.M.Metaslabs.owns c.args.metaslabs.now) (λ some x y. CancelsIn g.R.Rack g.A.Area x some y) l.metaslab c.args.count l.ended c.args.metaslabs.now l.metaslabs (omega (arith, upto)) (omega (arith, end)) i.each;
    }
