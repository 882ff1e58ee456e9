use Rattle.std.proofs.Common.{◌≡◌, ◌∙◌, arith, refl, sym, ap, subst}
use Rattle.draid_shard.specs.declared.shard.Shard.{Shard}
use Rattle.draid_pool.specs.Drifts.{groups_number}
use Rattle.draid_pool.proofs.Holding.{some_same}
use Rattle.draid_pool.proofs.RoundSteps.{beyond, concerns_own, each_all, each_more, held_by, round_all, round_more}
use Rattle.draid_changes.specs.Behind.{IsSwitched}
use Rattle.draid_changes.specs.Walks.{MaySwitch, Switches}
use Rattle.draid_changes.proofs.LeafHolds.{switch_keeps, switch_ready}
use Rattle.draid_changes.proofs.Leaves.{is_switched, leaf_arm}
use Rattle.draid_changes.proofs.rounds.switch_each.Goals as goal

pub loop-metaslab-init : goal.loop-metaslab-init
loop-metaslab-init g c = record { fits = c.requires.fits; locks = refl; owns = refl; rest = λ k from. refl; done = λ m less. absurd (omega (arith, less)); each = (refl, refl) }

pub hold-requires-clause-may : goal.hold-requires-clause-may
hold-requires-clause-may g c =
    let i = c.loop-metaslab.invariant in
    let z = c.requires.ready c.loop-metaslab.metaslab c.loop-metaslab-test.true in
    let own = ap (λ owns. owns groups_number) i.owns ∙ c.requires.own in
    record {
      shard = z.0;
      there = i.rest c.loop-metaslab.metaslab (omega arith) ∙ z.1;
      valid = z.2.valid;
      ready = λ x d. switch_ready g.R.Rack g.A.Area g.M.Metaslabs.shared (g.M.Metaslabs.owns c.loop-metaslab.metaslabs) own c.args.leaf z.0 x d z.2;
      keeps = λ x y after next did. switch_keeps g.R.Rack g.A.Area c.args.leaf c.args.offline x y did;
      own = λ n is. concerns_own (g.M.Metaslabs.owns c.loop-metaslab.metaslabs) groups_number n own is;
    }

pub loop-metaslab-preserved : goal.loop-metaslab-preserved
loop-metaslab-preserved g c =
    let l = c.loop-metaslab in
    let i = l.invariant in
    let h = c.hold.ensures.held in
    let z = c.requires.ready l.metaslab c.loop-metaslab-test.true in
    let own = ap (λ owns. owns groups_number) i.owns ∙ c.requires.own in
    let same : z.0 ≡ h.shard = some_same z.0 h.shard (sym (i.rest l.metaslab (omega arith) ∙ z.1) ∙ h.there) in
    let may = switch_ready g.R.Rack g.A.Area g.M.Metaslabs.shared (g.M.Metaslabs.owns l.metaslabs) own c.args.leaf h.shard h.before h.drifts (subst (MaySwitch g.R.Rack c.args.leaf) same z.2) in
    record {
      fits = c.hold.ensures.fits;
      locks = c.hold.ensures.locks ∙ i.locks;
      owns = c.hold.ensures.owns ∙ i.owns;
      rest = λ k from. beyond (g.M.Metaslabs.last c.args.metaslabs.now) (g.M.Metaslabs.last l.metaslabs) (g.M.Metaslabs.last c.hold.new.self) l.metaslab h.after h.is i.rest k from;
      done = each_more (λ (shard : Shard g.row.R.Denot g.row.A.Denot). IsSwitched shard.slots c.args.leaf c.args.offline) (g.M.Metaslabs.last l.metaslabs) (g.M.Metaslabs.last c.hold.new.self) l.metaslab h.after h.is
          (is_switched h.before.slots h.after.slots c.args.leaf c.args.offline h.related.slots (leaf_arm h.before.slots c.args.leaf may.arm)) i.done;
      each = round_more g.R.Rack g.A.Area g.M.Metaslabs.last g.M.Metaslabs.went g.M.Metaslabs.shared (g.M.Metaslabs.owns c.args.metaslabs.now) (λ none x y. Switches g.R.Rack c.args.leaf c.args.offline x y) l.metaslab 0 0 c.args.metaslabs.now l.metaslabs c.hold.new.self i.each
          (held_by g.R.Rack g.A.Area g.M.Metaslabs.last g.M.Metaslabs.went g.M.Metaslabs.shared (g.M.Metaslabs.owns l.metaslabs) (g.M.Metaslabs.owns c.args.metaslabs.now) i.owns (λ x y. Switches g.R.Rack c.args.leaf c.args.offline x y) l.metaslabs l.metaslab c.hold.new.self h.shard h.before h.after h.there h.drifts h.is h.went h.related);
    }

pub returns : goal.returns
returns g c =
    let l = c.loop-metaslab in
    let i = l.invariant in
    let end = c.loop-metaslab-test.false in
    let low = l.auto.metaslab-end in
    record {
      fits = i.fits;
      locks = i.locks;
      owns = i.owns;
      switched = each_all (λ (shard : Shard g.row.R.Denot g.row.A.Denot). IsSwitched shard.slots c.args.leaf c.args.offline) (g.M.Metaslabs.last l.metaslabs) l.metaslab c.args.count (omega (arith, end)) i.done;
      switches = round_all g.R.Rack g.A.Area g.M.Metaslabs.last g.M.Metaslabs.went g.M.Metaslabs.shared (g.M.Metaslabs.owns c.args.metaslabs.now) (λ none x y. Switches g.R.Rack c.args.leaf c.args.offline x y) l.metaslab c.args.count 0 c.args.metaslabs.now l.metaslabs (omega (arith, low)) (omega (arith, end)) i.each;
    }
