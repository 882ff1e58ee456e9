use Rattle.std.proofs.Common.{◌∙◌, ℕ, Bool, suc, None, Some, ap, refl, subst}
use Rattle.draid_pool.specs.Drifts.{groups_number}
use Rattle.draid_changes.specs.Switching.{SwitchesIn}
use Rattle.draid_works.proofs.switching.switch_through.Goals as goal

pub loop-init : goal.loop-init
loop-init g c = record { fits = c.requires.fits; locks = refl; owns = refl; valid = c.requires.valid; ready = c.requires.ready; beyond = c.requires.beyond; alike = c.requires.alike; waits = (0, (refl, refl)) }

pub switch_leaf-requires : goal.switch_leaf-requires
switch_leaf-requires g c =
    let i = c.loop.invariant in
    record { fits = i.fits; some = c.requires.some; few = c.requires.few; own = ap (λ (owns : ℕ → Bool). owns groups_number) i.owns ∙ c.requires.own; valid = i.valid; ready = i.ready; beyond = i.beyond; alike = i.alike }

pub loop-preserved : goal.loop-preserved
loop-preserved g c =
    let i = c.loop.invariant in
    let e = c.switch_leaf.ensures in
    let f = c.in_default.ensures in
    record {
      fits = e.fits;
      locks = e.locks ∙ i.locks;
      owns = e.owns ∙ i.owns;
      valid = e.valid;
      ready = e.ready;
      beyond = e.beyond;
      alike = e.alike;
      waits = (suc i.waits.0, (c.loop.metaslabs, c.loop.uber, i.waits.1, subst (λ owns. SwitchesIn g.R.Rack g.A.Area g.M.Metaslabs.last g.M.Metaslabs.went g.M.Metaslabs.shared owns c.args.count c.args.leaf c.args.offline c.loop.metaslabs c.loop.uber None c.switch_leaf.new.metaslabs c.switch_leaf.new.uber) i.owns f.switches));
    }

pub returns-in-Some-switch_leaf : goal.returns-in-Some-switch_leaf
returns-in-Some-switch_leaf g c =
    let i = c.loop.invariant in
    let e = c.switch_leaf.ensures in
    record {
      fits = e.fits;
      locks = e.locks ∙ i.locks;
      owns = e.owns ∙ i.owns;
      valid = e.valid;
      ready = e.ready;
      beyond = e.beyond;
      leaf = c.in-Some-switch_leaf.ensures.leaf;
      switches = record {
        waits = i.waits.0;
        mid = c.loop.metaslabs;
        w = c.loop.uber;
        front = i.waits.1;
        switches = subst (λ owns. SwitchesIn g.R.Rack g.A.Area g.M.Metaslabs.last g.M.Metaslabs.went g.M.Metaslabs.shared owns c.args.count c.args.leaf c.args.offline c.loop.metaslabs c.loop.uber (Some c.in-Some-switch_leaf.result) c.switch_leaf.new.metaslabs c.switch_leaf.new.uber) i.owns c.in-Some-switch_leaf.ensures.switches;
      };
    }
