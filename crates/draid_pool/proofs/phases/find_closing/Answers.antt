use Rattle.std.proofs.Common.{◌∙◌, None, Some, arith, refl, sym, subst}
use Rattle.draid_shard.specs.Fits.{Valid}
use Rattle.draid_pool.specs.Grouping.{SeesClosing}
use Rattle.draid_pool.proofs.LookKeeps.{same_keeps}
use Rattle.draid_pool.proofs.RoundSteps.{each_stays, held_by, round_all, round_more}
use Rattle.draid_pool.proofs.phases.find_closing.Goals as goal

pub loop-metaslab-init : goal.loop-metaslab-init
loop-metaslab-init g c = record { fits = c.requires.fits; locks = refl; owns = refl; valid = c.requires.each; each = (refl, refl) }

pub hold-op-requires-clause-may : goal.hold-op-requires-clause-may
hold-op-requires-clause-may g c =
    let z = c.loop-metaslab.invariant.valid c.loop-metaslab.metaslab c.loop-metaslab-test.true in
    record { shard = z.0; there = z.1; valid = z.2; ready = λ x d. d.valid; keeps = λ x y after valid saw. same_keeps g.R.Rack g.A.Area x y valid saw.0; own = λ n is. absurd (cc) }

pub loop-metaslab-preserved : goal.loop-metaslab-preserved
loop-metaslab-preserved g c =
    let l = c.loop-metaslab in
    let i = l.invariant in
    let h = c.hold-op.ensures.held in
    let did : SeesClosing None h.before h.after = subst (λ out. SeesClosing out h.before h.after) c.in_default.is h.related in
    record {
      fits = c.hold-op.ensures.fits;
      locks = c.hold-op.ensures.locks ∙ i.locks;
      owns = c.hold-op.ensures.owns ∙ i.owns;
      valid = each_stays (Valid g.R.Rack) (g.M.Metaslabs.last l.metaslabs) (g.M.Metaslabs.last c.hold-op.new.self) l.metaslab h.after h.is (subst (Valid g.R.Rack) (sym did.0) h.drifts.valid) c.args.count i.valid;
      each = round_more g.R.Rack g.A.Area g.M.Metaslabs.last g.M.Metaslabs.went g.M.Metaslabs.shared (g.M.Metaslabs.owns c.args.metaslabs.now) (λ none x y. SeesClosing None x y) l.metaslab 0 0 c.args.metaslabs.now l.metaslabs c.hold-op.new.self i.each
          (held_by g.R.Rack g.A.Area g.M.Metaslabs.last g.M.Metaslabs.went g.M.Metaslabs.shared (g.M.Metaslabs.owns l.metaslabs) (g.M.Metaslabs.owns c.args.metaslabs.now) i.owns (λ x y. SeesClosing None x y) l.metaslabs l.metaslab c.hold-op.new.self h.shard h.before h.after h.there h.drifts h.is h.went did);
    }

pub returns-in-Some : goal.returns-in-Some
returns-in-Some g c =
    let l = c.loop-metaslab in
    let i = l.invariant in
    let h = c.hold-op.ensures.held in
    let did : SeesClosing (Some c.in-Some.group) h.before h.after = subst (λ out. SeesClosing out h.before h.after) c.in-Some.is h.related in
    record {
      fits = c.hold-op.ensures.fits;
      locks = c.hold-op.ensures.locks ∙ i.locks;
      owns = c.hold-op.ensures.owns ∙ i.owns;
      found = record {
        place = l.metaslab;
        below = c.loop-metaslab-test.true;
        sum = 0;
        mid = l.metaslabs;
        front = i.each;
        stop = held_by g.R.Rack g.A.Area g.M.Metaslabs.last g.M.Metaslabs.went g.M.Metaslabs.shared (g.M.Metaslabs.owns l.metaslabs) (g.M.Metaslabs.owns c.args.metaslabs.now) i.owns (λ x y. SeesClosing (Some c.in-Some.group) x y) l.metaslabs l.metaslab c.hold-op.new.self h.shard h.before h.after h.there h.drifts h.is h.went did;
      };
    }

pub returns : goal.returns
returns g c =
    let l = c.loop-metaslab in
    let i = l.invariant in
    let end = c.loop-metaslab-test.false in
    let low = l.auto.metaslab-end in
    record {
      fits = i.fits;
      locks = i.locks;
      owns = i.owns;
      found = round_all g.R.Rack g.A.Area g.M.Metaslabs.last g.M.Metaslabs.went g.M.Metaslabs.shared (g.M.Metaslabs.owns c.args.metaslabs.now) (λ none x y. SeesClosing None x y) l.metaslab c.args.count 0 c.args.metaslabs.now l.metaslabs (omega (arith, low)) (omega (arith, end)) i.each;
    }
