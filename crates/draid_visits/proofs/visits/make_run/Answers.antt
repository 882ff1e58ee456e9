use Rattle.std.proofs.Common.{◌∙◌, Ok, Some, refl, subst, sym}
use Rattle.draid_names.specs.declared.pass_kind.PassKind.TheVariants.{Rebuild}
use Rattle.draid_visits.specs.Readies.{ReadiesBy}
use Rattle.draid_visits.specs.Starts.{LeftSo}
use Rattle.draid_visits.specs.Units.{MayLendIn}
use Rattle.draid_visits.specs.Visits.{MayVisit, RunsBy}
use Rattle.draid_visits.proofs.VisitsStay.{may_lend, may_on, may_ready, never_both, readies_lends}
use Rattle.draid_visits.proofs.visits.make_run.Goals as goal

pub make_ready-requires : goal.make_ready-requires
make_ready-requires g c =
    let may = c.requires.may in
    record {
      fits = c.requires.fits;
      below = c.requires.below;
      few = may.geometry_is.props.most_metaslabs;
      own = c.requires.own;
      passes = c.requires.passes;
      valid = may.valid;
      ready = may.ready;
      beyond = may.beyond;
      rebuild = may_ready g.R.Rack g.A.Area g.M.Metaslabs.last c.args.geometry.now c.args.kind c.args.metaslabs.now c.args.uber.now may c.args.metaslab c.requires.below c.requires.pass c.in-Rebuild.is;
    }

pub returns-in-Rebuild : goal.returns-in-Rebuild
returns-in-Rebuild g c =
    let m = g.M.Metaslabs in
    let owns = m.owns c.args.metaslabs.now in
    let e = c.make_ready.ensures in
    let syncs = g.S.Syncs.relates (g.M.Metaslabs.owns c.args.metaslabs.now) c.args.geometry.now.props.metaslabs in
    let kind = c.in-Rebuild.is in
    let old = c.args.metaslabs.now in
    let new = c.make_ready.new.metaslabs in
    let u = c.args.uber.now in
    let v = c.make_ready.new.uber in
    record {
      fits = e.fits;
      locks = e.locks;
      owns = e.owns;
      may = subst (λ k. MayVisit g.R.Rack g.A.Area c.args.geometry.now k (m.last new) v) (sym kind)
          (may_on g.R.Rack g.A.Area m.last c.args.geometry.now Rebuild old u (subst (λ k. MayVisit g.R.Rack g.A.Area c.args.geometry.now k (m.last old) u) kind c.requires.may) new v
          e.kept e.valid e.ready e.beyond);
      whole = e.whole;
      lends = λ is. subst (λ k. LeftSo c.args.metaslab (MayLendIn g.R.Rack k) (m.last new)) (sym kind)
          (readies_lends g.R.Rack g.A.Area m.last m.went m.shared owns syncs c.args.metaslab old new u v (subst (λ out. ReadiesBy g.R.Rack g.A.Area m.last m.went m.shared owns syncs c.args.metaslab old u out new v) is e.readies));
      runs = subst (λ k. RunsBy g.R.Rack g.A.Area m.last m.went m.shared owns syncs k c.args.metaslab old u c.make_ready.result new v) (sym kind) e.readies;
    }

pub returns-in-Heal : goal.returns-in-Heal
returns-in-Heal g c =
    let m = g.M.Metaslabs in
    let owns = m.owns c.args.metaslabs.now in
    let kind = c.in-Heal.is in
    let old = c.args.metaslabs.now in
    let u = c.args.uber.now in
    record {
      fits = c.requires.fits;
      locks = refl;
      owns = refl;
      may = c.requires.may;
      whole = λ table seq floor whole. whole;
      lends = λ is. may_lend g.R.Rack g.A.Area m.last c.args.geometry.now c.args.kind old u c.requires.may c.args.metaslab c.requires.below c.requires.pass (λ rebuild. never_both (sym kind ∙ rebuild));
      runs = subst (λ k. RunsBy g.R.Rack g.A.Area m.last m.went m.shared owns (g.S.Syncs.relates (g.M.Metaslabs.owns c.args.metaslabs.now) c.args.geometry.now.props.metaslabs) k c.args.metaslab old u (Some (Ok tt)) old u) (sym kind) (refl, refl, refl);
    }
