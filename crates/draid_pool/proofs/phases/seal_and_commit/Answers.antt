use Rattle.std.proofs.Common.{◌∙◌, ℕ, Bool, Some, inl, inr, ap, refl, subst}
use Rattle.std.specs.Prelude.{OnOk}
use Rattle.draid_pool.specs.Drifts.{groups_number}
use Rattle.draid_pool.specs.GoingOn.{SealsRest}
use Rattle.draid_pool.specs.Grouping.{CommitsEach, CommitsNext}
use Rattle.draid_pool.specs.Rounds.{EachIs}
use Rattle.draid_pool.proofs.PhaseSteps.{sealed_is_next}
use Rattle.draid_pool.proofs.phases.seal_and_commit.Goals as goal

pub seal_rest-requires : goal.seal_rest-requires
seal_rest-requires g c = record { fits = c.requires.fits; few = c.requires.few; own = c.requires.own; stands = c.requires.may.stands }

pub returns-in_default : goal.returns-in_default
returns-in_default g c = (let f = c.in_default.ensures in record { fits = f.fits; locks = f.locks; owns = f.owns; valid = c.requires.valid; stands = λ none. f.stands refl; goes = (f.seals, refl) })

pub returns-in-Err : goal.returns-in-Err
returns-in-Err g c =
    let f = c.seal_rest.ensures in
    record {
      fits = f.fits;
      locks = f.locks;
      owns = f.owns;
      valid = c.requires.valid;
      stands = λ none. absurd (cc none);
      goes = inl (subst (λ it. SealsRest g.R.Rack g.A.Area g.M.Metaslabs.last g.M.Metaslabs.went g.M.Metaslabs.shared (g.M.Metaslabs.owns c.args.metaslabs.now) c.args.count c.args.metaslabs.now c.args.syncing.now (Some it) c.seal_rest.new.metaslabs c.seal_rest.new.syncing) c.in-Err.is c.in-Some.ensures.seals, refl);
    }

pub name_group-requires : goal.name_group-requires
name_group-requires g c =
    let each = subst (λ it. OnOk it (EachIs c.args.count (CommitsNext g.R.Rack c.args.syncing.now.group) (g.M.Metaslabs.last c.seal_rest.new.metaslabs))) c.in-Ok.is c.in-Some.ensures.next in
    record {
      next = sealed_is_next g.R.Rack _ c.args.syncing.now.group c.args.count (g.M.Metaslabs.last c.seal_rest.new.metaslabs) c.requires.some c.requires.may.next each;
      valid = c.requires.valid;
    }

pub returns-in-Err-name_group : goal.returns-in-Err-name_group
returns-in-Err-name_group g c =
    let f = c.seal_rest.ensures in
    record {
      fits = f.fits;
      locks = f.locks;
      owns = f.owns;
      valid = c.name_group.ensures.valid;
      stands = λ none. absurd (cc none);
      goes = inr (subst (λ it. SealsRest g.R.Rack g.A.Area g.M.Metaslabs.last g.M.Metaslabs.went g.M.Metaslabs.shared (g.M.Metaslabs.owns c.args.metaslabs.now) c.args.count c.args.metaslabs.now c.args.syncing.now (Some it) c.seal_rest.new.metaslabs c.seal_rest.new.syncing) c.in-Ok.is c.in-Some.ensures.seals, c.in-Err-name_group.ensures.names);
    }

pub commit_each-requires : goal.commit_each-requires
commit_each-requires g c =
    let f = c.seal_rest.ensures in
    record {
      fits = f.fits;
      own = ap (λ (owns : ℕ → Bool). owns groups_number) f.owns ∙ c.requires.own;
      next = subst (λ it. OnOk it (EachIs c.args.count (CommitsNext g.R.Rack c.args.syncing.now.group) (g.M.Metaslabs.last c.seal_rest.new.metaslabs))) c.in-Ok.is c.in-Some.ensures.next;
    }

pub returns : goal.returns
returns g c =
    let f = c.seal_rest.ensures in
    let h = c.commit_each.ensures in
    record {
      fits = h.fits;
      locks = h.locks ∙ f.locks;
      owns = h.owns ∙ f.owns;
      valid = c.name_group.ensures.valid;
      stands = λ none. absurd (cc none);
      goes = (
        c.seal_rest.new.metaslabs,
        subst (λ it. SealsRest g.R.Rack g.A.Area g.M.Metaslabs.last g.M.Metaslabs.went g.M.Metaslabs.shared (g.M.Metaslabs.owns c.args.metaslabs.now) c.args.count c.args.metaslabs.now c.args.syncing.now (Some it) c.seal_rest.new.metaslabs c.seal_rest.new.syncing) c.in-Ok.is c.in-Some.ensures.seals,
        refl,
        refl,
        c.in_default-name_group.ensures.names,
        subst (λ owns. CommitsEach g.R.Rack g.A.Area g.M.Metaslabs.last g.M.Metaslabs.went g.M.Metaslabs.shared owns c.args.syncing.now.group c.args.count c.seal_rest.new.metaslabs c.commit_each.new.metaslabs) f.owns h.commits,
      );
    }
