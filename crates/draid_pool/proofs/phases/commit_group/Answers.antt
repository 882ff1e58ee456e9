use Rattle.std.proofs.Common.{◌∙◌, ℕ, Bool, None, Some, Ok, Err, inl, ap, refl, subst}
use Rattle.draid_pool.specs.Drifts.{groups_number}
use Rattle.draid_pool.specs.GoingOn.{GoesOnIn}
use Rattle.draid_pool.specs.declared.fault.Syncing.{Syncing}
use Rattle.draid_pool.proofs.GoneOn.{stands_first}
use Rattle.draid_pool.proofs.GoneSync.{commits_of}
use Rattle.draid_pool.proofs.phases.commit_group.Goals as goal

pub close_each-requires : goal.close_each-requires
close_each-requires g c = record { fits = c.requires.fits; own = c.requires.own; next = c.requires.ready }

pub returns-in-Err : goal.returns-in-Err
returns-in-Err g c = (let e = c.close_each.ensures in record { fits = e.fits; locks = e.locks; owns = e.owns; valid = c.requires.valid; commits = inl (c.in-Err.ensures.closes, refl) })

pub seal_and_commit-requires : goal.seal_and_commit-requires
seal_and_commit-requires g c =
    let first : Syncing = record { group = c.args.group; next = 0; thin = 0 } in
    record {
      fits = c.close_each.ensures.fits;
      some = c.requires.some;
      few = c.requires.few;
      own = ap (λ (owns : ℕ → Bool). owns groups_number) c.close_each.ensures.owns ∙ c.requires.own;
      valid = c.requires.valid;
      may = record { stands = stands_first g.R.Rack g.A.Area c.args.count c.args.group first (g.M.Metaslabs.last c.close_each.new.metaslabs) (record { group_is = refl; next = refl; thin = refl }) c.in_default.ensures.next; next = c.requires.next };
    }

pub returns-in_default-seal_and_commit : goal.returns-in_default-seal_and_commit
returns-in_default-seal_and_commit g c =
    let e = c.close_each.ensures in
    let f = c.seal_and_commit.ensures in
    let first : Syncing = record { group = c.args.group; next = 0; thin = 0 } in
    record {
      fits = f.fits;
      locks = f.locks ∙ e.locks;
      owns = f.owns ∙ e.owns;
      valid = f.valid;
      commits = commits_of g.R.Rack g.A.Area g.M.Metaslabs.last g.M.Metaslabs.went g.M.Metaslabs.shared (g.M.Metaslabs.owns c.args.metaslabs.now) c.args.count c.args.group c.args.metaslabs.now c.close_each.new.metaslabs c.seal_and_commit.new.metaslabs first c.seal_and_commit.new.syncing c.args.uber.now c.seal_and_commit.new.uber (record { group_is = refl; next = refl; thin = refl }) c.in_default.ensures.closes (None)
          (subst (λ owns. GoesOnIn g.R.Rack g.A.Area g.M.Metaslabs.last g.M.Metaslabs.went g.M.Metaslabs.shared owns c.args.count c.close_each.new.metaslabs first c.args.uber.now (None) c.seal_and_commit.new.metaslabs c.seal_and_commit.new.syncing c.seal_and_commit.new.uber) e.owns c.in_default-seal_and_commit.ensures.goes);
    }

pub returns-in-Ok : goal.returns-in-Ok
returns-in-Ok g c =
    let e = c.close_each.ensures in
    let f = c.seal_and_commit.ensures in
    let first : Syncing = record { group = c.args.group; next = 0; thin = 0 } in
    record {
      fits = f.fits;
      locks = f.locks ∙ e.locks;
      owns = f.owns ∙ e.owns;
      valid = f.valid;
      commits = commits_of g.R.Rack g.A.Area g.M.Metaslabs.last g.M.Metaslabs.went g.M.Metaslabs.shared (g.M.Metaslabs.owns c.args.metaslabs.now) c.args.count c.args.group c.args.metaslabs.now c.close_each.new.metaslabs c.seal_and_commit.new.metaslabs first c.seal_and_commit.new.syncing c.args.uber.now c.seal_and_commit.new.uber (record { group_is = refl; next = refl; thin = refl }) c.in_default.ensures.closes (Some (Ok c.in-Ok.done))
          (subst (λ owns. GoesOnIn g.R.Rack g.A.Area g.M.Metaslabs.last g.M.Metaslabs.went g.M.Metaslabs.shared owns c.args.count c.close_each.new.metaslabs first c.args.uber.now (Some (Ok c.in-Ok.done)) c.seal_and_commit.new.metaslabs c.seal_and_commit.new.syncing c.seal_and_commit.new.uber) e.owns (subst (λ it. GoesOnIn g.R.Rack g.A.Area g.M.Metaslabs.last g.M.Metaslabs.went g.M.Metaslabs.shared (g.M.Metaslabs.owns c.close_each.new.metaslabs) c.args.count c.close_each.new.metaslabs first c.args.uber.now (Some it) c.seal_and_commit.new.metaslabs c.seal_and_commit.new.syncing c.seal_and_commit.new.uber) c.in-Ok.is c.in-Some.ensures.goes));
    }

pub returns-in-Err-came : goal.returns-in-Err-came
returns-in-Err-came g c =
    let e = c.close_each.ensures in
    let f = c.seal_and_commit.ensures in
    let first : Syncing = record { group = c.args.group; next = 0; thin = 0 } in
    record {
      fits = f.fits;
      locks = f.locks ∙ e.locks;
      owns = f.owns ∙ e.owns;
      valid = f.valid;
      commits = commits_of g.R.Rack g.A.Area g.M.Metaslabs.last g.M.Metaslabs.went g.M.Metaslabs.shared (g.M.Metaslabs.owns c.args.metaslabs.now) c.args.count c.args.group c.args.metaslabs.now c.close_each.new.metaslabs c.seal_and_commit.new.metaslabs first c.seal_and_commit.new.syncing c.args.uber.now c.seal_and_commit.new.uber (record { group_is = refl; next = refl; thin = refl }) c.in_default.ensures.closes (Some (Err c.in-Err-came.fault))
          (subst (λ owns. GoesOnIn g.R.Rack g.A.Area g.M.Metaslabs.last g.M.Metaslabs.went g.M.Metaslabs.shared owns c.args.count c.close_each.new.metaslabs first c.args.uber.now (Some (Err c.in-Err-came.fault)) c.seal_and_commit.new.metaslabs c.seal_and_commit.new.syncing c.seal_and_commit.new.uber) e.owns (subst (λ it. GoesOnIn g.R.Rack g.A.Area g.M.Metaslabs.last g.M.Metaslabs.went g.M.Metaslabs.shared (g.M.Metaslabs.owns c.close_each.new.metaslabs) c.args.count c.close_each.new.metaslabs first c.args.uber.now (Some it) c.seal_and_commit.new.metaslabs c.seal_and_commit.new.syncing c.seal_and_commit.new.uber) c.in-Err-came.is c.in-Some.ensures.goes));
    }
