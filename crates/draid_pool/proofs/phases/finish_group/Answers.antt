use Rattle.std.proofs.Common.{◌∙◌, ℕ, Bool, None, Some, Ok, Err, inl, inr, ap, refl, subst, sym}
use Rattle.draid_pool.specs.Drifts.{groups_number}
use Rattle.draid_pool.specs.Grouping.{ClosesNext, CommitsIn, FinishesIn}
use Rattle.draid_pool.specs.Rounds.{EachIs}
use Rattle.draid_pool.proofs.SyncWhole.{find_ready, finish_ready, finish_whole}
use Rattle.draid_pool.proofs.phases.finish_group.Goals as goal

pub find_closing-requires : goal.find_closing-requires
find_closing-requires g c = record { fits = c.requires.fits; each = λ m less. (let z = c.requires.ready m less in (z.0, z.1, z.2.valid)) }

pub commit_group-requires : goal.commit_group-requires
commit_group-requires g c =
    let e = c.find_closing.ensures in
    let z = find_ready g.R.Rack g.A.Area g.M.Metaslabs.last g.M.Metaslabs.went g.M.Metaslabs.shared (g.M.Metaslabs.owns c.args.metaslabs.now) c.requires.own c.args.count c.args.metaslabs.now c.find_closing.new.metaslabs c.args.uber.now c.args.uber.now c.requires.ready c.requires.beyond c.in-Some.group c.in-Some.ensures.found in
    record {
      fits = e.fits;
      some = c.requires.some;
      few = c.requires.few;
      own = ap (λ (owns : ℕ → Bool). owns groups_number) e.owns ∙ c.requires.own;
      valid = c.requires.valid;
      next = z.1;
      ready = subst (λ n. EachIs c.args.count (ClosesNext g.R.Rack n) (g.M.Metaslabs.last c.find_closing.new.metaslabs)) (sym z.1) z.0;
    }

pub returns-in_default : goal.returns-in_default
returns-in_default g c =
    let e = c.find_closing.ensures in
    let came : FinishesIn g.R.Rack g.A.Area g.M.Metaslabs.last g.M.Metaslabs.went g.M.Metaslabs.shared (g.M.Metaslabs.owns c.args.metaslabs.now) c.args.count c.args.metaslabs.now c.args.uber.now (Some (Ok tt)) c.find_closing.new.metaslabs c.args.uber.now = inl (c.in_default.ensures.found, refl) in
    let ready = finish_ready g.R.Rack g.A.Area g.M.Metaslabs.last g.M.Metaslabs.went g.M.Metaslabs.shared (g.M.Metaslabs.owns c.args.metaslabs.now) c.requires.own c.args.count c.args.metaslabs.now c.find_closing.new.metaslabs c.args.uber.now c.args.uber.now c.requires.ready c.requires.beyond (Some (Ok tt)) came in
    record {
      fits = e.fits;
      locks = e.locks;
      owns = e.owns;
      valid = c.requires.valid;
      ready = ready.0;
      beyond = ready.1;
      whole = λ table seq floor w. finish_whole g.R.Rack g.A.Area g.M.Metaslabs.last g.M.Metaslabs.went g.M.Metaslabs.shared (g.M.Metaslabs.owns c.args.metaslabs.now) c.requires.own c.args.count table seq floor c.requires.some c.args.metaslabs.now c.find_closing.new.metaslabs c.args.uber.now c.args.uber.now c.requires.ready c.requires.beyond w (Some (Ok tt)) came;
      finishes = came;
    }

pub returns-in_default-commit_group : goal.returns-in_default-commit_group
returns-in_default-commit_group g c =
    let e = c.find_closing.ensures in
    let f = c.commit_group.ensures in
    let came : FinishesIn g.R.Rack g.A.Area g.M.Metaslabs.last g.M.Metaslabs.went g.M.Metaslabs.shared (g.M.Metaslabs.owns c.args.metaslabs.now) c.args.count c.args.metaslabs.now c.args.uber.now None c.commit_group.new.metaslabs c.commit_group.new.uber = (c.in-Some.group, c.find_closing.new.metaslabs, c.in-Some.ensures.found, (subst (λ owns. CommitsIn g.R.Rack g.A.Area g.M.Metaslabs.last g.M.Metaslabs.went g.M.Metaslabs.shared owns c.in-Some.group c.args.count c.find_closing.new.metaslabs c.args.uber.now None c.commit_group.new.metaslabs c.commit_group.new.uber) e.owns c.in_default-commit_group.ensures.commits)) in
    let ready = finish_ready g.R.Rack g.A.Area g.M.Metaslabs.last g.M.Metaslabs.went g.M.Metaslabs.shared (g.M.Metaslabs.owns c.args.metaslabs.now) c.requires.own c.args.count c.args.metaslabs.now c.commit_group.new.metaslabs c.args.uber.now c.commit_group.new.uber c.requires.ready c.requires.beyond None came in
    record {
      fits = f.fits;
      locks = f.locks ∙ e.locks;
      owns = f.owns ∙ e.owns;
      valid = f.valid;
      ready = ready.0;
      beyond = ready.1;
      whole = λ table seq floor w. finish_whole g.R.Rack g.A.Area g.M.Metaslabs.last g.M.Metaslabs.went g.M.Metaslabs.shared (g.M.Metaslabs.owns c.args.metaslabs.now) c.requires.own c.args.count table seq floor c.requires.some c.args.metaslabs.now c.commit_group.new.metaslabs c.args.uber.now c.commit_group.new.uber c.requires.ready c.requires.beyond w None came;
      finishes = came;
    }

pub returns-in-Ok : goal.returns-in-Ok
returns-in-Ok g c =
    let e = c.find_closing.ensures in
    let f = c.commit_group.ensures in
    let came : FinishesIn g.R.Rack g.A.Area g.M.Metaslabs.last g.M.Metaslabs.went g.M.Metaslabs.shared (g.M.Metaslabs.owns c.args.metaslabs.now) c.args.count c.args.metaslabs.now c.args.uber.now (Some (Ok tt)) c.commit_group.new.metaslabs c.commit_group.new.uber = inr (c.in-Some.group, c.in-Ok.field-0, c.find_closing.new.metaslabs, c.in-Some.ensures.found, (subst (λ owns. CommitsIn g.R.Rack g.A.Area g.M.Metaslabs.last g.M.Metaslabs.went g.M.Metaslabs.shared owns c.in-Some.group c.args.count c.find_closing.new.metaslabs c.args.uber.now (Some (Ok c.in-Ok.field-0)) c.commit_group.new.metaslabs c.commit_group.new.uber) e.owns (subst (λ it. CommitsIn g.R.Rack g.A.Area g.M.Metaslabs.last g.M.Metaslabs.went g.M.Metaslabs.shared (g.M.Metaslabs.owns c.find_closing.new.metaslabs) c.in-Some.group c.args.count c.find_closing.new.metaslabs c.args.uber.now (Some it) c.commit_group.new.metaslabs c.commit_group.new.uber) c.in-Ok.is c.in-Some-commit_group.ensures.commits))) in
    let ready = finish_ready g.R.Rack g.A.Area g.M.Metaslabs.last g.M.Metaslabs.went g.M.Metaslabs.shared (g.M.Metaslabs.owns c.args.metaslabs.now) c.requires.own c.args.count c.args.metaslabs.now c.commit_group.new.metaslabs c.args.uber.now c.commit_group.new.uber c.requires.ready c.requires.beyond (Some (Ok tt)) came in
    record {
      fits = f.fits;
      locks = f.locks ∙ e.locks;
      owns = f.owns ∙ e.owns;
      valid = f.valid;
      ready = ready.0;
      beyond = ready.1;
      whole = λ table seq floor w. finish_whole g.R.Rack g.A.Area g.M.Metaslabs.last g.M.Metaslabs.went g.M.Metaslabs.shared (g.M.Metaslabs.owns c.args.metaslabs.now) c.requires.own c.args.count table seq floor c.requires.some c.args.metaslabs.now c.commit_group.new.metaslabs c.args.uber.now c.commit_group.new.uber c.requires.ready c.requires.beyond w (Some (Ok tt)) came;
      finishes = came;
    }

pub returns-in-Err : goal.returns-in-Err
returns-in-Err g c =
    let e = c.find_closing.ensures in
    let f = c.commit_group.ensures in
    let came : FinishesIn g.R.Rack g.A.Area g.M.Metaslabs.last g.M.Metaslabs.went g.M.Metaslabs.shared (g.M.Metaslabs.owns c.args.metaslabs.now) c.args.count c.args.metaslabs.now c.args.uber.now (Some (Err c.in-Err.fault)) c.commit_group.new.metaslabs c.commit_group.new.uber = (c.in-Some.group, c.find_closing.new.metaslabs, c.in-Some.ensures.found, (subst (λ owns. CommitsIn g.R.Rack g.A.Area g.M.Metaslabs.last g.M.Metaslabs.went g.M.Metaslabs.shared owns c.in-Some.group c.args.count c.find_closing.new.metaslabs c.args.uber.now (Some (Err c.in-Err.fault)) c.commit_group.new.metaslabs c.commit_group.new.uber) e.owns (subst (λ it. CommitsIn g.R.Rack g.A.Area g.M.Metaslabs.last g.M.Metaslabs.went g.M.Metaslabs.shared (g.M.Metaslabs.owns c.find_closing.new.metaslabs) c.in-Some.group c.args.count c.find_closing.new.metaslabs c.args.uber.now (Some it) c.commit_group.new.metaslabs c.commit_group.new.uber) c.in-Err.is c.in-Some-commit_group.ensures.commits))) in
    let ready = finish_ready g.R.Rack g.A.Area g.M.Metaslabs.last g.M.Metaslabs.went g.M.Metaslabs.shared (g.M.Metaslabs.owns c.args.metaslabs.now) c.requires.own c.args.count c.args.metaslabs.now c.commit_group.new.metaslabs c.args.uber.now c.commit_group.new.uber c.requires.ready c.requires.beyond (Some (Err c.in-Err.fault)) came in
    record {
      fits = f.fits;
      locks = f.locks ∙ e.locks;
      owns = f.owns ∙ e.owns;
      valid = f.valid;
      ready = ready.0;
      beyond = ready.1;
      whole = λ table seq floor w. finish_whole g.R.Rack g.A.Area g.M.Metaslabs.last g.M.Metaslabs.went g.M.Metaslabs.shared (g.M.Metaslabs.owns c.args.metaslabs.now) c.requires.own c.args.count table seq floor c.requires.some c.args.metaslabs.now c.commit_group.new.metaslabs c.args.uber.now c.commit_group.new.uber c.requires.ready c.requires.beyond w (Some (Err c.in-Err.fault)) came;
      finishes = came;
    }
