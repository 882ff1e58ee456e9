use Rattle.std.proofs.Common.{◌+◌, ◌∙◌, ℕ, Bool, Some, Ok, Err, inl, inr, arith, ap, refl, subst, sym}
use Rattle.draid_uber.specs.Slots.{group_of}
use Rattle.draid_uber.specs.Uber.{kept_of}
use Rattle.draid_pool.specs.Drifts.{groups_number}
use Rattle.draid_pool.specs.GoingOn.{BeginsIn}
use Rattle.draid_pool.specs.Grouping.{ClosesEach, ClosesNext, FinishesIn}
use Rattle.draid_pool.specs.Rounds.{EachIs}
use Rattle.draid_pool.specs.declared.fault.Syncing.{Syncing}
use Rattle.draid_pool.proofs.GoneOn.{stands_first}
use Rattle.draid_pool.proofs.PhaseSteps.{next_low}
use Rattle.draid_pool.proofs.SyncWhole.{begin_ready, begin_whole}
use Rattle.draid_pool.proofs.phases.begin_sync.Goals as goal

pub finish_group-requires : goal.finish_group-requires
finish_group-requires g c = record { fits = c.requires.fits; some = c.requires.some; few = c.requires.few; own = c.requires.own; valid = c.requires.valid; ready = c.requires.ready; beyond = c.requires.beyond }

pub overflow_add-group : goal.overflow_add-group
overflow_add-group g c =
    let low = next_low g.R.Rack (group_of (kept_of c.finish_group.new.uber) + 1) c.args.count (g.M.Metaslabs.last c.finish_group.new.metaslabs) c.requires.some c.finish_group.ensures.ready in
    let is = c.committed-group.ensures in
    omega (arith, low, is)

pub close_each-requires : goal.close_each-requires
close_each-requires g c =
    let e = c.finish_group.ensures in
    record {
      fits = e.fits;
      own = ap (λ (owns : ℕ → Bool). owns groups_number) e.owns ∙ c.requires.own;
      next = subst (λ n. EachIs c.args.count (ClosesNext g.R.Rack (n + 1)) (g.M.Metaslabs.last c.finish_group.new.metaslabs)) (sym c.committed-group.ensures) e.ready;
    }

pub returns-in_default : goal.returns-in_default
returns-in_default g c = (let e = c.finish_group.ensures in record { fits = e.fits; locks = e.locks; owns = e.owns; valid = e.valid; ready = e.ready; beyond = e.beyond; whole = e.whole; may = tt; begins = c.in_default.ensures.finishes })

pub returns-in-Err : goal.returns-in-Err
returns-in-Err g c =
    let e = c.finish_group.ensures in
    record {
      fits = e.fits;
      locks = e.locks;
      owns = e.owns;
      valid = e.valid;
      ready = e.ready;
      beyond = e.beyond;
      whole = e.whole;
      may = tt;
      begins = inl (subst (λ it. FinishesIn g.R.Rack g.A.Area g.M.Metaslabs.last g.M.Metaslabs.went g.M.Metaslabs.shared (g.M.Metaslabs.owns c.args.metaslabs.now) c.args.count c.args.metaslabs.now c.args.uber.now (Some it) c.finish_group.new.metaslabs c.finish_group.new.uber) c.in-Err.is c.in-Some.ensures.finishes);
    }

pub returns-in-Ok-close_each : goal.returns-in-Ok-close_each
returns-in-Ok-close_each g c =
    let e = c.finish_group.ensures in
    let f = c.close_each.ensures in
    let group = c.committed-group.result + 1 in
    let first : Syncing = record { group = group; next = 0; thin = 0 } in
    let came : BeginsIn g.R.Rack g.A.Area g.M.Metaslabs.last g.M.Metaslabs.went g.M.Metaslabs.shared (g.M.Metaslabs.owns c.args.metaslabs.now) c.args.count c.args.metaslabs.now c.args.uber.now (Some (Ok first)) c.close_each.new.metaslabs c.finish_group.new.uber = (
      c.finish_group.new.metaslabs,
      subst (λ it. FinishesIn g.R.Rack g.A.Area g.M.Metaslabs.last g.M.Metaslabs.went g.M.Metaslabs.shared (g.M.Metaslabs.owns c.args.metaslabs.now) c.args.count c.args.metaslabs.now c.args.uber.now (Some it) c.finish_group.new.metaslabs c.finish_group.new.uber) c.in-Ok.is c.in-Some.ensures.finishes,
      record { group_is = ap (λ n. n + 1) c.committed-group.ensures; next = refl; thin = refl },
      subst (λ owns. ClosesEach g.R.Rack g.A.Area g.M.Metaslabs.last g.M.Metaslabs.went g.M.Metaslabs.shared owns group c.args.count c.finish_group.new.metaslabs (Ok tt) c.close_each.new.metaslabs) e.owns c.in-Ok-close_each.ensures.closes,
    ) in
    let ready = begin_ready g.R.Rack g.A.Area g.M.Metaslabs.last g.M.Metaslabs.went g.M.Metaslabs.shared (g.M.Metaslabs.owns c.args.metaslabs.now) c.requires.own c.args.count c.args.metaslabs.now c.close_each.new.metaslabs c.args.uber.now c.finish_group.new.uber c.requires.ready c.requires.beyond (Some (Ok first)) came in
    record {
      fits = f.fits;
      locks = f.locks ∙ e.locks;
      owns = f.owns ∙ e.owns;
      valid = e.valid;
      ready = ready.0;
      beyond = ready.1;
      whole = λ table seq floor w. begin_whole g.R.Rack g.A.Area g.M.Metaslabs.last g.M.Metaslabs.went g.M.Metaslabs.shared (g.M.Metaslabs.owns c.args.metaslabs.now) c.requires.own c.args.count table seq floor c.requires.some c.args.metaslabs.now c.close_each.new.metaslabs c.args.uber.now c.finish_group.new.uber c.requires.ready c.requires.beyond w (Some (Ok first)) came;
      may = record { stands = stands_first g.R.Rack g.A.Area c.args.count group first (g.M.Metaslabs.last c.close_each.new.metaslabs) (record { group_is = refl; next = refl; thin = refl }) c.in-Ok-close_each.ensures.next; next = ap (λ n. n + 1) c.committed-group.ensures };
      begins = came;
    }

pub returns-in-Err-close_each : goal.returns-in-Err-close_each
returns-in-Err-close_each g c =
    let e = c.finish_group.ensures in
    let f = c.close_each.ensures in
    let group = c.committed-group.result + 1 in
    let why = c.in-Err-close_each.fault in
    let came : BeginsIn g.R.Rack g.A.Area g.M.Metaslabs.last g.M.Metaslabs.went g.M.Metaslabs.shared (g.M.Metaslabs.owns c.args.metaslabs.now) c.args.count c.args.metaslabs.now c.args.uber.now (Some (Err why)) c.close_each.new.metaslabs c.finish_group.new.uber = inr (
      c.finish_group.new.metaslabs,
      subst (λ it. FinishesIn g.R.Rack g.A.Area g.M.Metaslabs.last g.M.Metaslabs.went g.M.Metaslabs.shared (g.M.Metaslabs.owns c.args.metaslabs.now) c.args.count c.args.metaslabs.now c.args.uber.now (Some it) c.finish_group.new.metaslabs c.finish_group.new.uber) c.in-Ok.is c.in-Some.ensures.finishes,
      subst (λ n. ClosesEach g.R.Rack g.A.Area g.M.Metaslabs.last g.M.Metaslabs.went g.M.Metaslabs.shared (g.M.Metaslabs.owns c.args.metaslabs.now) n c.args.count c.finish_group.new.metaslabs (Err why) c.close_each.new.metaslabs) (ap (λ n. n + 1) c.committed-group.ensures)
          (subst (λ owns. ClosesEach g.R.Rack g.A.Area g.M.Metaslabs.last g.M.Metaslabs.went g.M.Metaslabs.shared owns group c.args.count c.finish_group.new.metaslabs (Err why) c.close_each.new.metaslabs) e.owns c.in-Err-close_each.ensures.closes),
    ) in
    let ready = begin_ready g.R.Rack g.A.Area g.M.Metaslabs.last g.M.Metaslabs.went g.M.Metaslabs.shared (g.M.Metaslabs.owns c.args.metaslabs.now) c.requires.own c.args.count c.args.metaslabs.now c.close_each.new.metaslabs c.args.uber.now c.finish_group.new.uber c.requires.ready c.requires.beyond (Some (Err why)) came in
    record {
      fits = f.fits;
      locks = f.locks ∙ e.locks;
      owns = f.owns ∙ e.owns;
      valid = e.valid;
      ready = ready.0;
      beyond = ready.1;
      whole = λ table seq floor w. begin_whole g.R.Rack g.A.Area g.M.Metaslabs.last g.M.Metaslabs.went g.M.Metaslabs.shared (g.M.Metaslabs.owns c.args.metaslabs.now) c.requires.own c.args.count table seq floor c.requires.some c.args.metaslabs.now c.close_each.new.metaslabs c.args.uber.now c.finish_group.new.uber c.requires.ready c.requires.beyond w (Some (Err why)) came;
      may = tt;
      begins = came;
    }
