use Rattle.std.proofs.Common.{◌∙◌, ℕ, Bool, Some, inl, ap, subst}
use Rattle.std.specs.Prelude.{IfOk}
use Rattle.draid_pool.specs.Drifts.{groups_number}
use Rattle.draid_pool.specs.GoingOn.{BeginsIn, GoesOnIn, MayGoOn}
use Rattle.draid_pool.specs.Threads.{KeepsWhole, all_of}
use Rattle.draid_pool.proofs.GoneSync.{stopped_of, syncs_of}
use Rattle.draid_pool.proofs.phases.sync_groups.Goals as goal

pub begin_sync-requires : goal.begin_sync-requires
begin_sync-requires g c = record { fits = c.requires.fits; some = c.requires.some; few = c.requires.few; own = c.requires.own; valid = c.requires.valid; ready = c.requires.ready; beyond = c.requires.beyond }

pub go_on_sync-requires : goal.go_on_sync-requires
go_on_sync-requires g c =
    let e = c.begin_sync.ensures in
    record {
      fits = e.fits;
      some = c.requires.some;
      few = c.requires.few;
      own = ap (λ (owns : ℕ → Bool). owns groups_number) e.owns ∙ c.requires.own;
      valid = e.valid;
      may = subst (λ it. IfOk it (λ syncing. MayGoOn g.R.Rack c.args.count syncing c.begin_sync.new.uber (g.M.Metaslabs.last c.begin_sync.new.metaslabs))) c.in-Ok.is c.in-Some.ensures.may;
      beyond = e.beyond;
    }

pub returns-in_default : goal.returns-in_default
returns-in_default g c = (let e = c.begin_sync.ensures in record { fits = e.fits; locks = e.locks; owns = e.owns; valid = e.valid; ready = e.ready; beyond = e.beyond; whole = e.whole; syncs = inl c.in_default.ensures.begins })

pub returns-in-Ok : goal.returns-in-Ok
returns-in-Ok g c =
    let e = c.begin_sync.ensures in
    let f = c.go_on_sync.ensures in
    record {
      fits = f.fits;
      locks = f.locks ∙ e.locks;
      owns = f.owns ∙ e.owns;
      valid = f.valid;
      ready = f.ready;
      beyond = f.beyond;
      whole = λ table seq floor w. subst (λ owns. KeepsWhole g.R.Rack owns (all_of owns) (g.M.Metaslabs.last c.begin_sync.new.metaslabs) (g.M.Metaslabs.last c.go_on_sync.new.metaslabs)) e.owns f.whole table seq floor (e.whole table seq floor w);
      syncs = syncs_of g.R.Rack g.A.Area g.M.Metaslabs.last g.M.Metaslabs.went g.M.Metaslabs.shared (g.M.Metaslabs.owns c.args.metaslabs.now) c.args.count c.args.metaslabs.now c.begin_sync.new.metaslabs c.go_on_sync.new.metaslabs c.in-Ok.begun c.go_on_sync.new.syncing c.args.uber.now c.begin_sync.new.uber c.go_on_sync.new.uber c.go_on_sync.result
          (subst (λ it. BeginsIn g.R.Rack g.A.Area g.M.Metaslabs.last g.M.Metaslabs.went g.M.Metaslabs.shared (g.M.Metaslabs.owns c.args.metaslabs.now) c.args.count c.args.metaslabs.now c.args.uber.now (Some it) c.begin_sync.new.metaslabs c.begin_sync.new.uber) c.in-Ok.is c.in-Some.ensures.begins)
          (subst (λ owns. GoesOnIn g.R.Rack g.A.Area g.M.Metaslabs.last g.M.Metaslabs.went g.M.Metaslabs.shared owns c.args.count c.begin_sync.new.metaslabs c.in-Ok.begun c.begin_sync.new.uber c.go_on_sync.result c.go_on_sync.new.metaslabs c.go_on_sync.new.syncing c.go_on_sync.new.uber) e.owns f.goes);
    }

pub returns-in-Err : goal.returns-in-Err
returns-in-Err g c =
    let e = c.begin_sync.ensures in
    record {
      fits = e.fits;
      locks = e.locks;
      owns = e.owns;
      valid = e.valid;
      ready = e.ready;
      beyond = e.beyond;
      whole = e.whole;
      syncs = stopped_of g.R.Rack g.A.Area g.M.Metaslabs.last g.M.Metaslabs.went g.M.Metaslabs.shared (g.M.Metaslabs.owns c.args.metaslabs.now) c.args.count c.args.metaslabs.now c.begin_sync.new.metaslabs c.args.uber.now c.begin_sync.new.uber c.in-Err.fault
          (subst (λ it. BeginsIn g.R.Rack g.A.Area g.M.Metaslabs.last g.M.Metaslabs.went g.M.Metaslabs.shared (g.M.Metaslabs.owns c.args.metaslabs.now) c.args.count c.args.metaslabs.now c.args.uber.now (Some it) c.begin_sync.new.metaslabs c.begin_sync.new.uber) c.in-Err.is c.in-Some.ensures.begins);
    }
