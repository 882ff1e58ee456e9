use Rattle.std.proofs.Common.{subst}
use Rattle.draid_pool.specs.Grouping.{ClosesNext}
use Rattle.draid_pool.specs.Rounds.{EachIs}
use Rattle.draid_pool.proofs.GoneOn.{goes_waits, stands_next}
use Rattle.draid_pool.proofs.SyncWhole.{go_ready, go_whole}
use Rattle.draid_pool.proofs.phases.go_on_sync.Goals as goal

pub seal_and_commit-requires : goal.seal_and_commit-requires
seal_and_commit-requires g c = record { fits = c.requires.fits; some = c.requires.some; few = c.requires.few; own = c.requires.own; valid = c.requires.valid; may = c.requires.may }

pub returns : goal.returns
returns g c =
    let f = c.seal_and_commit.ensures in
    let may = c.requires.may in
    let at_first = subst (λ n. EachIs c.args.count (ClosesNext g.R.Rack n) (g.M.Metaslabs.last c.args.metaslabs.now)) may.next (stands_next g.R.Rack g.A.Area c.args.count c.args.syncing.now (g.M.Metaslabs.last c.args.metaslabs.now) may.stands) in
    let ready = go_ready g.R.Rack g.A.Area g.M.Metaslabs.last g.M.Metaslabs.went g.M.Metaslabs.shared (g.M.Metaslabs.owns c.args.metaslabs.now) c.requires.own c.args.count c.args.metaslabs.now c.seal_and_commit.new.metaslabs c.args.uber.now c.seal_and_commit.new.uber at_first c.requires.beyond c.args.syncing.now c.seal_and_commit.new.syncing c.seal_and_commit.result may.next f.goes in
    record {
      fits = f.fits;
      locks = f.locks;
      owns = f.owns;
      valid = f.valid;
      ready = ready.0;
      beyond = ready.1;
      whole = λ table seq floor w. go_whole g.R.Rack g.A.Area g.M.Metaslabs.last g.M.Metaslabs.went g.M.Metaslabs.shared (g.M.Metaslabs.owns c.args.metaslabs.now) c.requires.own c.args.count table seq floor c.requires.some c.args.metaslabs.now c.seal_and_commit.new.metaslabs c.args.uber.now c.seal_and_commit.new.uber at_first c.requires.beyond w c.args.syncing.now c.seal_and_commit.new.syncing c.seal_and_commit.result may.next f.goes;
      may = λ none. record { stands = f.stands none; next = goes_waits g.R.Rack g.A.Area g.M.Metaslabs.last g.M.Metaslabs.went g.M.Metaslabs.shared (g.M.Metaslabs.owns c.args.metaslabs.now) c.args.count c.args.metaslabs.now c.seal_and_commit.new.metaslabs c.args.syncing.now c.seal_and_commit.new.syncing c.args.uber.now c.seal_and_commit.new.uber c.seal_and_commit.result none f.goes may.next };
      goes = f.goes;
    }
