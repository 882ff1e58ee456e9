use Rattle.std.proofs.Common.{◌∷◌, ◌∙◌, ℕ}
use Rattle.draid_pool.specs.declared.fault.SyncFault.TheVariants as sync
use Rattle.draid_pool.specs.declared.fault.Synced.{Synced}
use Rattle.draid_pool.proofs.Rises.{areas_on, err_on, rose_then}
use Rattle.draid_pool.proofs.Wholes.{same_pointers}
use Rattle.draid_changes.proofs.Balanced.{all_alone, alone_on, no_passes_on}
use Rattle.draid_changes.proofs.OthersGo.{go_done, go_refused, go_stopped}
use Rattle.draid_changes.proofs.balancing.detach_and_sync.Goals as goal

pub detach_but_last-requires : goal.detach_but_last-requires
detach_but_last-requires g c = record { whole = c.requires.whole; idle = c.requires.idle; passes = c.requires.passes; go = c.requires.go }

pub returns-in-Err : goal.returns-in-Err
returns-in-Err g c =
    let mid = c.detach_but_last.new.pool in
    let e = c.in-Err.ensures in
    record {
      whole = e.whole;
      same = same_pointers c.args.pool.now mid e.objects;
      later = e.later;
      cause = λ is. absurd (e.not_shelf (err_on ℕ Unit c.in-Err.why sync.Shelf is));
      passes = e.passes;
      carries = λ x others last is may. go_refused g.R.Rack g.A.Area c.args.slot others mid mid x c.in-Err.why (e.carries x others last is may);
      alone = tt;
    }

pub sync-requires : goal.sync-requires
sync-requires g c = record { whole = c.in_default.ensures.whole }

pub returns-in-Ok : goal.returns-in-Ok
returns-in-Ok g c =
    let old = c.args.pool.now in
    let mid = c.detach_but_last.new.pool in
    let new = c.sync.new.self in
    let e = c.in_default.ensures in
    let s = c.in-Ok.ensures in
    let go = c.requires.go in
    record {
      whole = s.whole;
      same = λ object. s.same object ∙ same_pointers old mid e.objects object;
      later = areas_on g.A.Area.faults old mid new e.later s.later;
      cause = λ is. absurd (cc is);
      passes = no_passes_on mid new s.passes e.passes;
      carries = λ x others last is may. go_done g.R.Rack g.A.Area c.args.slot others mid new x c.in-Ok.synced (e.carries x others last is may) s.carries;
      alone = alone_on c.args.slot mid new s.arms (all_alone g.R.Rack c.args.slot go.2 mid (e.alone (go.0 ∷ go.1) go.2 go.3));
    }

pub returns-in-Err-sync : goal.returns-in-Err-sync
returns-in-Err-sync g c =
    let old = c.args.pool.now in
    let mid = c.detach_but_last.new.pool in
    let new = c.sync.new.self in
    let e = c.in_default.ensures in
    let s = c.in-Err-sync.ensures in
    record {
      whole = s.whole;
      same = λ object. s.same object ∙ same_pointers old mid e.objects object;
      later = areas_on g.A.Area.faults old mid new e.later s.later;
      cause = λ is. rose_then g.A.Area.faults old mid new e.later (s.cause (err_on ℕ Synced c.in-Err-sync.why sync.Shelf is));
      passes = no_passes_on mid new s.passes e.passes;
      carries = λ x others last is may. go_stopped g.R.Rack g.A.Area c.args.slot others mid new x c.in-Err-sync.why (e.carries x others last is may) s.carries;
      alone = tt;
    }
