use Rattle.std.proofs.Common.{◌∙◌, Ok, Err, ap, sym, subst}
use Rattle.std.specs.Prelude.{nat_eq}
use Rattle.std.specs.HashMap.{get}
use Rattle.draid_checkpoint.specs.Check.{Point}
use Rattle.draid_pool.specs.declared.fault.Synced.{Synced}
use Rattle.draid_pool.proofs.Rises.{areas_on, rose_then}
use Rattle.draid_pool.proofs.Wholes.{same_pointers}
use Rattle.draid_rewinds.specs.Back.{Reverted}
use Rattle.draid_rewinds.specs.Tables.{AreNewestBorn, AreValid}
use Rattle.draid_rewinds.specs.declared.fault.Rewound.{Rewound}
use Rattle.draid_rewinds.proofs.Comes.{comes, rewind_none, rewind_starved, rewind_stopped, rewind_unfinished, rewound_by}
use Rattle.draid_rewinds.proofs.Whys.{back_shelf}
use Rattle.draid_rewinds.proofs.rewinding.rewind.Goals as goal

pub returns-in-Err : goal.returns-in-Err
returns-in-Err g c =
    record {
      whole = c.in-Err.ensures.whole;
      later = c.in-Err.ensures.later;
      cause = λ is. c.in-Err.ensures.cause (back_shelf {T = Rewound} {U = Unit} c.in-Err.why is);
      none = λ is. absurd (cc is);
      room = λ is. absurd (cc is);
      carries = λ x r. rewind_unfinished g.R.Rack g.A.Area c.finish.new.self x c.in-Err.why (c.in-Err.ensures.carries x r);
    }

pub returns-in_default-group : goal.returns-in_default-group
returns-in_default-group g c =
    let mid = c.finish.new.self in
    let first = c.in_default.ensures in
    let none = ap (λ (p : Point). p.group) (sym c.point.ensures) ∙ (sym c.group.ensures ∙ c.in_default-group.is) in
    record {
      whole = first.whole;
      later = first.later;
      cause = λ is. absurd (cc is);
      none = λ is. same_pointers c.args.pool.now mid first.objects;
      room = λ is. absurd (cc is);
      carries = λ x r. rewind_none g.R.Rack g.A.Area mid x (first.carries x r) none;
    }

pub newest_born-requires : goal.newest_born-requires
newest_born-requires g c = record { valid = subst (AreValid g.R.Rack) (sym c.deref.ensures.value) (λ m shard there. (c.in_default.ensures.whole.shards m shard there).valid) }

pub returns-in_default-newest_born : goal.returns-in_default-newest_born
returns-in_default-newest_born g c =
    let mid = c.finish.new.self in
    let first = c.in_default.ensures in
    let some = ap (λ (p : Point). p.group) (sym c.point.ensures) ∙ (sym c.group.ensures ∙ c.in-Some.is) in
    record {
      whole = first.whole;
      later = first.later;
      cause = λ is. absurd (cc is);
      none = λ is. absurd (cc is);
      room = λ is. same_pointers c.args.pool.now mid first.objects;
      carries = λ x r. rewind_starved g.R.Rack g.A.Area mid x (first.carries x r) c.in-Some.group some;
    }

pub go_back-requires : goal.go_back-requires
go_back-requires g c =
    let some = ap (λ (p : Point). p.group) (sym c.point.ensures) ∙ (sym c.group.ensures ∙ c.in-Some.is) in
    record {
      whole = c.in_default.ensures.whole;
      idle = c.in_default.ensures.idle;
      some = some;
      objects = subst (λ zs. AreNewestBorn zs c.in-Some.group (get nat_eq c.in-Ok.objects)) c.deref.ensures.value c.in-Ok.ensures;
    }

pub returns-in-Ok-sync : goal.returns-in-Ok-sync
returns-in-Ok-sync g c =
    let old = c.args.pool.now in
    let mid = c.finish.new.self in
    let late = c.go_back.new.pool in
    let new = c.sync.new.self in
    let first = c.in_default.ensures in
    let goes = c.go_back.ensures in
    let last = c.in-Ok-sync.ensures in
    let faults = g.A.Area.faults in
    record {
      whole = last.whole;
      later = areas_on faults old late new (areas_on faults old mid late first.later goes.later) last.later;
      cause = λ is. absurd (cc is);
      none = λ is. absurd (cc is);
      room = λ is. absurd (cc is);
      carries = λ x r. rewound_by g.R.Rack g.A.Area new x c.in-Ok-sync.synced c.objects.result c.objects.ensures.state
          (comes g.R.Rack g.A.Area Reverted old mid late new x (Ok c.in-Ok-sync.synced) r first.whole first.idle (first.carries x r) goes.carries last.carries);
    }

pub returns-in-Err-sync : goal.returns-in-Err-sync
returns-in-Err-sync g c =
    let old = c.args.pool.now in
    let mid = c.finish.new.self in
    let late = c.go_back.new.pool in
    let new = c.sync.new.self in
    let first = c.in_default.ensures in
    let goes = c.go_back.ensures in
    let last = c.in-Err-sync.ensures in
    let faults = g.A.Area.faults in
    let before = areas_on faults old mid late first.later goes.later in
    record {
      whole = last.whole;
      later = areas_on faults old late new before last.later;
      cause = λ is. rose_then faults old late new before (last.cause (back_shelf {T = Rewound} {U = Synced} c.in-Err-sync.why is));
      none = λ is. absurd (cc is);
      room = λ is. absurd (cc is);
      carries = λ x r. rewind_stopped g.R.Rack g.A.Area new x c.in-Err-sync.why
          (comes g.R.Rack g.A.Area Reverted old mid late new x (Err c.in-Err-sync.why) r first.whole first.idle (first.carries x r) goes.carries last.carries);
    }
