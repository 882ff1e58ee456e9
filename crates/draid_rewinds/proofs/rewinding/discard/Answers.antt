use Rattle.std.proofs.Common.{◌∙◌, Ok, Err, ap, sym}
use Rattle.draid_checkpoint.specs.Check.{Point}
use Rattle.draid_pool.specs.declared.fault.Synced.{Synced}
use Rattle.draid_pool.proofs.Rises.{areas_on, rose_then}
use Rattle.draid_pool.proofs.Wholes.{same_pointers}
use Rattle.draid_rewinds.specs.Back.{LetsGo}
use Rattle.draid_rewinds.specs.declared.fault.Discarded.{Discarded}
use Rattle.draid_rewinds.proofs.Comes.{comes, discard_none, discard_stopped, discard_unfinished, discarded_by}
use Rattle.draid_rewinds.proofs.Whys.{back_shelf, none_by, some_by}
use Rattle.draid_rewinds.proofs.rewinding.discard.Goals as goal

pub returns-in-Err : goal.returns-in-Err
returns-in-Err g c =
    record {
      whole = c.in-Err.ensures.whole;
      same = same_pointers c.args.pool.now c.finish.new.self c.in-Err.ensures.objects;
      later = c.in-Err.ensures.later;
      cause = λ is. c.in-Err.ensures.cause (back_shelf {T = Discarded} {U = Unit} c.in-Err.why is);
      room = λ is. absurd (cc is);
      carries = λ x r. discard_unfinished g.R.Rack g.A.Area c.finish.new.self x 0 c.in-Err.why (c.in-Err.ensures.carries x r);
    }

pub returns-then-is_none : goal.returns-then-is_none
returns-then-is_none g c =
    let old = c.args.pool.now in
    let mid = c.finish.new.self in
    let first = c.in_default.ensures in
    let none = ap (λ (p : Point). p.group) (sym c.point.ensures) ∙ (sym c.group.ensures ∙ none_by c.group.result c.is_none.result c.is_none.ensures c.if-is_none.true) in
    record {
      whole = first.whole;
      same = same_pointers old mid first.objects;
      later = first.later;
      cause = λ is. absurd (cc is);
      room = λ is. absurd (cc is);
      carries = λ x r. discard_none g.R.Rack g.A.Area mid x 0 (first.carries x r) none;
    }

pub let_go-freed-requires : goal.let_go-freed-requires
let_go-freed-requires g c = record {
  whole = c.in_default.ensures.whole;
  idle = c.in_default.ensures.idle;
  some = λ none. some_by c.group.result c.is_none.result c.is_none.ensures c.if-is_none.false (c.group.ensures ∙ (ap (λ (p : Point). p.group) c.point.ensures ∙ none));
}

pub returns-in-Ok : goal.returns-in-Ok
returns-in-Ok g c =
    let old = c.args.pool.now in
    let mid = c.finish.new.self in
    let first = c.in_default.ensures in
    let late = c.let_go-freed.new.pool in
    let new = c.sync.new.self in
    let lets = c.let_go-freed.ensures in
    let last = c.in-Ok.ensures in
    let faults = g.A.Area.faults in
    record {
      whole = last.whole;
      same = λ object. last.same object ∙ (lets.same object ∙ same_pointers old mid first.objects object);
      later = areas_on faults old late new (areas_on faults old mid late first.later lets.later) last.later;
      cause = λ is. absurd (cc is);
      room = λ is. absurd (cc is);
      carries = λ x r. discarded_by g.R.Rack g.A.Area new x c.let_go-freed.result c.in-Ok.synced
          (comes g.R.Rack g.A.Area (λ at store holds after. LetsGo at store c.let_go-freed.result holds after) old mid late new x (Ok c.in-Ok.synced) r first.whole first.idle (first.carries x r) lets.carries last.carries);
    }

pub returns-in-Err-sync : goal.returns-in-Err-sync
returns-in-Err-sync g c =
    let old = c.args.pool.now in
    let mid = c.finish.new.self in
    let first = c.in_default.ensures in
    let late = c.let_go-freed.new.pool in
    let new = c.sync.new.self in
    let lets = c.let_go-freed.ensures in
    let last = c.in-Err-sync.ensures in
    let faults = g.A.Area.faults in
    let before = areas_on faults old mid late first.later lets.later in
    record {
      whole = last.whole;
      same = λ object. last.same object ∙ (lets.same object ∙ same_pointers old mid first.objects object);
      later = areas_on faults old late new before last.later;
      cause = λ is. rose_then faults old late new before (last.cause (back_shelf {T = Discarded} {U = Synced} c.in-Err-sync.why is));
      room = λ is. absurd (cc is);
      carries = λ x r. discard_stopped g.R.Rack g.A.Area new x c.let_go-freed.result c.in-Err-sync.why
          (comes g.R.Rack g.A.Area (λ at store holds after. LetsGo at store c.let_go-freed.result holds after) old mid late new x (Err c.in-Err-sync.why) r first.whole first.idle (first.carries x r) lets.carries last.carries);
    }
