use Rattle.std.proofs.Common.{◌∙◌, ℕ, Ok, Err, ap, arith, refl, sym}
use Rattle.draid_checkpoint.specs.Check.{Point}
use Rattle.draid_pool.specs.declared.fault.Synced.{Synced}
use Rattle.draid_pool.proofs.Rises.{areas_on, rose_then}
use Rattle.draid_pool.proofs.Wholes.{same_pointers}
use Rattle.draid_rewinds.proofs.Taken.{take_all, take_exists, take_starved, take_stopped, take_unfinished}
use Rattle.draid_rewinds.proofs.WholeThen.{may_give_low}
use Rattle.draid_rewinds.proofs.Whys.{take_shelf}
use Rattle.draid_rewinds.proofs.taking.checkpoint.Goals as goal

pub returns-in-Err : goal.returns-in-Err
returns-in-Err g c =
    record {
      whole = c.in-Err.ensures.whole;
      same = same_pointers c.args.pool.now c.finish.new.self c.in-Err.ensures.objects;
      later = c.in-Err.ensures.later;
      cause = λ is. c.in-Err.ensures.cause (take_shelf {T = ℕ} {U = Unit} c.in-Err.why is);
      carries = λ x r. take_unfinished g.R.Rack g.A.Area c.finish.new.self x c.in-Err.why (λ last. c.in-Err.ensures.not_last (ap Err last)) (c.in-Err.ensures.carries x r);
    }

pub returns-in-Some : goal.returns-in-Some
returns-in-Some g c =
    let old = c.args.pool.now in
    let mid = c.finish.new.self in
    let first = c.in_default.ensures in
    let some = ap (λ (p : Point). p.group) (sym c.point.ensures) ∙ (sym c.group.ensures ∙ c.in-Some.is) in
    record {
      whole = first.whole;
      same = same_pointers old mid first.objects;
      later = first.later;
      cause = λ is. absurd (cc is);
      carries = λ x r. take_exists g.R.Rack g.A.Area mid x (first.carries x r) c.in-Some.group some;
    }

pub point_for-requires : goal.point_for-requires
point_for-requires g c = (let low = may_give_low g.R.Rack g.A.Area c.finish.new.self c.in_default.ensures.whole c.in_default.ensures.idle in record { low = omega (arith, low) })

pub returns-in_default-point_for : goal.returns-in_default-point_for
returns-in_default-point_for g c =
    let old = c.args.pool.now in
    let mid = c.finish.new.self in
    let first = c.in_default.ensures in
    let none = ap (λ (p : Point). p.group) (sym c.point.ensures) ∙ (sym c.group.ensures ∙ c.in_default-group.is) in
    record {
      whole = first.whole;
      same = same_pointers old mid first.objects;
      later = first.later;
      cause = λ is. absurd (cc is);
      carries = λ x r. take_starved g.R.Rack g.A.Area mid x (first.carries x r) none;
    }

pub take-requires : goal.take-requires
take-requires g c =
    let none = ap (λ (p : Point). p.group) (sym c.point.ensures) ∙ (sym c.group.ensures ∙ c.in_default-group.is) in
    record { whole = c.in_default.ensures.whole; idle = c.in_default.ensures.idle; none = none; room = c.in-Ok.ensures }

pub returns-in-Ok-take : goal.returns-in-Ok-take
returns-in-Ok-take g c =
    let old = c.args.pool.now in
    let mid = c.finish.new.self in
    let first = c.in_default.ensures in
    let new = c.take.new.pool in
    let last = c.in-Ok-take.ensures in
    record {
      whole = last.whole;
      same = λ object. last.same object ∙ same_pointers old mid first.objects object;
      later = areas_on g.A.Area.faults old mid new first.later last.later;
      cause = λ is. absurd (cc is);
      carries = λ x r. take_all g.R.Rack g.A.Area old mid new x r first.whole first.idle (first.carries x r) (Ok c.in-Ok-take.synced) last.carries c.in-Ok-take.synced refl;
    }

pub returns-in-Err-take : goal.returns-in-Err-take
returns-in-Err-take g c =
    let old = c.args.pool.now in
    let mid = c.finish.new.self in
    let first = c.in_default.ensures in
    let new = c.take.new.pool in
    let last = c.in-Err-take.ensures in
    let why = c.in-Err-take.why in
    record {
      whole = last.whole;
      same = λ object. last.same object ∙ same_pointers old mid first.objects object;
      later = areas_on g.A.Area.faults old mid new first.later last.later;
      cause = λ is. rose_then g.A.Area.faults old mid new first.later (last.cause (take_shelf {T = ℕ} {U = Synced} why is));
      carries = λ x r. take_stopped g.R.Rack g.A.Area old mid new x r first.whole first.idle (first.carries x r) (Err why) last.carries why refl;
    }
