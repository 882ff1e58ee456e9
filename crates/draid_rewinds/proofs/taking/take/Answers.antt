use Rattle.std.proofs.Common.{◌∙◌, ◌+◌, ap, arith, sym, subst}
use Rattle.std.specs.Prelude.{Some, nat_eq}
use Rattle.std.specs.HashMap.{get}
use Rattle.draid_uber.specs.Slots.{group_of}
use Rattle.draid_uber.specs.Uber.{kept_of, point_of}
use Rattle.draid_pool.specs.Pools.{HasNames}
use Rattle.draid_pool.specs.declared.fault.Synced.{Synced}
use Rattle.draid_pool.proofs.Rises.{areas_on, err_on, rose_then}
use Rattle.draid_pool.proofs.Wholes.{same_pointers}
use Rattle.draid_pool.specs.declared.fault.SyncFault.TheVariants as sync
use Rattle.draid_rewinds.proofs.Taken.{take_done, take_unclosed}
use Rattle.draid_rewinds.proofs.WholeThen.{may_give_low}
use Rattle.draid_rewinds.proofs.taking.take.Goals as goal

pub overflow_add-group : goal.overflow_add-group
overflow_add-group g c = (let low = may_give_low g.R.Rack g.A.Area c.args.pool.now c.requires.whole c.requires.idle in let same = c.committed-group.ensures in omega (arith, low, same))

pub close_all-requires : goal.close_all-requires
close_all-requires g c = record { whole = c.requires.whole; next = ap (λ n. n + 1) c.committed-group.ensures }

pub returns-in-Err : goal.returns-in-Err
returns-in-Err g c =
    let old = c.args.pool.now in
    let new = c.close_all.new.pool in
    let e = c.in-Err.ensures in
    record {
      whole = e.whole;
      same = same_pointers old new (λ i. (e.own i).objects);
      later = e.later;
      cause = λ is. absurd (e.not_shelf (err_on Synced Unit c.in-Err.why sync.Shelf is));
      carries = λ x r low. take_unclosed g.R.Rack g.A.Area old new x (c.committed-group.result + 1) c.in-Err.why r c.requires.none (ap (λ n. n + 1) c.committed-group.ensures) (e.carries x r);
    }

pub make-requires : goal.make-requires
make-requires g c =
    let e = c.in_default.ensures in
    let room = c.requires.room in
    record {
      whole = e.whole;
      next = ap (λ n. n + 1) c.committed-group.ensures ∙ ap (λ u. group_of (kept_of u) + 1) (sym e.uber);
      closing = e.closing;
      none = (λ i. (point_of (e.uber i)).group) ∙ c.requires.none;
      room = record {
        group_is = room.group_is ∙ ap (λ u. Some (group_of (kept_of u) + 1)) (sym e.uber);
        new = room.new;
        objects = room.objects;
        names = subst (λ o. HasNames (get nat_eq o) room.objects) (λ i. (sym e.own i).objects) room.names;
        room = room.room;
        few = room.few;
      };
    }

pub go_on-requires : goal.go_on-requires
go_on-requires g c = record { whole = c.make.ensures.whole; next = c.make.ensures.next; closing = c.make.ensures.closing }

pub returns : goal.returns
returns g c =
    let old = c.args.pool.now in
    let mid = c.close_all.new.pool in
    let late = c.make.new.pool in
    let new = c.go_on.new.pool in
    let e = c.in_default.ensures in
    let m = c.make.ensures in
    let o = c.go_on.ensures in
    let faults = g.A.Area.faults in
    let before = areas_on faults old mid late e.later m.later in
    record {
      whole = o.whole;
      same = same_pointers old new ((λ i. (o.own i).objects) ∙ ((λ i. (m.own i).objects) ∙ (λ i. (e.own i).objects)));
      later = areas_on faults old late new before o.later;
      cause = λ is. rose_then faults old late new before (o.cause is);
      carries = λ x r low.
          take_done g.R.Rack g.A.Area old mid late new x (c.committed-group.result + 1) r c.requires.idle low (ap (λ n. n + 1) c.committed-group.ensures) (e.carries x r) m.makes c.go_on.result o.carries;
    }
