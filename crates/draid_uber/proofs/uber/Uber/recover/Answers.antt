use Rattle.std.proofs.Common.{◌≡◌, Ok, Some, OnOk, Result, IfOk, option_map, refl, subst}
use Rattle.draid_area.specs.Area.{OnTold, flushes}
use Rattle.draid_names.specs.declared.fault.DeviceFault.{DeviceFault}
use Rattle.draid_uber.specs.Slots.{chosen_of}
use Rattle.draid_uber.proofs.Layouts.{held_by}
use Rattle.draid_uber.proofs.Pointing.{none_positive, none_spelled}
use Rattle.draid_uber.proofs.Recovers.{Choice, refused, told_is}
use Rattle.draid_uber.proofs.uber.Uber.recover.Goals as goal

pub layout-requires : goal.layout-requires
layout-requires g c = c.chosen.ensures.ranges c.in-Ok.body c.in-Ok.ensures.body

pub returns-in-Ok : goal.returns-in-Ok
returns-in-Ok g c =
    let body = c.in-Ok.body in
    let is = c.in-Ok.ensures.body in
    let old = g.A.Area.told c.args.areas.uber in
    let ranges = c.chosen.ensures.ranges body is in
    let chosen : OnTold old (λ x. Some (Ok body) ≡ chosen_of x.bytes) = subst (λ (r : Result Choice DeviceFault). IfOk r (λ k. OnTold old (λ x. k ≡ chosen_of x.bytes))) is c.chosen.ensures.chosen in
    record {
      valid = record { held = held_by body c.layout.result ranges c.layout.ensures.whole c.layout.ensures.spec c.layout.ensures.props; long = c.chosen.ensures.long body is; spelled = λ group low small. none_spelled c.none.result group c.none.ensures.none small; positive = none_positive c.none.result c.none.ensures.none };
      finds = told_is old (Some (Ok body)) _ refl chosen;
      some = (refl, refl);
      ranges = ranges;
      point = c.none.ensures.none;
      drops = c.none.ensures.drops;
      changed = refl;
      crash = c.chosen.ensures.stands body is;
      flushed = subst (λ (r : Result Choice DeviceFault). OnOk r (g.A.Area.told c.chosen.new.area ≡ option_map flushes old)) is c.chosen.ensures.flushed;
      err = tt;
      empty = tt;
      later = c.chosen.ensures.later;
      err_later = tt;
      cause = tt;
      others = refl;
      err_others = tt;
    }

pub returns-in-Err : goal.returns-in-Err
returns-in-Err g c =
    let e = c.chosen.ensures in
    let r = refused c.in-Err.why c.chosen.result (g.A.Area.told c.args.areas.uber) _ _ c.in-Err.ensures.why e.chosen e.flushed e.err e.cause in
    record {
      valid = tt;
      finds = r.finds;
      some = tt;
      ranges = tt;
      point = tt;
      drops = tt;
      changed = tt;
      crash = tt;
      flushed = tt;
      err = r.err;
      empty = r.empty;
      later = tt;
      err_later = e.later;
      cause = r.cause;
      others = tt;
      err_others = refl;
    }
