use Rattle.std.proofs.Common.{◌≡◌, ◌<◌, [], map, length, arith, ap, sym, ◌∙◌, subst, refl}
use Rattle.std.proofs.lemmas.List.{map-set, length-map}
use Rattle.std.proofs.lemmas.List.Elements.{All-set}
use Rattle.draid_slots.specs.declared.slot.Slot.{Slot}
use Rattle.draid_slots.specs.Changes.{switched_arm}
use Rattle.draid_slots.specs.Table.{IsPaired, arms_in, logs_in}
use Rattle.draid_slots.proofs.Mapped.{mapped_more}
use Rattle.draid_slots.proofs.OneSlot.{arms_found, logs_kept}
use Rattle.draid_slots.proofs.lists.switch_all.Goals as goal

pub loop-at-preserved : goal.loop-at-preserved
loop-at-preserved c =
    let slots = c.loop-at.slots.items in
    let old : Slot = c.index_mut.result.now in
    let arms = c.switch.new.arms in
    let new : Slot = record { arms = arms; logs = old.logs } in
    let f = map (switched_arm c.args.leaf c.args.offline) in
    let many : length slots ≡ length c.args.slots.now.items = sym (length-map slots logs_in) ∙ ap length c.loop-at.invariant.logs ∙ length-map c.args.slots.now.items logs_in in
    let below : c.loop-at.at < length slots = omega arith in
    let within : c.loop-at.at < length (map arms_in c.args.slots.now.items) = omega (arith, length-map c.args.slots.now.items arms_in) in
    let was : IsPaired old = subst IsPaired (sym c.index_mut.ensures.value) (c.loop-at.invariant.paired c.loop-at.at old below) in
    record {
      paired = All-set IsPaired slots c.loop-at.at new
          (record { same = was.same ∙ sym (ap length c.switch.ensures.arms ∙ length-map old.arms.items (switched_arm c.args.leaf c.args.offline)); arm_room = (let room = was.arm_room in let kept = c.switch.ensures.capacity in omega arith); log_room = was.log_room })
          c.loop-at.invariant.paired;
      arms = map-set arms_in slots c.loop-at.at new
          ∙ mapped_more f (map arms_in c.args.slots.now.items) (map arms_in slots) c.loop-at.at [] arms.items within c.loop-at.invariant.arms
          (c.switch.ensures.arms ∙ ap f (sym (arms_found slots c.loop-at.at old below c.index_mut.ensures.value)));
      logs = logs_kept slots c.loop-at.at old new c.index_mut.ensures.value refl ∙ c.loop-at.invariant.logs;
    }

pub returns-clause-paired : goal.returns-clause-paired
returns-clause-paired c = c.loop-at.invariant.paired

pub returns-clause-logs : goal.returns-clause-logs
returns-clause-logs c = c.loop-at.invariant.logs
