use Rattle.std.proofs.Common.{◌-◌, [], List, map, get_or, refl, sym, ap, ◌∙◌, subst}
use Rattle.std.specs.Prelude.{slice_get, vec_len, vec_capacity}
use Rattle.draid_names.specs.declared.arm.Arm.{Arm}
use Rattle.draid_slots.specs.Changes.{ChangesArms, switched}
use Rattle.draid_slots.specs.Table.{AreOf, SlotTable, arms_in, next_rooms, table_of}
use Rattle.draid_slots.proofs.Names.{all_switched, arms_switched, slots_kept}
use Rattle.draid_slots.proofs.slots.Slots.set_offline.Goals as goal

pub invariant_of-self : goal.invariant_of-self
invariant_of-self c =
    let s = c.self.inside in
    let slots = s.slots.items in
    let S : List (List Arm) → Type 0 = λ arms. AreOf s.geometry s.perms s.metaslab arms s.detached.items in
    let sound = c.self.invariant.sound in
    record {
      paired = c.switch_all.ensures.paired;
      sound = subst S (sym c.switch_all.ensures.arms)
          (record {
            layout = sound.layout;
            low = sound.low;
            slots = slots_kept s.geometry (map arms_in slots) _ s.detached.items (all_switched c.args.leaf c.args.offline (map arms_in slots)) sound.slots;
          });
    }

pub returns : goal.returns
returns c =
    let s = c.self.inside in
    let slots = s.slots.items in
    let now : SlotTable = table_of s.geometry s.perms s.metaslab c.switch_all.new.slots.items s.detached.items (next_rooms s.next.items) (vec_capacity s.detached - vec_len s.detached) in
    let C : SlotTable → Type 0 = λ t. ChangesArms t now (switched c.args.leaf c.args.offline) in
    subst C c.self.view_is (record {
      same = record { geometry_is = refl; perms_are = refl; metaslab_is = refl };
      arms_are = λ at. ap (λ arms. slice_get (get_or arms at.slot []) at.arm) c.switch_all.ensures.arms ∙ arms_switched c.args.leaf c.args.offline (map arms_in slots) at;
      logs_stay = c.switch_all.ensures.logs;
      detached_stay = refl;
      next_stays = refl;
      places_stay = refl;
    })
