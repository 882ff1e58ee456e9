use Rattle.std.proofs.Common.{◌<◌, ◌-◌, [], List, length, map, get_or, set, arith, refl, sym, ap, ◌∙◌, subst}
use Rattle.std.specs.Prelude.{slice_get, vec_len, vec_capacity}
use Rattle.std.specs.Vec.{with_item}
use Rattle.std.proofs.lemmas.List.{length-map, map-set, length-set}
use Rattle.std.proofs.lemmas.List.Elements.{All-set}
use Rattle.draid_names.specs.declared.arm.Arm.{Arm}
use Rattle.draid_slots.specs.declared.slot.Slot.{Slot}
use Rattle.draid_slots.specs.Changes.{ChangesArms, freshened}
use Rattle.draid_slots.specs.Table.{AreOf, IsPaired, IsThere, SlotTable, arms_in, next_rooms, table_of}
use Rattle.draid_slots.proofs.Names.{freshened_name, one_freshened, one_named, slots_kept}
use Rattle.draid_slots.proofs.OneSlot.{logs_kept}
use Rattle.draid_slots.proofs.Tables.{IsPlace, its_place, slot_there}
use Rattle.draid_slots.proofs.slots.Slots.set_fresh.Goals as goal

pub invariant_of-self : goal.invariant_of-self
invariant_of-self c =
    let s = c.self.inside in
    let slots = s.slots.items in
    let old : Slot = c.index_mut.result.now in
    let was : Arm = c.index_mut-2.result.now in
    let arm : Arm = record was { fresh = c.args.fresh } in
    let new : Slot = record { arms = with_item old.arms c.args.at.arm arm; logs = old.logs } in
    let T : SlotTable → Type 0 = λ t. IsThere t c.args.at in
    let place : IsPlace slots c.args.at old = its_place slots c.args.at old c.self.invariant.paired (subst T (sym c.self.view_is) c.requires.there) c.index_mut.ensures.value in
    let paired = place.paired in
    let within : c.args.at.slot < length (map arms_in slots) = (let below = place.slot_within in omega (arith, below, length-map slots arms_in)) in
    let S : List (List Arm) → Type 0 = λ arms. AreOf s.geometry s.perms s.metaslab arms s.detached.items in
    let sound = c.self.invariant.sound in
    record {
      paired = All-set IsPaired slots c.args.at.slot new
          (record { same = paired.same ∙ sym (length-set old.arms.items c.args.at.arm arm); arm_room = paired.arm_room; log_room = paired.log_room }) c.self.invariant.paired;
      sound = subst S (sym (map-set arms_in slots c.args.at.slot new))
          (record {
            layout = sound.layout;
            low = sound.low;
            slots = slots_kept s.geometry (map arms_in slots) _ s.detached.items
                (one_named (map arms_in slots) c.args.at old.arms.items arm was within place.arms_are (freshened_name was c.args.fresh) c.index_mut-2.ensures.value) sound.slots;
          });
    }

pub returns : goal.returns
returns c =
    let s = c.self.inside in
    let slots = s.slots.items in
    let old : Slot = c.index_mut.result.now in
    let was : Arm = c.index_mut-2.result.now in
    let arm : Arm = record was { fresh = c.args.fresh } in
    let new : Slot = record { arms = with_item old.arms c.args.at.arm arm; logs = old.logs } in
    let T : SlotTable → Type 0 = λ t. IsThere t c.args.at in
    let place : IsPlace slots c.args.at old = its_place slots c.args.at old c.self.invariant.paired (subst T (sym c.self.view_is) c.requires.there) c.index_mut.ensures.value in
    let within : c.args.at.slot < length (map arms_in slots) = (let below = place.slot_within in omega (arith, below, length-map slots arms_in)) in
    let now : SlotTable = table_of s.geometry s.perms s.metaslab (set slots c.args.at.slot new) s.detached.items (next_rooms s.next.items) (vec_capacity s.detached - vec_len s.detached) in
    let C : SlotTable → Type 0 = λ t. ChangesArms t now (freshened c.args.at c.args.fresh) in
    subst C c.self.view_is (record {
      same = record { geometry_is = refl; perms_are = refl; metaslab_is = refl };
      arms_are = λ other. ap (λ arms. slice_get (get_or arms other.slot []) other.arm) (map-set arms_in slots c.args.at.slot new)
          ∙ one_freshened (map arms_in slots) c.args.at other old.arms.items was c.args.fresh within place.arms_are place.arm_within c.index_mut-2.ensures.value;
      logs_stay = logs_kept slots c.args.at.slot old new c.index_mut.ensures.value refl;
      detached_stay = refl;
      next_stays = refl;
      places_stay = refl;
    })

pub index_mut-requires : goal.index_mut-requires
index_mut-requires c =
    let s = c.self.inside in
    let slots = s.slots.items in
    let T : SlotTable → Type 0 = λ t. IsThere t c.args.at in
    let below = slot_there (map arms_in slots) c.args.at.slot c.args.at.arm (subst T (sym c.self.view_is) c.requires.there) in
    omega (arith, below, length-map slots arms_in, s.slots.ok.0)

pub index_mut-requires-2 : goal.index_mut-requires-2
index_mut-requires-2 c =
    let s = c.self.inside in
    let slots = s.slots.items in
    let T : SlotTable → Type 0 = λ t. IsThere t c.args.at in
    let old : Slot = c.index_mut.result.now in
    let place : IsPlace slots c.args.at old = its_place slots c.args.at old c.self.invariant.paired (subst T (sym c.self.view_is) c.requires.there) c.index_mut.ensures.value in
    let below = place.arm_within in
    omega (arith, below, old.arms.ok.0)
