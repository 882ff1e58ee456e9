use Rattle.std.proofs.Common.{◌≡◌, ◌-◌, List, map, arith, refl, sym, subst, rules}
use Rattle.std.specs.Prelude.{filter, nat_lt, vec_len, vec_capacity}
use Rattle.std.proofs.lemmas.Fn.{filter_same}
use Rattle.draid_slots.specs.declared.slot.Detached.{Detached}
use Rattle.draid_slots.specs.Changes.{Commits}
use Rattle.draid_slots.specs.Table.{AreKept, SlotTable, arms_in, next_rooms, table_of}
use Rattle.draid_slots.proofs.Spares.{later_only}
use Rattle.draid_slots.proofs.slots.Slots.commit.Goals as goal

pub invariant_of-self : goal.invariant_of-self
invariant_of-self c =
    let s = c.self.inside in
    let D : List Detached → Type 0 = λ detached. AreKept s.geometry s.perms s.metaslab s.slots.items detached in
    let kept : c.retain.new.self.items ≡ filter (λ (gone : Detached). nat_lt c.args.group gone.group) s.detached.items = filter_same _ _ _ (λ x b f' k. search rules) _ _ c.retain.ensures.filtered in
    let sound = c.self.invariant.sound in
    subst D (sym kept) (record {
      paired = c.self.invariant.paired;
      sound = record { layout = sound.layout; low = sound.low; slots = later_only s.geometry (map arms_in s.slots.items) s.detached.items (λ (gone : Detached). nat_lt c.args.group gone.group) sound.slots };
    })

pub returns : goal.returns
returns c =
    let s = c.self.inside in
    let now : SlotTable = table_of s.geometry s.perms s.metaslab s.slots.items c.retain.new.self.items (next_rooms s.next.items) (vec_capacity c.retain.new.self - vec_len c.retain.new.self) in
    let C : SlotTable → Type 0 = λ t. Commits t now c.args.group in
    subst C c.self.view_is (record {
      same = record { geometry_is = refl; perms_are = refl; metaslab_is = refl };
      arms_stay = refl;
      logs_stay = refl;
      detached_later = filter_same _ _ _ (λ x b f' k. search rules) _ _ c.retain.ensures.filtered;
      next_stays = refl;
      places_more = (let bound = c.retain.ensures.bound in let room = c.retain.ensures.capacity in omega arith);
    })
