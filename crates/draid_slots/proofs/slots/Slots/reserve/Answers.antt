use Rattle.draid_slots.proofs.Tables.{on_ok_passed}
use Rattle.std.proofs.Common.{◌≡◌, ◌-◌, length, map, arith, rules, refl, sym, subst, ap, ◌∙◌}
use Rattle.std.specs.Prelude.{vec_len, vec_capacity}
use Rattle.std.proofs.lemmas.List.{length-map}
use Rattle.draid_slots.specs.Changes.{IsRoomier, Keeps}
use Rattle.draid_slots.specs.Table.{SlotTable, arms_in, next_rooms, table_of}
use Rattle.draid_slots.proofs.Rooms.{all_rooms, length_rooms, rooms_kept, some_rooms}
use Rattle.draid_slots.proofs.Tables.{log_there, slot_there}
use Rattle.draid_slots.proofs.Reserved.{kept_same, keeps_same, roomier_by}
use Rattle.draid_slots.proofs.slots.Slots.reserve.Goals as goal

pub invariant_of-self : goal.invariant_of-self
invariant_of-self c =
    let s = c.self.inside in
    kept_same s.geometry s.perms s.metaslab s.slots.items c.reserve_slots.new.slots.items s.detached.items s.detached.items c.reserve_slots.ensures.arms c.reserve_slots.ensures.paired refl c.self.invariant

pub returns-in_err-reserve_slots-clause-kept : goal.returns-in_err-reserve_slots-clause-kept
returns-in_err-reserve_slots-clause-kept c =
    let s = c.self.inside in
    let K : SlotTable → Type 0 = λ t. Keeps t (table_of s.geometry s.perms s.metaslab c.reserve_slots.new.slots.items s.detached.items (next_rooms s.next.items) (vec_capacity s.detached - vec_len s.detached)) in
    subst K c.self.view_is
    (keeps_same s.geometry s.perms s.metaslab s.slots.items c.reserve_slots.new.slots.items s.detached.items s.detached.items (next_rooms s.next.items) (next_rooms s.next.items) (vec_capacity s.detached - vec_len s.detached) (vec_capacity s.detached - vec_len s.detached)
    c.reserve_slots.ensures.arms c.reserve_slots.ensures.logs refl)

pub returns-in_err-reserve_slots-clause-roomier : goal.returns-in_err-reserve_slots-clause-roomier
returns-in_err-reserve_slots-clause-roomier c =
    let s = c.self.inside in
    let R : SlotTable → Type 0 = λ t. IsRoomier t (table_of s.geometry s.perms s.metaslab c.reserve_slots.new.slots.items s.detached.items (next_rooms s.next.items) (vec_capacity s.detached - vec_len s.detached)) in
    subst R c.self.view_is
    (roomier_by s.geometry s.perms s.metaslab s.slots.items c.reserve_slots.new.slots.items s.detached.items s.detached.items (next_rooms s.next.items) (next_rooms s.next.items) (vec_capacity s.detached - vec_len s.detached) (vec_capacity s.detached - vec_len s.detached)
    c.reserve_slots.ensures.logs (omega arith) (λ k. omega arith) (omega arith))

pub invariant_of-self-in_err-reserve : goal.invariant_of-self-in_err-reserve
invariant_of-self-in_err-reserve c =
    let s = c.self.inside in
    kept_same s.geometry s.perms s.metaslab s.slots.items c.reserve_slots.new.slots.items s.detached.items c.reserve.new.self.items c.reserve_slots.ensures.arms c.reserve_slots.ensures.paired c.reserve.ensures.items c.self.invariant

pub returns-in_err-reserve-clause-kept : goal.returns-in_err-reserve-clause-kept
returns-in_err-reserve-clause-kept c =
    let s = c.self.inside in
    let K : SlotTable → Type 0 = λ t. Keeps t (table_of s.geometry s.perms s.metaslab c.reserve_slots.new.slots.items c.reserve.new.self.items (next_rooms s.next.items) (vec_capacity c.reserve.new.self - vec_len c.reserve.new.self)) in
    subst K c.self.view_is
    (keeps_same s.geometry s.perms s.metaslab s.slots.items c.reserve_slots.new.slots.items s.detached.items c.reserve.new.self.items (next_rooms s.next.items) (next_rooms s.next.items) (vec_capacity s.detached - vec_len s.detached) (vec_capacity c.reserve.new.self - vec_len c.reserve.new.self)
    c.reserve_slots.ensures.arms c.reserve_slots.ensures.logs c.reserve.ensures.items)

pub returns-in_err-reserve-clause-roomier : goal.returns-in_err-reserve-clause-roomier
returns-in_err-reserve-clause-roomier c =
    let s = c.self.inside in
    let R : SlotTable → Type 0 = λ t. IsRoomier t (table_of s.geometry s.perms s.metaslab c.reserve_slots.new.slots.items c.reserve.new.self.items (next_rooms s.next.items) (vec_capacity c.reserve.new.self - vec_len c.reserve.new.self)) in
    subst R c.self.view_is
    (roomier_by s.geometry s.perms s.metaslab s.slots.items c.reserve_slots.new.slots.items s.detached.items c.reserve.new.self.items (next_rooms s.next.items) (next_rooms s.next.items) (vec_capacity s.detached - vec_len s.detached) (vec_capacity c.reserve.new.self - vec_len c.reserve.new.self)
    c.reserve_slots.ensures.logs (omega arith) (λ k. omega arith) (search rules))

pub invariant_of-self-in_err-reserve_next : goal.invariant_of-self-in_err-reserve_next
invariant_of-self-in_err-reserve_next c =
    let s = c.self.inside in
    kept_same s.geometry s.perms s.metaslab s.slots.items c.reserve_slots.new.slots.items s.detached.items c.reserve.new.self.items c.reserve_slots.ensures.arms c.reserve_slots.ensures.paired c.reserve.ensures.items c.self.invariant

pub returns-in_err-reserve_next-clause-kept : goal.returns-in_err-reserve_next-clause-kept
returns-in_err-reserve_next-clause-kept c =
    let s = c.self.inside in
    let K : SlotTable → Type 0 = λ t. Keeps t (table_of s.geometry s.perms s.metaslab c.reserve_slots.new.slots.items c.reserve.new.self.items (next_rooms c.reserve_next.new.next.items) (vec_capacity c.reserve.new.self - vec_len c.reserve.new.self)) in
    subst K c.self.view_is
    (keeps_same s.geometry s.perms s.metaslab s.slots.items c.reserve_slots.new.slots.items s.detached.items c.reserve.new.self.items (next_rooms s.next.items) (next_rooms c.reserve_next.new.next.items) (vec_capacity s.detached - vec_len s.detached) (vec_capacity c.reserve.new.self - vec_len c.reserve.new.self)
    c.reserve_slots.ensures.arms c.reserve_slots.ensures.logs c.reserve.ensures.items)

pub returns-in_err-reserve_next-clause-roomier : goal.returns-in_err-reserve_next-clause-roomier
returns-in_err-reserve_next-clause-roomier c =
    let s = c.self.inside in
    let R : SlotTable → Type 0 = λ t. IsRoomier t (table_of s.geometry s.perms s.metaslab c.reserve_slots.new.slots.items c.reserve.new.self.items (next_rooms c.reserve_next.new.next.items) (vec_capacity c.reserve.new.self - vec_len c.reserve.new.self)) in
    subst R c.self.view_is
    (roomier_by s.geometry s.perms s.metaslab s.slots.items c.reserve_slots.new.slots.items s.detached.items c.reserve.new.self.items (next_rooms s.next.items) (next_rooms c.reserve_next.new.next.items) (vec_capacity s.detached - vec_len s.detached) (vec_capacity c.reserve.new.self - vec_len c.reserve.new.self)
    c.reserve_slots.ensures.logs (some_rooms s.next.items c.reserve_next.new.next.items c.reserve_next.ensures.count) (rooms_kept s.next.items c.reserve_next.new.next.items c.reserve_next.ensures.kept) (search rules))

pub invariant_of-self-2 : goal.invariant_of-self-2
invariant_of-self-2 c =
    let s = c.self.inside in
    kept_same s.geometry s.perms s.metaslab s.slots.items c.reserve_slots.new.slots.items s.detached.items c.reserve.new.self.items c.reserve_slots.ensures.arms c.reserve_slots.ensures.paired c.reserve.ensures.items c.self.invariant

pub returns-clause-kept : goal.returns-clause-kept
returns-clause-kept c =
    let s = c.self.inside in
    let K : SlotTable → Type 0 = λ t. Keeps t (table_of s.geometry s.perms s.metaslab c.reserve_slots.new.slots.items c.reserve.new.self.items (next_rooms c.reserve_next.new.next.items) (vec_capacity c.reserve.new.self - vec_len c.reserve.new.self)) in
    subst K c.self.view_is
    (keeps_same s.geometry s.perms s.metaslab s.slots.items c.reserve_slots.new.slots.items s.detached.items c.reserve.new.self.items (next_rooms s.next.items) (next_rooms c.reserve_next.new.next.items) (vec_capacity s.detached - vec_len s.detached) (vec_capacity c.reserve.new.self - vec_len c.reserve.new.self)
    c.reserve_slots.ensures.arms c.reserve_slots.ensures.logs c.reserve.ensures.items)

pub returns-clause-roomier : goal.returns-clause-roomier
returns-clause-roomier c =
    let s = c.self.inside in
    let R : SlotTable → Type 0 = λ t. IsRoomier t (table_of s.geometry s.perms s.metaslab c.reserve_slots.new.slots.items c.reserve.new.self.items (next_rooms c.reserve_next.new.next.items) (vec_capacity c.reserve.new.self - vec_len c.reserve.new.self)) in
    subst R c.self.view_is
    (roomier_by s.geometry s.perms s.metaslab s.slots.items c.reserve_slots.new.slots.items s.detached.items c.reserve.new.self.items (next_rooms s.next.items) (next_rooms c.reserve_next.new.next.items) (vec_capacity s.detached - vec_len s.detached) (vec_capacity c.reserve.new.self - vec_len c.reserve.new.self)
    c.reserve_slots.ensures.logs (some_rooms s.next.items c.reserve_next.new.next.items c.reserve_next.ensures.count) (rooms_kept s.next.items c.reserve_next.new.next.items c.reserve_next.ensures.kept) (search rules))

pub returns-clause-room : goal.returns-clause-room
returns-clause-room c =
    let old = c.self.inside.slots.items in
    let new = c.reserve_slots.new.slots.items in
    let same : length new ≡ length old = sym (length-map new arms_in) ∙ ap length c.reserve_slots.ensures.arms ∙ length-map old arms_in in
    record {
      logs = λ at there.
          let slot = slot_there (map arms_in new) at.slot at.arm there in
          c.in_ok-reserve_slots.ensures.reserved at (omega (arith, slot, same, length-map new arms_in)) (log_there new at.slot at.arm c.reserve_slots.ensures.paired there);
      arms_come = (let many = c.in_ok-reserve_next.ensures.arms in let long = length_rooms c.reserve_next.new.next.items in omega arith);
      arm_logs = all_rooms c.reserve_next.new.next.items c.args.changes c.in-Some.more (omega arith) c.in_ok-reserve_next.ensures.room;
      places = (let room = c.in_ok-reserve.ensures.ok in omega arith);
    }

pub returns-in_err-reserve_slots-clause-room : goal.returns-in_err-reserve_slots-clause-room
returns-in_err-reserve_slots-clause-room c = on_ok_passed _ c.from_residual.result _ c.from_residual.ensures.1

pub returns-in_err-reserve-clause-room : goal.returns-in_err-reserve-clause-room
returns-in_err-reserve-clause-room c = on_ok_passed _ c.from_residual-in_err-reserve.result _ c.from_residual-in_err-reserve.ensures.1

pub returns-in_err-reserve_next-clause-room : goal.returns-in_err-reserve_next-clause-room
returns-in_err-reserve_next-clause-room c = on_ok_passed _ c.from_residual-in_err-reserve_next.result _ c.from_residual-in_err-reserve_next.ensures.1
