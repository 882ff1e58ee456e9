use Rattle.std.proofs.Common.{map, arith, sym, subst}
use Rattle.std.specs.Prelude.{◌-◌, vec_len, vec_capacity}
use Rattle.std.proofs.lemmas.List.{length-map}
use Rattle.draid_slots.specs.declared.slot.Slot.{Slot}
use Rattle.draid_slots.specs.Table.{IsThere, SlotTable, arms_in, next_rooms}
use Rattle.draid_slots.proofs.Logging as one
use Rattle.draid_slots.proofs.Tables.{IsPlace, its_place, slot_there}
use Rattle.draid_slots.proofs.slots.Slots.set_log.Goals as goal

pub invariant_of-self : goal.invariant_of-self
invariant_of-self c =
    let s = c.self.inside in
    one.log_kept s.geometry s.perms s.metaslab s.slots.items s.detached.items (next_rooms s.next.items) (vec_capacity s.detached - vec_len s.detached) _ c.self.view_is c.args.at c.requires.there c.self.invariant c.index_mut.result.now c.index_mut.ensures.value
    c.args.log

pub returns : goal.returns
returns c =
    let s = c.self.inside in
    one.log_set s.geometry s.perms s.metaslab s.slots.items s.detached.items (next_rooms s.next.items) (vec_capacity s.detached - vec_len s.detached) _ c.self.view_is c.args.at c.requires.there c.self.invariant c.index_mut.result.now c.index_mut.ensures.value
    c.args.log

pub index_mut-requires : goal.index_mut-requires
index_mut-requires c =
    let s = c.self.inside in
    let slots = s.slots.items in
    let T : SlotTable → Type 0 = λ t. IsThere t c.args.at in
    let below = slot_there (map arms_in slots) c.args.at.slot c.args.at.arm (subst T (sym c.self.view_is) c.requires.there) in
    omega (arith, below, length-map slots arms_in, s.slots.ok.0)

pub index_mut-requires-2 : goal.index_mut-requires-2
index_mut-requires-2 c =
    let s = c.self.inside in
    let slots = s.slots.items in
    let T : SlotTable → Type 0 = λ t. IsThere t c.args.at in
    let old : Slot = c.index_mut.result.now in
    let place : IsPlace slots c.args.at old = its_place slots c.args.at old c.self.invariant.paired (subst T (sym c.self.view_is) c.requires.there) c.index_mut.ensures.value in
    let below = place.log_within in
    omega (arith, below, old.logs.ok.0)
