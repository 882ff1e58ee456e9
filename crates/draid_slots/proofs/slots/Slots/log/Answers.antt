use Rattle.std.proofs.Common.{◌≡◌, ◌<◌, [], length, map, get_or, arith, sym, subst}
use Rattle.std.proofs.lemmas.List.{length-map}
use Rattle.draid_slots.specs.declared.slot.Slot.{Slot}
use Rattle.draid_slots.specs.Table.{IsThere, SlotTable, arms_in, log_at}
use Rattle.draid_slots.proofs.Tables.{IsPlace, its_place, log_found, slot_there}
use Rattle.draid_slots.proofs.slots.Slots.log.Goals as goal

pub index-requires : goal.index-requires
index-requires c =
    let s = c.self.inside in
    let slots = s.slots.items in
    let T : SlotTable → Type 0 = λ t. IsThere t c.args.at in
    let there : c.args.at.arm < length (get_or (map arms_in slots) c.args.at.slot []) = subst T (sym c.self.view_is) c.requires in
    let below = slot_there (map arms_in slots) c.args.at.slot c.args.at.arm there in
    omega (arith, below, length-map slots arms_in, s.slots.ok.0)

pub index-requires-2 : goal.index-requires-2
index-requires-2 c =
    let s = c.self.inside in
    let slots = s.slots.items in
    let T : SlotTable → Type 0 = λ t. IsThere t c.args.at in
    let there : c.args.at.arm < length (get_or (map arms_in slots) c.args.at.slot []) = subst T (sym c.self.view_is) c.requires in
    let slot : Slot = c.index.result.now in
    let place : IsPlace slots c.args.at slot = its_place slots c.args.at slot c.self.invariant.paired there c.index.ensures in
    let below = place.log_within in
    omega (arith, below, slot.logs.ok.0)

pub returns : goal.returns
returns c =
    let s = c.self.inside in
    let slots = s.slots.items in
    let T : SlotTable → Type 0 = λ t. IsThere t c.args.at in
    let there : c.args.at.arm < length (get_or (map arms_in slots) c.args.at.slot []) = subst T (sym c.self.view_is) c.requires in
    let slot : Slot = c.index.result.now in
    let place : IsPlace slots c.args.at slot = its_place slots c.args.at slot c.self.invariant.paired there c.index.ensures in
    let L : SlotTable → Type 0 = λ t. c.index-2.result.now ≡ log_at t c.args.at in
    subst L c.self.view_is (sym (log_found slots c.args.at slot c.index-2.result.now place c.index-2.ensures))
