use Rattle.std.proofs.Common.{◌≡◌, ◌<◌, ◌^◌, ℕ, [], true, List, length, map, arith, sym, ap, ◌∙◌, subst}
use Rattle.std.specs.Prelude.{All}
use Rattle.std.proofs.lemmas.List.{get_or-map, length-map}
use Rattle.draid_names.specs.declared.arm.Arm.{Arm}
use Rattle.draid_slots.specs.Table.{SlotTable, arms_in, is_spare_kind}
use Rattle.draid_slots.proofs.slots.Slots.first_spare_of.Goals as goal

pub first_spare-requires : goal.first_spare-requires
first_spare-requires c =
    let s = c.self.inside in
    let slots = s.slots.items in
    let sound = c.self.invariant.sound in
    let N : SlotTable → Type 0 = λ t. c.args.slot < t.geometry.spec.children in
    let below : c.args.slot < s.geometry.spec.children = subst N (sym c.self.view_is) c.requires.slot in
    let many = sound.slots.children in
    let within : c.args.slot < length (map arms_in slots) = omega (arith, below, many) in
    let is = sound.slots.each c.args.slot [] within in
    let few = sound.layout.geometry_is.spec.most_spares in
    let P : List Arm → Type 0 = λ arms. All (λ (arm : Arm). is_spare_kind arm.kind ≡ true → arm.number < 2 ^ 32) arms in
    subst P (get_or-map arms_in slots c.args.slot c.index.result.now [] (omega (arith, within, length-map slots arms_in)) ∙ ap arms_in (sym c.index.ensures) ∙ sym c.deref.ensures.value)
    (λ k d inside kind. let low = is.pooled k d inside kind in omega (arith, low, few))
