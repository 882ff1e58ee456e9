use Rattle.std.proofs.Common.{◌≡◌, ◌≤◌, ◌<◌, List, [], length, map, arith, sym, ap, ◌∙◌, subst}
use Rattle.std.proofs.lemmas.List.{get_or-map, length-map}
use Rattle.draid_names.specs.declared.arm.Arm.{Arm}
use Rattle.draid_slots.specs.Table.{SlotTable, arms_in, arms_of}
use Rattle.draid_slots.proofs.slots.Slots.arms.Goals as goal

pub returns-clause-few : goal.returns-clause-few
returns-clause-few c =
    let s = c.self.inside in
    let slots = s.slots.items in
    let T : SlotTable → Type 0 = λ t. c.args.slot < t.geometry.spec.children in
    let within : c.args.slot < length (map arms_in slots) = (let there : c.args.slot < s.geometry.spec.children = subst T (sym c.self.view_is) c.requires in let many = c.self.invariant.sound.slots.children in omega arith) in
    let below : c.args.slot < length slots = omega (arith, within, length-map slots arms_in) in
    let is = c.self.invariant.sound.slots.each c.args.slot [] within in
    let most = is.most in
    let found = get_or-map arms_in slots c.args.slot c.index.result.now [] below in
    let L : List Arm → Type 0 = λ arms. length arms ≤ 3 in
    subst L (found ∙ ap arms_in (sym c.index.ensures) ∙ sym c.as_slice.ensures.value) most

pub index-requires : goal.index-requires
index-requires c =
    let s = c.self.inside in
    let slots = s.slots.items in
    let T : SlotTable → Type 0 = λ t. c.args.slot < t.geometry.spec.children in
    let within : c.args.slot < length (map arms_in slots) = (let there : c.args.slot < s.geometry.spec.children = subst T (sym c.self.view_is) c.requires in let many = c.self.invariant.sound.slots.children in omega arith) in
    omega (arith, within, length-map slots arms_in, s.slots.ok.0)

pub returns-clause-arms : goal.returns-clause-arms
returns-clause-arms c =
    let s = c.self.inside in
    let slots = s.slots.items in
    let T : SlotTable → Type 0 = λ t. c.args.slot < t.geometry.spec.children in
    let A : SlotTable → Type 0 = λ t. c.as_slice.result.now ≡ arms_of t c.args.slot in
    let within : c.args.slot < length (map arms_in slots) = (let there : c.args.slot < s.geometry.spec.children = subst T (sym c.self.view_is) c.requires in let many = c.self.invariant.sound.slots.children in omega arith) in
    let found = get_or-map arms_in slots c.args.slot c.index.result.now [] (omega (arith, within, length-map slots arms_in)) in
    subst A c.self.view_is (c.as_slice.ensures.value ∙ ap arms_in c.index.ensures ∙ sym found)
