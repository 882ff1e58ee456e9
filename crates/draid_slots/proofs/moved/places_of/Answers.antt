use Rattle.std.proofs.Common.{◌≡◌, ◌<◌, ◌^◌, [], true, All, List, map, arith, refl, sym, ap, ◌∙◌, subst}
use Rattle.std.specs.Option.{option_map}
use Rattle.std.proofs.lemmas.List.{get_or-map, length-map}
use Rattle.draid_names.specs.declared.arm.Arm.{Arm}
use Rattle.draid_slots.specs.Moves.{leaf_number}
use Rattle.draid_slots.specs.Table.{arms_in, first_spare, has_leaf, is_spare_kind}
use Rattle.draid_slots.proofs.Lasting.{all_places, none_in, places_more}
use Rattle.draid_slots.proofs.moved.places_of.Goals as goal

pub loop-slot-init : goal.loop-slot-init
loop-slot-init c = record {
  used = λ k below. absurd (omega arith);
  rest = λ k past. none_in 64 k;
  leaves = λ k below. absurd (omega arith);
  many = refl;
  as_many = refl;
}

pub first_spare-requires : goal.first_spare-requires
first_spare-requires c =
    let N : List Arm → Type 0 = λ arms. All (λ (arm : Arm). is_spare_kind arm.kind ≡ true → arm.number < 2 ^ 32) arms in
    subst N (sym c.deref.ensures.value) (c.requires.numbers c.loop-slot.slot c.index-slots-slot.result c.loop-slot-test.true)

pub first_leaf-requires : goal.first_leaf-requires
first_leaf-requires c =
    ap has_leaf c.deref-in-loop-slot.ensures.value
    ∙ c.requires.leaves c.loop-slot.slot c.index-slots-slot-in-loop-slot.result c.loop-slot-test.true

pub loop-slot-preserved : goal.loop-slot-preserved
loop-slot-preserved c =
    let slots = c.args.slots.now in
    let spares = get_or-map arms_in slots c.loop-slot.slot c.index-slots-slot.result [] c.loop-slot-test.true ∙ sym c.deref.ensures.value in
    let leaves = get_or-map arms_in slots c.loop-slot.slot c.index-slots-slot-in-loop-slot.result [] c.loop-slot-test.true ∙ sym c.deref-in-loop-slot.ensures.value in
    places_more (map arms_in slots) c.loop-slot.places.used c.loop-slot.places.leaves c.loop-slot.slot c.first_leaf.result.number c.first_spare.result
    (let most = c.requires.most in let below = c.loop-slot-test.true in omega arith) c.loop-slot.invariant
    (c.first_spare.ensures ∙ ap first_spare (sym spares))
    (ap leaf_number leaves ∙ ap (option_map (λ (arm : Arm). arm.number)) c.first_leaf.ensures)

pub returns : goal.returns
returns c = all_places (map arms_in c.args.slots.now) c.loop-slot.places c.loop-slot.slot (omega (arith, length-map c.args.slots.now arms_in)) c.loop-slot.invariant
