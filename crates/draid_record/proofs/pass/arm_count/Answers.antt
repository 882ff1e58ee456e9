use Rattle.std.proofs.Common.{◌≡◌, ◌≤◌, ◌<◌, ◌+◌, [], List, length, drop, ap, subst, sym, ◌∙◌, arith, Vec, Global}
use Rattle.std.proofs.lemmas.List.{at_drop_more, get_or-map, length-map}
use Rattle.draid_names.specs.declared.arm.Arm.{Arm}
use Rattle.draid_ranges.specs.Numbers.{Numbers}
use Rattle.draid_record.specs.Record.{ArmTold, arm_count, told_arm, told_slot, told_slots}
use Rattle.draid_record.proofs.pass.arm_count.Goals as goal

pub loop-list-preserved : goal.loop-list-preserved
loop-list-preserved c =
    let all : List (Vec (Arm × Numbers) Global) = c.args.all.now in
    let k = c.loop-list.list-index in
    let x : Vec (Arm × Numbers) Global = c.list-item.result in
    let below : k < length all = omega arith in
    let rest = arm_count (told_slots (drop (k + 1) all)) in
    let step : arm_count (told_slots (drop k all)) ≡ length (told_slot x.items) + rest =
    at_drop_more (λ (xs : List (Vec (Arm × Numbers) Global)). arm_count (told_slots xs)) all k x below
    ∙ ap (λ (y : Vec (Arm × Numbers) Global). length (told_slot y.items) + rest) (sym c.list-item.is) in
    let same : length (told_slot x.items) ≡ length x.items = length-map x.items told_arm in
    let P : List ArmTold → Type 0 = λ list. length list ≤ 3 in
    let few : length (told_slot x.items) ≤ 3 =
    subst P (get_or-map (λ (list : Vec (Arm × Numbers) Global). told_slot list.items) all k x [] below ∙ ap (λ (list : Vec (Arm × Numbers) Global). told_slot list.items) (sym c.list-item.is))
    (c.requires k [] (omega (arith, below, length-map all (λ (list : Vec (Arm × Numbers) Global). told_slot list.items)))) in
    let was = c.loop-list.invariant.rest in
    let small = c.loop-list.invariant.small in
    let len = c.len.ensures in
    record { rest = omega (arith, x.ok.0); small = omega (arith, x.ok.0) }
