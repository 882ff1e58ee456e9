use Rattle.std.proofs.Common.{◌∙◌, ap, length, refl, sym}
use Rattle.std.specs.Prelude.{remove}
use Rattle.draid_slots.specs.Faults.{HasLeafBeside}
use Rattle.draid_slots.specs.Table.{arms_of, has_leaf}
use Rattle.draid_slots.proofs.Refusals.{one_beside}
use Rattle.draid_disks.proofs.Going.{each_goes}
use Rattle.draid_disks.proofs.checks.detach_fault.Goals as goal

pub unreachable-requires : goal.unreachable-requires
unreachable-requires g c =
    let slots = c.args.slots.now in
    let leaf : HasLeafBeside slots c.args.at = ap (λ arms. has_leaf (remove arms c.args.at.arm)) (sym c.arms.ensures.arms) ∙ sym c.has_leaf_beside.ensures ∙ c.if-not-has_leaf_beside.false in
    one_beside (arms_of slots c.args.at.slot) c.args.at.arm (length (arms_of slots c.args.at.slot)) c.requires.there leaf refl c.in-None.ensures

pub returns-in-Some-eq0-clause-none : goal.returns-in-Some-eq0-clause-none
returns-in-Some-eq0-clause-none g c =
    let slots = c.args.slots.now in
    let leaf : HasLeafBeside slots c.args.at = ap (λ arms. has_leaf (remove arms c.args.at.arm)) (sym c.arms.ensures.arms) ∙ sym c.has_leaf_beside.ensures ∙ c.if-not-has_leaf_beside.false in
    each_goes slots c.args.shards.now c.args.at c.requires.slot c.requires.alike c.requires.there leaf c.in_default.ensures.none (c.in-Some-eq0.ensures.1 c.in-Some-eq0.field-0-test)

pub returns-in-Some-eq0-clause-whole : goal.returns-in-Some-eq0-clause-whole
returns-in-Some-eq0-clause-whole g c = c.in-Some-eq0.ensures.1 c.in-Some-eq0.field-0-test
