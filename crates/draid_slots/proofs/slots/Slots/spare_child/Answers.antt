use Rattle.std.proofs.Common.{◌≡◌, ◌<◌, ◌+◌, ◌*◌, ℕ, arith, ap, ap₂, sym, ◌∙◌, subst}
use Rattle.draid_chain.specs.Chain as chain
use Rattle.draid_slots.specs.Reading.{pool_slice}
use Rattle.draid_slots.specs.Table.{SlotTable}
use Rattle.draid_slots.proofs.slots.Slots.spare_child.Goals as goal

pub at_spare-requires-clause-geometry : goal.at_spare-requires-clause-geometry
at_spare-requires-clause-geometry c = c.self.invariant.sound.layout.geometry_is

pub at_spare-requires-clause-children : goal.at_spare-requires-clause-children
at_spare-requires-clause-children c = c.self.invariant.sound.layout.perms_are.children

pub at_spare-requires-clause-spare : goal.at_spare-requires-clause-spare
at_spare-requires-clause-spare c =
    let B : SlotTable → Type 0 = λ t. c.args.spare < t.geometry.spec.spares in
    subst B (sym c.self.view_is) c.requires.spare

pub returns-clause-slot : goal.returns-clause-slot
returns-clause-slot c =
    let slice = ap₂ (λ (m n : ℕ). m * n + c.args.slice) c.from.ensures c.from-2.ensures in
    subst (λ (t : SlotTable). c.at_spare.result ≡ chain.spare_slot t.perms (pool_slice t c.args.slice) c.args.spare) c.self.view_is
    (c.at_spare.ensures.slot ∙ ap (λ n. chain.spare_slot c.self.inside.perms n c.args.spare) slice)

pub returns-clause-below : goal.returns-clause-below
returns-clause-below c =
    let B : SlotTable → Type 0 = λ t. c.at_spare.result < t.geometry.spec.children in
    subst B c.self.view_is c.at_spare.ensures.below
