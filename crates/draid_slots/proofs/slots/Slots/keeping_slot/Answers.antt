use Rattle.std.proofs.Common.{◌≡◌, sym, ap, ◌∙◌}
use Rattle.draid_chain.specs.Chain.{holder_in}
use Rattle.draid_chain.specs.Used.{first_in}
use Rattle.draid_chain.proofs.Holders.{holder_stays}
use Rattle.draid_slots.specs.Reading.{pool_slice}
use Rattle.draid_slots.specs.Table.{first_spares}
use Rattle.draid_slots.proofs.slots.Slots.keeping_slot.Goals as goal

pub returns-in-None-clause-slot : goal.returns-in-None-clause-slot
returns-in-None-clause-slot c =
    let t = c.args.self.now in
    let own = c.spare_child-child.ensures.slot in
    own
    ∙ sym (holder_stays t.perms t.geometry.spec.spares (pool_slice t c.args.slice) c.args.slot c.args.spare (first_spares t)
    (ap (first_spares t) (sym own) ∙ (sym c.first_spare_of.ensures ∙ c.in-None.is)))

pub returns-in-Some-clause-slot : goal.returns-in-Some-clause-slot
returns-in-Some-clause-slot c =
    let t = c.args.self.now in
    let first : first_in c.places.result.used ≡ first_spares t = λ j k. c.places.ensures.places.used k j in
    c.spare_slot.ensures.slot ∙ ap (λ f. holder_in t.perms t.geometry.spec.spares (pool_slice t c.args.slice) f c.args.slot c.args.spare) first
