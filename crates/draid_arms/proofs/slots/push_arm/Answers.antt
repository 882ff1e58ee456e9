use Rattle.std.proofs.Common.{◌≡◌, ◌∙◌, ◌++◌, ◌∷◌, [], ap, sym, refl}
use Rattle.draid_machine.specs.After.{set_order}
use Rattle.draid_world.specs.World.{names_at}
use Rattle.draid_world.proofs.Maps.{names_here}
use Rattle.draid_arms.proofs.Orders.{names_set}
use Rattle.draid_arms.proofs.slots.push_arm.Goals as goal

pub returns : goal.returns
returns c = λ k.
    let vs = c.args.order.now.items in
    let slot = c.args.slot in
    let at : names_at vs slot ≡ c.index_mut.result.now.items = names_here vs slot c.index_mut.result.now c.index_mut.result.now.items c.requires.slot c.index_mut.ensures.value refl in
    names_set vs slot c.push.new.self k c.requires.slot
    ∙ ap (λ ns. set_order (names_at vs) slot ns k) (c.in_ok-push.ensures.items ∙ ap (λ ns. ns ++ c.args.name ∷ []) (sym at))
