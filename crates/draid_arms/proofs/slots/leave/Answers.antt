use Rattle.std.proofs.Common.{◌≡◌, ◌∙◌, ◌<◌, ◌≤◌, not, Bool, filter, length, ap, sym, refl, rules}
use Rattle.draid_machine.specs.declared.names.ArmName.{ArmName}
use Rattle.draid_machine.specs.Names.{name_eq}
use Rattle.draid_machine.specs.After.{set_order}
use Rattle.draid_world.specs.World.{names_at}
use Rattle.draid_world.proofs.Maps.{names_here, names_past}
use Rattle.draid_arms.proofs.Orders.{names_set, order_same}
use Rattle.draid_arms.proofs.slots.leave.Goals as goal

pub returns-then-slot-len : goal.returns-then-slot-len
returns-then-slot-len c = λ k.
    let vs = c.args.order.now.items in
    let slot = c.args.slot in
    let less : slot < length vs = search rules in
    let test : ArmName → Bool = λ m. not (name_eq c.args.name m) in
    let at : names_at vs slot ≡ c.index_mut.result.now.items = names_here vs slot c.index_mut.result.now c.index_mut.result.now.items less c.index_mut.ensures.value refl in
    names_set vs slot c.take_out.new.names k less ∙ ap (λ ns. set_order (names_at vs) slot ns k) (c.take_out.ensures ∙ ap (filter test) (sym at))

pub returns-else-slot-len : goal.returns-else-slot-len
returns-else-slot-len c = λ k.
    let vs = c.args.order.now.items in
    let test : ArmName → Bool = λ m. not (name_eq c.args.name m) in
    let past : length vs ≤ c.args.slot = search rules in
    let none = names_past vs c.args.slot past in
    order_same (names_at vs) c.args.slot (filter test (names_at vs c.args.slot)) (none ∙ sym (ap (filter test) none)) k
