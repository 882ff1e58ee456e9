use Rattle.std.proofs.Common.{◌+◌, ◌++◌, ◌∷◌, ◌∙◌, [], ap, length, arith}
use Rattle.std.proofs.lemmas.List.{length-append}
use Rattle.draid_machine.specs.declared.names.ArmName.TheVariants.{Leaf}
use Rattle.draid_world.specs.World.{names_at}
use Rattle.draid_replay.proofs.Creation.{none_in, order_step}
use Rattle.draid_replay.proofs.new.new_order.Goals as goal

pub loop-slot-init : goal.loop-slot-init
loop-slot-init c = (ap length c.new-order.ensures.items, λ k. ap (λ vs. names_at vs k) c.new-order.ensures.items ∙ none_in 0 k (omega arith))

pub loop-slot-preserved : goal.loop-slot-preserved
loop-slot-preserved c =
    let old = c.loop-slot.order.items in
    let names = c.push.new.self in
    let is = c.in_ok-push-2.ensures.items in (
      ap length is ∙ length-append old (names ∷ []) ∙ ap (λ n. n + 1) c.loop-slot.invariant.0,
      λ k. order_step old c.push-in-loop-slot.new.self.items names c.loop-slot.slot c.from.result k c.loop-slot.invariant.0 is c.from.ensures
          (c.in_ok-push.ensures.items ∙ ap (λ ns. ns ++ Leaf c.from.result ∷ []) c.new-names.ensures.items) c.loop-slot.invariant.1,
    )
