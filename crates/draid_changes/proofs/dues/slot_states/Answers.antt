use Rattle.std.proofs.Common.{◌≡◌, ◌+◌, [], ◌∷◌, ◌++◌, ◌∙◌, suc, List, ap, arith, sym}
use Rattle.draid_agent.specs.declared.states.SlotState.{SlotState}
use Rattle.draid_changes.specs.Dues.{shown_from, shown_of}
use Rattle.draid_changes.proofs.Shown.{shown_more}
use Rattle.draid_changes.proofs.dues.slot_states.Goals as goal

pub loop-slot-init : goal.loop-slot-init
loop-slot-init g c = c.new-states.ensures.items

pub loop-slot-preserved : goal.loop-slot-preserved
loop-slot-preserved g c =
    let l = c.loop-slot in
    let slots = c.args.slots.now in
    let shards = c.args.shards.now in
    let so_far : l.states.items ≡ shown_from slots shards 0 l.slot = l.invariant in
    let zero_on : l.slot ≡ 0 + l.slot = omega arith in
    c.in_ok-push.ensures.items ∙ ap (λ (states : List SlotState). states ++ c.slot_state.result ∷ []) so_far
    ∙ ap (λ (state : SlotState). shown_from slots shards 0 l.slot ++ state ∷ []) (c.slot_state.ensures ∙ ap (shown_of slots shards) zero_on)
    ∙ sym (shown_more slots shards 0 l.slot)
    ∙ ap (shown_from slots shards 0) (let on : suc l.slot ≡ l.slot + 1 = omega arith in on)

pub returns : goal.returns
returns g c =
    let l = c.loop-slot in
    let past = c.loop-slot-test.false in
    let most = l.auto.slot-end in
    let count = c.children-slot-end.ensures.count in
    let end : l.slot ≡ c.args.slots.now.geometry.spec.children = omega (arith, past, most, count) in
    l.invariant ∙ ap (shown_from c.args.slots.now c.args.shards.now 0) end
