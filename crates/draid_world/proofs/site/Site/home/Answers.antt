use Rattle.std.proofs.Common.{◌≡◌, ◌-◌, ◌+◌, Some, None, arith, sym, ap, ◌∙◌}
use Rattle.draid_chain.specs.Chain.{chain_end, spare_slot}
use Rattle.draid_machine.specs.Arms.{first_spare, first_spares}
use Rattle.draid_world.specs.World.{names_at}
use Rattle.draid_world.proofs.Chains.{end_from, end_is, ended, further, passed_all}
use Rattle.draid_world.proofs.site.Site.home.Goals as goal

pub loop-passed-init : goal.loop-passed-init
loop-passed-init c =
    let perms = c.args.self.now.perms in
    let first = first_spares (names_at c.args.order.now) in
    let spares = c.args.self.now.geometry.spec.spares in
    let slice = c.slice_of-slice.result in
    let all : spares - 0 ≡ spares = omega arith in
    ap (λ m. end_from (spare_slot perms slice) first m c.slot_at_spare-slot.result) all
    ∙ ap (λ slot. end_from (spare_slot perms slice) first spares slot) c.slot_at_spare-slot.ensures
    ∙ sym (end_is (spare_slot perms slice) first spares c.args.spare)
    ∙ ap (λ q. chain_end (spare_slot perms q) first spares c.args.spare) c.slice_of-slice.ensures

pub returns-in-None : goal.returns-in-None
returns-in-None c =
    let none : first_spares (names_at c.args.order.now) c.loop-passed.slot ≡ None = sym (ap first_spare c.names_of.ensures) ∙ sym c.first_spare.ensures ∙ c.in-None.is in
    sym (ended (spare_slot c.args.self.now.perms c.slice_of-slice.result) (first_spares (names_at c.args.order.now)) c.args.self.now.geometry.spec.spares c.loop-passed._passed c.loop-passed.slot
    c.loop-passed-test.true none)
    ∙ c.loop-passed.invariant

pub loop-passed-preserved : goal.loop-passed-preserved
loop-passed-preserved c =
    let first = first_spares (names_at c.args.order.now) in
    let slot_at = spare_slot c.args.self.now.perms c.slice_of-slice.result in
    let spares = c.args.self.now.geometry.spec.spares in
    let there : first c.loop-passed.slot ≡ Some c.in-Some.next = sym (ap first_spare c.names_of.ensures) ∙ sym c.first_spare.ensures ∙ c.in-Some.is in
    ap (λ slot. end_from slot_at first (spares - (c.loop-passed._passed + 1)) slot) c.slot_at_spare-slot-in-Some.ensures
    ∙ further slot_at first spares c.loop-passed._passed c.loop-passed.slot c.in-Some.next c.loop-passed-test.true there
    ∙ c.loop-passed.invariant

pub returns : goal.returns
returns c =
    sym (passed_all (spare_slot c.args.self.now.perms c.slice_of-slice.result) (first_spares (names_at c.args.order.now)) c.args.self.now.geometry.spec.spares c.loop-passed._passed c.loop-passed.slot
    c.loop-passed-test.false)
    ∙ c.loop-passed.invariant
