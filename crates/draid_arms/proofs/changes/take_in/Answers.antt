use Rattle.std.proofs.Common.{◌≡◌, ◌∙◌, ap}
use Rattle.draid_machine.specs.After.{attached_core}
use Rattle.draid_world.specs.World.{core_of, names_at, site_layout, state_of}
use Rattle.draid_world.proofs.Maps.{ok_map, on_ok}
use Rattle.draid_arms.proofs.Changed.{joined_core, moved_made, rearranged_made}
use Rattle.draid_arms.proofs.changes.take_in.Goals as goal

pub returns-clause-moved : goal.returns-clause-moved
returns-clause-moved c =
    let l = site_layout c.args.site.now in
    let w = state_of c.args.world.now in
    let q = attached_core w.core c.args.slot c.args.name c.args.last in
    let now = core_of (record c.args.world.now.tables { arms = c.enter_arm.new.arms; order = c.join.new.order }) in
    let same : now ≡ q = joined_core w.core now c.args.slot c.args.name c.args.last _ c.in_ok-arm.ensures c.in_ok-enter_arm.ensures c.in_ok-join.ensures in
    let orders : names_at c.deref-2.result.now ≡ w.core.order =
    λ i k. (ap (λ vs. names_at vs k) c.deref-2.ensures.value ∙ c.in_ok-before.ensures k ∙ ap (λ vs. names_at vs k) c.deref.ensures.value) i in
    ok_map c.rearrange.result _ _ (λ moved is m. is m ∙ moved_made l w q.arm q.order now (names_at c.deref-2.result.now) m same orders) c.rearrange.ensures.moved

pub returns-clause-made : goal.returns-clause-made
returns-clause-made c =
    let l = site_layout c.args.site.now in
    let w = state_of c.args.world.now in
    let q = attached_core w.core c.args.slot c.args.name c.args.last in
    let now = core_of (record c.args.world.now.tables { arms = c.enter_arm.new.arms; order = c.join.new.order }) in
    let same : now ≡ q = joined_core w.core now c.args.slot c.args.name c.args.last _ c.in_ok-arm.ensures c.in_ok-enter_arm.ensures c.in_ok-join.ensures in
    let orders : names_at c.deref-2.result.now ≡ w.core.order =
    λ i k. (ap (λ vs. names_at vs k) c.deref-2.ensures.value ∙ c.in_ok-before.ensures k ∙ ap (λ vs. names_at vs k) c.deref.ensures.value) i in
    on_ok c.rearrange.result (λ made. rearranged_made l w c.args.last q.arm q.order now (names_at c.deref-2.result.now) (state_of c.rearrange.new.world) made same orders) c.rearrange.ensures.made
