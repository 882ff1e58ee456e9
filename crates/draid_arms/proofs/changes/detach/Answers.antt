use Rattle.std.proofs.lemmas.Bool.{true≢false}
use Rattle.std.proofs.Common.{◌≡◌, ◌∙◌, ap, sym}
use Rattle.draid_machine.specs.After.{detached_core}
use Rattle.draid_world.specs.World.{core_of, names_at, site_layout, state_of}
use Rattle.draid_arms.proofs.Changed.{rearranged_made}
use Rattle.draid_arms.proofs.changes.detach.Goals as goal

pub returns-clause-legal : goal.returns-clause-legal
returns-clause-legal c = λ e.
    let l = site_layout c.args.site.now in
    let w = state_of c.args.world.now in
    let may = c.if-not-may_detach.ensures.yes e in
    let last = c.last_group-last.result in
    let q = detached_core w.core c.args.slot c.args.name may.a w.open_group in
    let now = core_of (record c.args.world.now.tables { arms = c.set_gone.new.arms; order = c.leave.new.order }) in
    let same : now ≡ q = λ i. record w.core { arm = λ m. c.set_gone.ensures may.a may.found m i; order = λ k. c.leave.ensures k i } in
    let orders : names_at c.deref-2.result.now ≡ w.core.order =
    λ i k. (ap (λ vs. names_at vs k) c.deref-2.ensures.value ∙ c.in_ok-before.ensures k ∙ ap (λ vs. names_at vs k) c.deref.ensures.value) i in
    record {
      a = may.a;
      last = last;
      listed = may.listed;
      found = may.found;
      idle = may.idle;
      leaves = may.leaves;
      other = may.other;
      last_is = record { one = c.last_group-last.ensures.one; open_group = c.last_group-last.ensures.from; births = c.last_group-last.ensures.births };
      made = rearranged_made l w last q.arm q.order now (names_at c.deref-2.result.now) (state_of c.rearrange.new.world) c.in_ok-rearrange.ensures.made same orders;
    }

pub returns-then-not-may_detach-clause-legal : goal.returns-then-not-may_detach-clause-legal
returns-then-not-may_detach-clause-legal c = λ e. absurd (true≢false (sym e))

pub returns-clause-illegal : goal.returns-clause-illegal
returns-clause-illegal c = λ e. absurd (true≢false e)
