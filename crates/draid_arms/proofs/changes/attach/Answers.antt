use Rattle.std.proofs.lemmas.Bool.{true≢false}
use Rattle.std.proofs.Common.{◌∙◌, ap, refl, sym}
use Rattle.draid_machine.specs.Names.{has_name}
use Rattle.draid_world.specs.World.{site_layout, state_of}
use Rattle.draid_arms.proofs.Changed.{attached_made, may_plan}
use Rattle.draid_arms.proofs.changes.attach.Goals as goal

pub replan-requires : goal.replan-requires
replan-requires c = record {
  rebuild = may_plan (site_layout c.args.site.now) (state_of c.args.world.now) c.args.slot c.args.name c.last_group-last.result (state_of c.take_in.new.world) c.in_ok-moved.ensures.made
      (c.if-not-may_replan.ensures.yes refl) (c.if-not-may_attach.ensures.yes refl).slot_is;
}

pub returns-clause-legal : goal.returns-clause-legal
returns-clause-legal c = λ e.
    let l = site_layout c.args.site.now in
    let w = state_of c.args.world.now in
    let last = c.last_group-last.result in
    let may = c.if-not-may_attach.ensures.yes e in
    record {
      last = last;
      slot_is = may.slot_is;
      arm_is = may.arm_is;
      unused = may.unused;
      room = may.room;
      may = c.if-not-may_replan.ensures.yes e;
      last_is = record { one = c.last_group-last.ensures.one; open_group = c.last_group-last.ensures.from; births = c.last_group-last.ensures.births };
      made = attached_made l w c.args.slot c.args.name last (state_of c.take_in.new.world) (state_of c.replan.new.world) (has_name c.deref.result.now) c.in_ok-moved.ensures.made
          (λ m. ap (λ ns. has_name ns m) c.deref.ensures.value ∙ c.in_ok-moved.ensures.moved m) c.in_ok-replan.ensures;
    }

pub returns-then-not-may_attach-clause-legal : goal.returns-then-not-may_attach-clause-legal
returns-then-not-may_attach-clause-legal c = λ e. absurd (true≢false (sym e))

pub returns-clause-illegal : goal.returns-clause-illegal
returns-clause-illegal c = λ e. absurd (true≢false e)
