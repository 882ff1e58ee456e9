use Rattle.std.proofs.Common.{◌≡◌, true, false, Result, Ok, Err, IfOk, refl, subst, sym}
use Rattle.draid_machine.specs.Step.{Step, DoneStep, FetchStep, LendStep, ReopenStep, SealStep}
use Rattle.draid_machine.specs.declared.event.Event.{Event}
use Rattle.draid_world.specs.World.{site_layout, state_of}
use Rattle.draid_replay.proofs.events.advance.Goals as goal

ok_same : {T E : Type 0} (r : Result T E) (a b : T) → r ≡ Ok a → r ≡ Ok b → a ≡ b
ok_same r a b is same = cc

at_ok : {T E : Type 0} (r : Result T E) (v : T) (P : T → Type 0) → IfOk r P → r ≡ Ok v → P v
at_ok (Ok x) v P holds is = subst P (ok_same (Ok x) x v refl is) holds
at_ok (Err e) v P holds is = absurd (cc)

-- what is legal of a kind of event is legal of the event, and so is what isn't
pub returns-in-Finish-clause-legal : goal.returns-in-Finish-clause-legal
returns-in-Finish-clause-legal c = λ e. rw c.in-Finish.is (c.finish.ensures.legal (ok_same _ _ _ refl e))

pub returns-in-Finish-clause-illegal : goal.returns-in-Finish-clause-illegal
returns-in-Finish-clause-illegal c = λ e new step.
    c.finish.ensures.illegal (ok_same _ _ _ refl e) new (subst (λ (x : Event). Step (site_layout c.args.site.now) (state_of c.args.world.now) x new) c.in-Finish.is step)

pub returns-in-Abort-clause-legal : goal.returns-in-Abort-clause-legal
returns-in-Abort-clause-legal c = λ e. rw c.in-Abort.is (c.abort.ensures.legal (ok_same _ _ _ refl e))

pub returns-in-Abort-clause-illegal : goal.returns-in-Abort-clause-illegal
returns-in-Abort-clause-illegal c = λ e new step.
    c.abort.ensures.illegal (ok_same _ _ _ refl e) new (subst (λ (x : Event). Step (site_layout c.args.site.now) (state_of c.args.world.now) x new) c.in-Abort.is step)

pub returns-in-Free-clause-legal : goal.returns-in-Free-clause-legal
returns-in-Free-clause-legal c = λ e. rw c.in-Free.is (c.free.ensures.legal (ok_same _ _ _ refl e))

pub returns-in-Free-clause-illegal : goal.returns-in-Free-clause-illegal
returns-in-Free-clause-illegal c = λ e new step.
    c.free.ensures.illegal (ok_same _ _ _ refl e) new (subst (λ (x : Event). Step (site_layout c.args.site.now) (state_of c.args.world.now) x new) c.in-Free.is step)

pub returns-in-Damage-clause-legal : goal.returns-in-Damage-clause-legal
returns-in-Damage-clause-legal c = λ e. rw c.in-Damage.is (c.may_damage.ensures.legal (ok_same _ _ _ refl e))

pub returns-in-Damage-clause-illegal : goal.returns-in-Damage-clause-illegal
returns-in-Damage-clause-illegal c = λ e new step.
    c.may_damage.ensures.illegal (ok_same _ _ _ refl e) new (subst (λ (x : Event). Step (site_layout c.args.site.now) (state_of c.args.world.now) x new) c.in-Damage.is step)

pub returns-in-Offline-clause-legal : goal.returns-in-Offline-clause-legal
returns-in-Offline-clause-legal c = λ e. rw c.in-Offline.is (c.switch.ensures.legal (ok_same _ _ _ refl e))

pub returns-in-Offline-clause-illegal : goal.returns-in-Offline-clause-illegal
returns-in-Offline-clause-illegal c = λ e new step.
    c.switch.ensures.illegal (ok_same _ _ _ refl e) new (subst (λ (x : Event). Step (site_layout c.args.site.now) (state_of c.args.world.now) x new) c.in-Offline.is step)

pub returns-in-Online-clause-legal : goal.returns-in-Online-clause-legal
returns-in-Online-clause-legal c = λ e. rw c.in-Online.is (c.switch-in-Online.ensures.legal (ok_same _ _ _ refl e))

pub returns-in-Online-clause-illegal : goal.returns-in-Online-clause-illegal
returns-in-Online-clause-illegal c = λ e new step.
    c.switch-in-Online.ensures.illegal (ok_same _ _ _ refl e) new (subst (λ (x : Event). Step (site_layout c.args.site.now) (state_of c.args.world.now) x new) c.in-Online.is step)

pub returns-in-Attach-clause-legal : goal.returns-in-Attach-clause-legal
returns-in-Attach-clause-legal c = λ e. rw c.in-Attach.is (at_ok c.attach.result true _ c.attach.ensures.legal e refl)

pub returns-in-Attach-clause-illegal : goal.returns-in-Attach-clause-illegal
returns-in-Attach-clause-illegal c = λ e new step.
    at_ok c.attach.result false _ c.attach.ensures.illegal e refl new (subst (λ (x : Event). Step (site_layout c.args.site.now) (state_of c.args.world.now) x new) c.in-Attach.is step)

pub returns-in-Detach-clause-legal : goal.returns-in-Detach-clause-legal
returns-in-Detach-clause-legal c = λ e. rw c.in-Detach.is (at_ok c.detach.result true _ c.detach.ensures.legal e refl)

pub returns-in-Detach-clause-illegal : goal.returns-in-Detach-clause-illegal
returns-in-Detach-clause-illegal c = λ e new step.
    at_ok c.detach.result false _ c.detach.ensures.illegal e refl new (subst (λ (x : Event). Step (site_layout c.args.site.now) (state_of c.args.world.now) x new) c.in-Detach.is step)

pub returns-in-Upgrade-clause-legal : goal.returns-in-Upgrade-clause-legal
returns-in-Upgrade-clause-legal c = λ e. rw c.in-Upgrade.is (c.upgrade.ensures.legal (ok_same _ _ _ refl e))

pub returns-in-Upgrade-clause-illegal : goal.returns-in-Upgrade-clause-illegal
returns-in-Upgrade-clause-illegal c = λ e new step.
    c.upgrade.ensures.illegal (ok_same _ _ _ refl e) new (subst (λ (x : Event). Step (site_layout c.args.site.now) (state_of c.args.world.now) x new) c.in-Upgrade.is step)

pub returns-in-Close-clause-legal : goal.returns-in-Close-clause-legal
returns-in-Close-clause-legal c = λ e. rw c.in-Close.is (c.close.ensures.legal (ok_same _ _ _ refl e))

pub returns-in-Close-clause-illegal : goal.returns-in-Close-clause-illegal
returns-in-Close-clause-illegal c = λ e new step.
    c.close.ensures.illegal (ok_same _ _ _ refl e) new (subst (λ (x : Event). Step (site_layout c.args.site.now) (state_of c.args.world.now) x new) c.in-Close.is step)

pub returns-in-Commit-clause-legal : goal.returns-in-Commit-clause-legal
returns-in-Commit-clause-legal c = λ e. rw c.in-Commit.is (at_ok c.commit.result true _ c.commit.ensures.legal e refl)

pub returns-in-Commit-clause-illegal : goal.returns-in-Commit-clause-illegal
returns-in-Commit-clause-illegal c = λ e new step.
    at_ok c.commit.result false _ c.commit.ensures.illegal e refl new (subst (λ (x : Event). Step (site_layout c.args.site.now) (state_of c.args.world.now) x new) c.in-Commit.is step)

pub returns-in-Plan-clause-legal : goal.returns-in-Plan-clause-legal
returns-in-Plan-clause-legal c = λ e. rw c.in-Plan.is (c.plan.ensures.legal e)

pub returns-in-Plan-clause-illegal : goal.returns-in-Plan-clause-illegal
returns-in-Plan-clause-illegal c = λ e new step.
    c.plan.ensures.illegal e new (subst (λ (x : Event). Step (site_layout c.args.site.now) (state_of c.args.world.now) x new) c.in-Plan.is step)

pub returns-in-Ready-clause-legal : goal.returns-in-Ready-clause-legal
returns-in-Ready-clause-legal c = λ e. rw c.in-Ready.is (c.ready.ensures.legal (ok_same _ _ _ refl e))

pub returns-in-Ready-clause-illegal : goal.returns-in-Ready-clause-illegal
returns-in-Ready-clause-illegal c = λ e new step.
    c.ready.ensures.illegal (ok_same _ _ _ refl e) new (subst (λ (x : Event). Step (site_layout c.args.site.now) (state_of c.args.world.now) x new) c.in-Ready.is step)

pub returns-in-Cancel-clause-legal : goal.returns-in-Cancel-clause-legal
returns-in-Cancel-clause-legal c = λ e. rw c.in-Cancel.is (c.cancel.ensures.legal (ok_same _ _ _ refl e))

pub returns-in-Cancel-clause-illegal : goal.returns-in-Cancel-clause-illegal
returns-in-Cancel-clause-illegal c = λ e new step.
    c.cancel.ensures.illegal (ok_same _ _ _ refl e) new (subst (λ (x : Event). Step (site_layout c.args.site.now) (state_of c.args.world.now) x new) c.in-Cancel.is step)

pub returns-in-Begin-clause-legal : goal.returns-in-Begin-clause-legal
returns-in-Begin-clause-legal c = c.open_ticket.ensures.legal

pub returns-in-Begin-clause-illegal : goal.returns-in-Begin-clause-illegal
returns-in-Begin-clause-illegal c = c.open_ticket.ensures.illegal

pub returns-in-Fetch-clause-legal : goal.returns-in-Fetch-clause-legal
returns-in-Fetch-clause-legal c = λ e.
    rw c.in-Fetch.is (subst (λ fs. FetchStep (site_layout c.args.site.now) (state_of c.args.world.now) c.in-Fetch.key fs (state_of c.args.world.now)) c.deref.ensures.value (c.may_fetch.ensures.legal (ok_same _ _ _ refl e)))

pub returns-in-Fetch-clause-illegal : goal.returns-in-Fetch-clause-illegal
returns-in-Fetch-clause-illegal c = λ e new step.
    c.may_fetch.ensures.illegal (ok_same _ _ _ refl e) new (subst (λ fs. FetchStep (site_layout c.args.site.now) (state_of c.args.world.now) c.in-Fetch.key fs new) (sym c.deref.ensures.value) (subst (λ (x : Event). Step (site_layout c.args.site.now) (state_of c.args.world.now) x new) c.in-Fetch.is step))

pub returns-in-Seal-clause-legal : goal.returns-in-Seal-clause-legal
returns-in-Seal-clause-legal c = λ e.
    rw c.in-Seal.is (subst (λ fs. SealStep (site_layout c.args.site.now) (state_of c.args.world.now) c.in-Seal.group fs (state_of c.seal.new.world)) c.deref-in-Seal.ensures.value (at_ok c.seal.result true _ c.seal.ensures.legal e refl))

pub returns-in-Seal-clause-illegal : goal.returns-in-Seal-clause-illegal
returns-in-Seal-clause-illegal c = λ e new step.
    at_ok c.seal.result false _ c.seal.ensures.illegal e refl new (subst (λ fs. SealStep (site_layout c.args.site.now) (state_of c.args.world.now) c.in-Seal.group fs new) (sym c.deref-in-Seal.ensures.value) (subst (λ (x : Event). Step (site_layout c.args.site.now) (state_of c.args.world.now) x new) c.in-Seal.is step))

pub returns-in-Reopen-clause-legal : goal.returns-in-Reopen-clause-legal
returns-in-Reopen-clause-legal c = λ e.
    rw c.in-Reopen.is (subst (λ fs. ReopenStep (site_layout c.args.site.now) (state_of c.args.world.now) c.in-Reopen.group fs (state_of c.reopen.new.world)) c.deref-in-Reopen.ensures.value (at_ok c.reopen.result true _ c.reopen.ensures.legal e refl))

pub returns-in-Reopen-clause-illegal : goal.returns-in-Reopen-clause-illegal
returns-in-Reopen-clause-illegal c = λ e new step.
    at_ok c.reopen.result false _ c.reopen.ensures.illegal e refl new (subst (λ fs. ReopenStep (site_layout c.args.site.now) (state_of c.args.world.now) c.in-Reopen.group fs new) (sym c.deref-in-Reopen.ensures.value) (subst (λ (x : Event). Step (site_layout c.args.site.now) (state_of c.args.world.now) x new) c.in-Reopen.is step))

pub returns-in-Lend-clause-legal : goal.returns-in-Lend-clause-legal
returns-in-Lend-clause-legal c = λ e.
    rw c.in-Lend.is (subst (λ fs. LendStep (site_layout c.args.site.now) (state_of c.args.world.now) fs (state_of c.lend.new.world)) c.deref-in-Lend.ensures.value (c.lend.ensures.legal e))

pub returns-in-Lend-clause-illegal : goal.returns-in-Lend-clause-illegal
returns-in-Lend-clause-illegal c = λ e new step.
    c.lend.ensures.illegal e new (subst (λ fs. LendStep (site_layout c.args.site.now) (state_of c.args.world.now) fs new) (sym c.deref-in-Lend.ensures.value) (subst (λ (x : Event). Step (site_layout c.args.site.now) (state_of c.args.world.now) x new) c.in-Lend.is step))

pub returns-in-Done-clause-legal : goal.returns-in-Done-clause-legal
returns-in-Done-clause-legal c = λ e.
    rw c.in-Done.is (subst (λ fs. DoneStep (site_layout c.args.site.now) (state_of c.args.world.now) fs (state_of c.done.new.world)) c.deref-in-Done.ensures.value (c.done.ensures.legal (ok_same _ _ _ refl e)))

pub returns-in-Done-clause-illegal : goal.returns-in-Done-clause-illegal
returns-in-Done-clause-illegal c = λ e new step.
    c.done.ensures.illegal (ok_same _ _ _ refl e) new (subst (λ fs. DoneStep (site_layout c.args.site.now) (state_of c.args.world.now) fs new) (sym c.deref-in-Done.ensures.value) (subst (λ (x : Event). Step (site_layout c.args.site.now) (state_of c.args.world.now) x new) c.in-Done.is step))
