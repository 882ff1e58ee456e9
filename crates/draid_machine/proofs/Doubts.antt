-- Which events leave a segment in doubt that was in none, which end that, and that a seal logs its group.
use Rattle.std.proofs.Common.{◌≡◌, ◌+◌, ◌&&◌, ◌||◌, not, ℕ, Bool, true, false, nat_lt, Some, List, refl, sym, ap, subst, inl, inr, ◌∙◌, if◌then◌else◌}
use Rattle.draid_machine.specs.declared.names.Key.{Key}
use Rattle.draid_machine.specs.declared.names.ArmName.{ArmName}
use Rattle.draid_machine.specs.declared.names.Held.{Held}
use Rattle.draid_machine.specs.declared.names.Segment.{Segment}
use Rattle.draid_machine.specs.declared.event.Patched.{Patched}
use Rattle.draid_machine.specs.declared.event.Event.{Event}
use Rattle.draid_machine.specs.declared.event.Event.TheVariants.{Begin, Put, Finish, Abort, Free, Fetch, Damage, Offline, Online, Attach, Detach, Upgrade, Close, Seal, Commit, Plan, Ready, Lend, LandStripe, LandBlock, Done, Cancel, Reopen}
use Rattle.draid_machine.specs.Names.{has_segment, key_eq}
use Rattle.draid_machine.specs.State.{Layout, Arm, Pass, Core, Loan, State}
use Rattle.draid_machine.specs.Arms.{fails, has_moved, is_clean, is_silent, lies_on}
use Rattle.draid_machine.specs.Claims.{is_on, claims}
use Rattle.draid_machine.specs.After.{aside_after, attached_core, attach_state, finish_state, gone_state, has_healed, is_mended, is_source_aside, is_written, land_block_state, land_stripe_state, live_state, log_if, map_arm, mend_state, pass_over, rearranged_state, unsourced}
use Rattle.draid_machine.specs.Step.{HasWritten, IsWhole, LandBlockStep, SealStep, Step}
use Rattle.draid_machine.specs.Doubt.{DoubtsBy, IsMadeOfDoubt, IsOfLoan}
use Rattle.draid_machine.proofs.Small.{absurd_test, both_true, either_true, equal, key_refl, some_injective, true_right, true_both}
use Rattle.draid_machine.proofs.Moves.{replan_cases}

module _ (l : Layout) where
  stayed : (w made new : State) (e : Event) (s : Segment) → new ≡ made → (made.aside s ≡ true → w.aside s ≡ true) → DoubtsBy l w e new s
  stayed w made new e s is less after before = absurd_test (w.aside s) (less (subst (λ (v : State). v.aside s ≡ true) is after)) before

  finished : (w : State) (k : Key) (h : Held) (m : ℕ) (s : Segment) → (finish_state l w k h m).aside s ≡ true → w.aside s ≡ true
  finished w k h m s = by (nat_lt l.parity m)
    where
      by : (b : Bool) → (if b then gone_state w k else live_state w k h).aside s ≡ true → w.aside s ≡ true
      by true after = (both_true _ _ after).0
      by false after = after

  attached : (w : State) (slot : ℕ) (n : ArmName) (last : ℕ) (s : Segment) → (attach_state l w slot n last).aside s ≡ true → w.aside s ≡ true
  attached w slot n last s =
      replan_cases l (λ v. v.aside s ≡ true → w.aside s ≡ true) (rearranged_state l w last q) (has_moved l w.core q) w.core.pass
      (λ none after. (both_true _ _ after).0) (λ p pass kind after. (both_true _ _ after).0) (λ p pass kind after. (both_true _ _ after).0)
    where
      q : Core
      q = attached_core w.core slot n last

  mended : (w : State) (p : Pass) (n : Loan) (h : Held) (failed : List ℕ) (s : Segment) → w.loan ≡ Some n → (mend_state l w p n h failed).aside s ≡ true → w.aside s ≡ false → IsMadeOfDoubt l w s
  mended w p n h failed s loan after before = by (is_mended l w.core p n h s) refl after
    where
      by : (b : Bool) → is_mended l w.core p n h s ≡ b → (if b then is_source_aside l w n s && not (fails l w.core failed s.arm n.stripe) else w.aside s) ≡ true → IsMadeOfDoubt l w s
      by true is out = record {
        of = record { n = n; loan = loan; key = (both_true _ _ (both_true _ _ (both_true _ _ (both_true _ _ is).0).0).0).0 };
        doubt = (both_true _ _ out).0;
      }
      by false is out = absurd_test (w.aside s) out before

  stripe_landed : (w : State) (p : Pass) (n : Loan) (h : Held) (failed : List ℕ) (s : Segment) → w.loan ≡ Some n → (land_stripe_state l w p n h failed).aside s ≡ true → w.aside s ≡ false → IsMadeOfDoubt l w s
  stripe_landed w p n h failed s loan after before = by (nat_lt l.parity (unsourced l n)) after
    where
      by : (b : Bool) → (if b then pass_over w p 1 (n.stripe + 1) else mend_state l w p n h failed).aside s ≡ true → IsMadeOfDoubt l w s
      by true out = absurd_test (w.aside s) out before
      by false out = mended w p n h failed s loan out before

  healed : (w : State) (n : Loan) (h : Held) (patched : List Patched) (whole : Bool) (s : Segment) → w.loan ≡ Some n → aside_after l w n h patched whole s ≡ true → w.aside s ≡ false → IsOfLoan w s
  healed w n h patched true s loan after before = by (key_eq n.key s.key) refl after
    where
      by : (b : Bool) → key_eq n.key s.key ≡ b
          → (if not b then w.aside s else if is_on l w.core.order s h then not (is_clean w.core h.birth s.arm || has_healed l w.core n h patched s) else w.aside s || w.present s) ≡ true → IsOfLoan w s
      by true is out = record { n = n; loan = loan; key = is }
      by false is out = absurd_test (w.aside s) out before
  healed w n h patched false s loan after before = elim (either_true (w.aside s) (is_written l w.core n h patched s) after) [
    | inl old ↦ absurd_test (w.aside s) old before
    | inr new ↦ record { n = n; loan = loan; key = (both_true _ _ (both_true _ _ new).0).0 }
  ]

  opened : (a b c : Bool) → ((a || b) && c) ≡ true → a ≡ false → b ≡ true
  opened a b c after before = elim (either_true a b (both_true (a || b) c after).0) [
    | inl old ↦ absurd_test a old before
    | inr new ↦ new
  ]

  pub step_doubts : (w new : State) (e : Event) (s : Segment) → Step l w e new → DoubtsBy l w e new s
  step_doubts w new (Begin key first stripes len birth digest) s x = stayed w _ new (Begin key first stripes len birth digest) s x.made (λ after. after)
  step_doubts w new (Put key landed failed) s x = stayed w _ new (Put key landed failed) s x.made (λ after. after)
  step_doubts w new (Finish key) s x = stayed w _ new (Finish key) s x.made (finished w key x.h x.m s)
  step_doubts w new (Abort key) s x = stayed w _ new (Abort key) s x.made (λ after. (both_true _ _ after).0)
  step_doubts w new (Free key group) s x = stayed w _ new (Free key group) s x.made (λ after. after)
  step_doubts w new (Fetch key failed) s x = stayed w _ new (Fetch key failed) s x.made (λ after. after)
  step_doubts w new (Damage leaf sector failed) s x = stayed w _ new (Damage leaf sector failed) s x.made (λ after. after)
  step_doubts w new (Offline leaf) s x = stayed w _ new (Offline leaf) s x.made (λ after. after)
  step_doubts w new (Online leaf) s x = stayed w _ new (Online leaf) s x.made (λ after. after)
  step_doubts w new (Attach slot arm) s x = stayed w _ new (Attach slot arm) s x.made (attached w slot arm x.last s)
  step_doubts w new (Detach slot arm) s x = stayed w _ new (Detach slot arm) s x.made (λ after. (both_true _ _ after).0)
  step_doubts w new Upgrade s x = stayed w _ new Upgrade s x.made (λ after. after)
  step_doubts w new (Close group) s x = stayed w _ new (Close group) s x.made (λ after. after)
  step_doubts w new (Seal group failed) s x = stayed w _ new (Seal group failed) s x.made (λ after. after)
  step_doubts w new (Commit group) s x = stayed w _ new (Commit group) s x.made (λ after. (both_true _ _ after).0)
  step_doubts w new (Plan kind) s x = stayed w _ new (Plan kind) s x.made (λ after. after)
  step_doubts w new Ready s x = stayed w _ new Ready s x.made (λ after. after)
  step_doubts w new (Lend failed) s x = stayed w _ new (Lend failed) s x.made (λ after. after)
  step_doubts w new (LandStripe pass serial failed) s x =
      subst (λ v. DoubtsBy l w (LandStripe pass serial failed) v s) (sym x.made) (stripe_landed w x.p x.n x.h failed.items s x.counts.loan)
  step_doubts w new (LandBlock pass serial failed patched true) s x = stayed w _ new (LandBlock pass serial failed patched true) s x.made (λ after. after)
  step_doubts w new (LandBlock pass serial failed patched false) s x =
      subst (λ v. DoubtsBy l w (LandBlock pass serial failed patched false) v s) (sym x.made) (healed w x.n x.h patched.items x.whole s x.counts.loan)
  step_doubts w new (Done failed) s x = stayed w _ new (Done failed) s x.made (λ after. after)
  step_doubts w new Cancel s x = stayed w _ new Cancel s x.made (λ after. after)
  step_doubts w new (Reopen group doubtful) s x =
      subst (λ v. DoubtsBy l w (Reopen group doubtful) v s) (sym x.made) (opened (w.aside s) (has_segment doubtful.items s) (claims l x.image.core s))

  -- ---- a whole landing of a scrub
  whole_aside : (w : State) (n : Loan) (h : Held) (patched : List Patched) (s : Segment) → n.key ≡ s.key → is_on l w.core.order s h ≡ true
      → (is_clean w.core h.birth s.arm || has_healed l w.core n h patched s) ≡ true → aside_after l w n h patched true s ≡ false
  whole_aside w n h patched s key on good =
      ap (λ b. if not b then w.aside s else if is_on l w.core.order s h then not (is_clean w.core h.birth s.arm || has_healed l w.core n h patched s) else w.aside s || w.present s)
      (subst (λ k. key_eq n.key k ≡ true) key (key_refl n.key))
      ∙ ap (λ b. if b then not (is_clean w.core h.birth s.arm || has_healed l w.core n h patched s) else w.aside s || w.present s) on
      ∙ ap not good

  pub scrub_ends : (w new : State) (pass serial : ℕ) (failed : List ℕ) (patched : List Patched) (n : Loan) (h : Held) (s : Segment)
      → LandBlockStep l w pass serial failed patched false new → w.loan ≡ Some n → w.core.held n.key ≡ Some h → IsWhole l w.core h failed → n.key ≡ s.key
      → is_on l w.core.order s h ≡ true → (is_clean w.core h.birth s.arm || has_healed l w.core n h patched s) ≡ true → new.aside s ≡ false
  scrub_ends w new pass serial failed patched n h s step lent held whole key on good =
      subst (λ (v : State). v.aside s ≡ false) (sym (step.made ∙ same)) (by step.whole refl)
    where
      which : step.n ≡ n
      which = some_injective step.n n (sym step.counts.loan ∙ lent)

      block : step.h ≡ h
      block = some_injective step.h h (sym step.counts.found ∙ ap (λ (x : Loan). w.core.held x.key) which ∙ held)

      same : land_block_state l w step.p step.n step.h failed patched false step.whole ≡ land_block_state l w step.p n h failed patched false step.whole
      same = λ i. land_block_state l w step.p (which i) (block i) failed patched false step.whole

      by : (b : Bool) → step.whole ≡ b → (land_block_state l w step.p n h failed patched false b).aside s ≡ false
      by true is = whole_aside w n h patched s key on good
      by false is = absurd (step.not_whole is (subst (λ (x : Held). IsWhole l w.core x failed) (sym block) whole))

  -- ---- a seal
  pub seal_logs : (w new : State) (t : ℕ) (failed : List ℕ) (n : ArmName) (a : Arm) → SealStep l w t failed new → HasWritten w.core t → w.core.arm n ≡ Some a
      → lies_on l w.core (is_silent w.core failed) n ≡ true → (b : Arm) × (new.core.arm n ≡ Some b) × (b.log t ≡ true)
  seal_logs w new t failed n a step wrote found silent = by step.wrote refl
    where
      by : (b : Bool) → step.wrote ≡ b → (c : Arm) × (new.core.arm n ≡ Some c) × (c.log t ≡ true)
      by true is = (
        log_if (step.wrote && lies_on l w.core (is_silent w.core failed) n) t a,
        ap (λ (v : State). v.core.arm n) step.made ∙ ap (map_arm (log_if (step.wrote && lies_on l w.core (is_silent w.core failed) n) t)) found,
        true_right (a.log t) _ (true_both _ _ (true_both _ _ is silent) (equal t t refl)),
      )
      by false is = absurd (step.no_writes is wrote)
