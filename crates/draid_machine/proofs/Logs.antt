-- A legal event takes groups out of a log only at the end of a pass, where the arm moves, or by an opening.
use Rattle.std.proofs.Common.{◌≡◌, ◌+◌, ◌≤◌, ◌⊎◌, ◌&&◌, ◌==◌, not, ℕ, Bool, true, false, nat_le, nat_lt, List, Option, Some, None, refl, sym, ◌∙◌, ap, subst, inl, inr, if◌then◌else◌}
use Rattle.std.proofs.lemmas.Bool.{true≢false}
use Rattle.draid_names.specs.declared.pass_kind.PassKind.TheVariants.{Rebuild}
use Rattle.draid_machine.specs.declared.names.Key.{Key}
use Rattle.draid_machine.specs.declared.names.ArmName.{ArmName}
use Rattle.draid_machine.specs.declared.names.ArmName.TheVariants.{Leaf, Spare}
use Rattle.draid_machine.specs.declared.names.Held.{Held}
use Rattle.draid_machine.specs.declared.event.Patched.{Patched}
use Rattle.draid_machine.specs.declared.event.Event.{Event}
use Rattle.draid_machine.specs.declared.event.Event.TheVariants.{Begin, Put, Finish, Abort, Free, Fetch, Damage, Offline, Online, Attach, Detach, Upgrade, Close, Seal, Commit, Plan, Ready, Lend, LandStripe, LandBlock, Done, Cancel, Reopen}
use Rattle.draid_machine.specs.Concerns.{is_done, is_opening}
use Rattle.draid_machine.specs.Names.{has_name, is_heal}
use Rattle.draid_machine.specs.State.{Layout, IsLayout, Arm, Pass, Core, Loan, State}
use Rattle.draid_machine.specs.Arms.{lies_on, is_silent, has_moved, targets_of}
use Rattle.draid_machine.specs.After.{set_arm, each_arm, log_if, fill_if, excise_if, renew_if, lose_targets, gone_state, live_state, finish_state, switch_state, attached_core, detached_core, rearranged_state, attach_state, detach_state, seal_state, is_gone_arm, plan_state, unsourced, pass_over, mend_state, land_stripe_state, land_block_state, ended_pass, done_state}
use Rattle.draid_machine.specs.Created.{IsReached}
use Rattle.draid_machine.specs.Fitting.{MadeGood, KeepsLogs}
use Rattle.draid_machine.specs.Sound.{LogsWithin}
use Rattle.draid_machine.specs.Step.{Step}
use Rattle.draid_machine.proofs.Small.{some_injective, some_same, none_some, both_true, true_both, bool_cases, absurd_test, true_left, arm_cases, mapped_arm, kept_some, low, is_low, is_equal}
use Rattle.draid_machine.proofs.Passes.{ended_same}
use Rattle.draid_machine.proofs.Moves.{replan_cases}
use Rattle.draid_machine.proofs.Bounds.{every_log}

-- no log loses a group
abbrev Grows : (ArmName → Option Arm) → (ArmName → Option Arm) → Type 0
Grows before after = (n : ArmName) (a b : Arm) (g : ℕ) → before n ≡ Some a → after n ≡ Some b → a.log g ≡ true → b.log g ≡ true

same_logs : (arms : ArmName → Option Arm) → Grows arms arms
same_logs arms n a b g x y t = subst (λ (v : Arm). v.log g ≡ true) (some_same (arms n) a b x y) t

each_logs : (f : ArmName → Arm → Arm) (arms : ArmName → Option Arm) → ((n : ArmName) (a : Arm) (g : ℕ) → arms n ≡ Some a → a.log g ≡ true → (f n a).log g ≡ true) → Grows arms (each_arm f arms)
each_logs f arms more n a b g x y t =
    let z = mapped_arm (f n) (arms n) b y in
    subst (λ (v : Arm). v.log g ≡ true) (ap (f n) (some_same (arms n) a z.0 x z.1) ∙ sym z.2) (more n a g x t)

set_logs : (arms : ArmName → Option Arm) (n : ArmName) (v : Arm) → ((a : Arm) (g : ℕ) → arms n ≡ Some a → a.log g ≡ true → v.log g ≡ true) → Grows arms (set_arm arms n (Some v))
set_logs arms n v more m a b g x y t = elim (arm_cases arms n m (Some v) b y) [
  | inl z ↦ subst (λ (c : Arm). c.log g ≡ true) (some_injective v b z.1) (more a g (subst (λ k. arms k ≡ Some a) (sym z.0) x) t)
  | inr z ↦ subst (λ (c : Arm). c.log g ≡ true) (some_same (arms m) a b x z.1) t
]

filled_log : (b : Bool) (top g : ℕ) (a : Arm) → 1 ≤ g → g ≤ top → a.log g ≡ true → (fill_if b top a).log g ≡ true
filled_log true top g a some under t = true_both (nat_le 1 g) (nat_le g top) (low 1 g some) (low g top under)
filled_log false top g a some under t = t

module _ (l : Layout) where
  grown : (w new : State) (e : Event) → Grows w.core.arm new.core.arm → KeepsLogs l w e new
  grown w new e grows n a b g x y t out = absurd_test (b.log g) (grows n a b g x y t) out

  -- whether an arm has moved is by the slots' orders alone
  same_moved : (before q q' : Core) (n : ArmName) → q'.order ≡ q.order → has_moved l before q n ≡ true → has_moved l before q' n ≡ true
  same_moved before q q' (Leaf m) order e = e
  same_moved before q q' (Spare t) order e = subst (λ o. has_moved l before (record q { order = o }) (Spare t) ≡ true) (sym order) e

  -- an arm's log goes on, or the arm has moved
  renewed_log : (before q : Core) (last : ℕ) (n : ArmName) (a b : Arm) (g : ℕ) → q.arm n ≡ Some a → each_arm (λ m. renew_if (has_moved l before q m) last) q.arm n ≡ Some b → a.log g ≡ true
      → (has_moved l before q n ≡ true) ⊎ (b.log g ≡ true)
  renewed_log before q last n a b g x y t =
      let z = mapped_arm (renew_if (has_moved l before q n) last) (q.arm n) b y in
      by (has_moved l before q n) refl (ap (renew_if (has_moved l before q n) last) (some_same (q.arm n) a z.0 x z.1) ∙ sym z.2)
    where
      by : (moved : Bool) → has_moved l before q n ≡ moved → renew_if moved last a ≡ b → (has_moved l before q n ≡ true) ⊎ (b.log g ≡ true)
      by true e is = inl e
      by false e is = inr (subst (λ (c : Arm). c.log g ≡ true) is t)

  -- other arms, with logs no shorter but for those that have moved
  rearranged_logs : (w : State) (last : ℕ) (q : Core) (n : ArmName) (a b : Arm) (g : ℕ) → Grows w.core.arm q.arm → w.core.arm n ≡ Some a → ((c : Arm) → q.arm n ≡ Some c → ⊥) ⊎ ((c : Arm) × (q.arm n ≡ Some c))
      → (rearranged_state l w last q).core.arm n ≡ Some b → a.log g ≡ true → (has_moved l w.core q n ≡ true) ⊎ (b.log g ≡ true)
  rearranged_logs w last q n a b g grows x (inl none) y t =
      let z = mapped_arm (renew_if (has_moved l w.core q n) last) (q.arm n) b y in
      absurd (none z.0 z.1)
  rearranged_logs w last q n a b g grows x (inr c) y t = renewed_log w.core q last n c.0 b g c.1 y (grows n a c.0 g x c.1 t)

  found_or_not : (o : Option Arm) → ((c : Arm) → o ≡ Some c → ⊥) ⊎ ((c : Arm) × (o ≡ Some c))
  found_or_not None = inl (λ c e. none_some None c refl e)
  found_or_not (Some c) = inr (c, refl)

  attach_logs : (w : State) (slot : ℕ) (n : ArmName) (last : ℕ) (e : Event) → w.core.arm n ≡ None → LogsWithin w → KeepsLogs l w e (attach_state l w slot n last)
  attach_logs w slot n last e unused s m a b g x y t out =
      replan_cases l Lost r (has_moved l w.core q) w.core.pass
      (λ none c z f. inr (inl (same_moved w.core q r.core m refl (went c z f))))
      (λ p pass kind c z f. inr (inl (same_moved w.core q (record r.core { pass = Some (lose_targets (has_moved l w.core q) 0 p) }) m refl (went c z f))))
      (λ p pass kind c z f.
      let v = mapped_arm (fill_if (has_name (targets_of l r.core Rebuild) m) (w.open_group + 1)) (r.core.arm m) c z in
      inr (inl (same_moved w.core q (plan_state r Rebuild (targets_of l r.core Rebuild)).core m refl (went v.0 v.1 (unfilled v.0 c v.2 f)))))
      b y out
    where
      q : Core
      q = attached_core w.core slot n last

      r : State
      r = rearranged_state l w last (attached_core w.core slot n last)

      Lost : State → Type 0
      Lost v = (c : Arm) → v.core.arm m ≡ Some c → c.log g ≡ false → MadeGood w e v m g ⊎ ((has_moved l w.core v.core m ≡ true) ⊎ (is_opening e ≡ true))

      went : (c : Arm) → r.core.arm m ≡ Some c → c.log g ≡ false → has_moved l w.core q m ≡ true
      went c z f = elim (rearranged_logs w last (attached_core w.core slot n last) m a c g (set_logs w.core.arm n _ (λ d k found. absurd (none_some (w.core.arm n) d unused found))) x
          (found_or_not ((attached_core w.core slot n last).arm m)) z t) [
            | inl moved ↦ moved
            | inr has ↦ absurd_test (c.log g) has f
          ]

      unfilled : (d c : Arm) → c ≡ fill_if (has_name (targets_of l r.core Rebuild) m) (w.open_group + 1) d → c.log g ≡ false → d.log g ≡ false
      unfilled d c is f = elim (bool_cases (d.log g)) [
        | inl has ↦ absurd_test (c.log g)
            (subst (λ (k : Arm). k.log g ≡ true) (sym is) (filled_log (has_name (targets_of l r.core Rebuild) m) (w.open_group + 1) g d (s.low m a g x t) (s.high m a g x t) has)) f
        | inr lacks ↦ lacks
      ]

  detach_logs : (w : State) (slot : ℕ) (n : ArmName) (a : Arm) (last : ℕ) (e : Event) → w.core.arm n ≡ Some a → KeepsLogs l w e (detach_state l w slot n a last)
  detach_logs w slot n a last e found m c b g x y t out =
      let q = detached_core w.core slot n a w.open_group in
      elim (rearranged_logs w last q m c b g (set_logs w.core.arm n _ (λ d k is has. subst (λ (v : Arm). v.log k ≡ true) (some_same (w.core.arm n) d a is found) has)) x (found_or_not (q.arm m)) y t) [
        | inl moved ↦ inr (inl (same_moved w.core q (detach_state l w slot n a last).core m refl moved))
        | inr has ↦ absurd_test (b.log g) has out
      ]

  commit_logs : (t : ℕ) (arms : ArmName → Option Arm) → Grows arms (λ n. if is_gone_arm t (arms n) then None else arms n)
  commit_logs t arms n a b g x y has = subst (λ (v : Arm). v.log g ≡ true) (some_same (arms n) a b x (kept_some (is_gone_arm t (arms n)) (arms n) b y).1) has

  finish_logs : (w : State) (k : Key) (h : Held) (m : ℕ) (e : Event) → KeepsLogs l w e (finish_state l w k h m)
  finish_logs w k h m e = by (nat_lt l.parity m)
    where
      by : (b : Bool) → KeepsLogs l w e (if b then gone_state w k else live_state w k h)
      by true = grown w (gone_state w k) e (same_logs w.core.arm)
      by false = grown w (live_state w k h) e (same_logs w.core.arm)

  stripe_logs : (w : State) (p : Pass) (n : Loan) (h : Held) (failed : List ℕ) (e : Event) → KeepsLogs l w e (land_stripe_state l w p n h failed)
  stripe_logs w p n h failed e = by (nat_lt l.parity (unsourced l n))
    where
      by : (b : Bool) → KeepsLogs l w e (if b then pass_over w p 1 (n.stripe + 1) else mend_state l w p n h failed)
      by true = grown w (pass_over w p 1 (n.stripe + 1)) e (same_logs w.core.arm)
      by false = grown w (mend_state l w p n h failed) e (same_logs w.core.arm)

  block_logs : (w : State) (p : Pass) (n : Loan) (h : Held) (failed : List ℕ) (patched : List Patched) (unreadable whole : Bool) (e : Event)
      → KeepsLogs l w e (land_block_state l w p n h failed patched unreadable whole)
  block_logs w p n h failed patched true whole e = grown w _ e (same_logs w.core.arm)
  block_logs w p n h failed patched false whole e = grown w _ e (same_logs w.core.arm)

module _ (l : Layout) (lay : IsLayout l) where
  done_logs : (w : State) (p : Pass) (failed : List ℕ) (e : Event) → is_done e ≡ true → w.core.pass ≡ Some p → p.running ≡ true → KeepsLogs l w e (done_state w (ended_pass l w.core p failed))
  done_logs w p failed e done pass running n a b g x y t out =
      let r = ended_pass l w.core p failed in
      let same = ended_same l lay w.core p failed in
      let z = mapped_arm (excise_if ((r.errors == 0) && has_name r.targets n) r.max) (w.core.arm n) b y in
      let was : z.0.log g ≡ true = subst (λ (v : Arm). v.log g ≡ true) (some_same (w.core.arm n) a z.0 x z.1) t in
      let lost = taken (z.0.log g) ((r.errors == 0) && has_name r.targets n) (nat_le g r.max) was (subst (λ (v : Arm). v.log g ≡ false) z.2 out) in
      let both = both_true (r.errors == 0) (has_name r.targets n) lost.0 in
      inl (record {
        done = done;
        p = p;
        pass = pass;
        running = running;
        target = same.targets n both.1;
        errors = same.errors (is_equal r.errors 0 both.0);
        group = subst (λ m. g ≤ m) same.max (is_low g r.max lost.1);
        ends = refl;
      })
    where
      taken : (has b under : Bool) → has ≡ true → (has && not (b && under)) ≡ false → (b ≡ true) × (under ≡ true)
      taken true true true e f = (refl, refl)
      taken true true false e f = absurd (true≢false f)
      taken true false under e f = absurd (true≢false f)
      taken false b under e f = absurd (true≢false (sym e))

  step_logs : (w : State) (e : Event) (new : State) → Step l w e new → LogsWithin w → KeepsLogs l w e new
  step_logs w (Begin key first stripes len birth digest) new x s = subst (λ v. KeepsLogs l w (Begin key first stripes len birth digest) v) (sym x.made) (grown l w _ (Begin key first stripes len birth digest) (same_logs w.core.arm))
  step_logs w (Put key landed failed) new x s =
      subst (λ v. KeepsLogs l w (Put key landed failed) v) (sym x.made) (grown l w _ (Put key landed failed)
      (each_logs (λ n. log_if (has_name (w.core.order (l.slot_of x.h.first x.c)) n && not (has_name landed n)) x.h.birth) w.core.arm (λ n a g found t. true_left (a.log g) _ t)))
  step_logs w (Finish key) new x s = subst (λ v. KeepsLogs l w (Finish key) v) (sym x.made) (finish_logs l w key x.h x.m (Finish key))
  step_logs w (Abort key) new x s = subst (λ v. KeepsLogs l w (Abort key) v) (sym x.made) (grown l w _ (Abort key) (same_logs w.core.arm))
  step_logs w (Free key group) new x s = subst (λ v. KeepsLogs l w (Free key group) v) (sym x.made) (grown l w _ (Free key group) (same_logs w.core.arm))
  step_logs w (Fetch key failed) new x s = subst (λ v. KeepsLogs l w (Fetch key failed) v) (sym x.made) (grown l w _ (Fetch key failed) (same_logs w.core.arm))
  step_logs w (Damage leaf sector failed) new x s = subst (λ v. KeepsLogs l w (Damage leaf sector failed) v) (sym x.made) (grown l w _ (Damage leaf sector failed) (same_logs w.core.arm))
  step_logs w (Offline leaf) new x s =
      subst (λ v. KeepsLogs l w (Offline leaf) v) (sym x.made) (grown l w (switch_state w (Leaf leaf) x.a true) (Offline leaf)
      (set_logs w.core.arm (Leaf leaf) _ (λ a g found t. subst (λ (v : Arm). v.log g ≡ true) (some_same (w.core.arm (Leaf leaf)) a x.a found x.there.found) t)))
  step_logs w (Online leaf) new x s =
      subst (λ v. KeepsLogs l w (Online leaf) v) (sym x.made) (grown l w (switch_state w (Leaf leaf) x.a false) (Online leaf)
      (set_logs w.core.arm (Leaf leaf) _ (λ a g found t. subst (λ (v : Arm). v.log g ≡ true) (some_same (w.core.arm (Leaf leaf)) a x.a found x.there.found) t)))
  step_logs w (Attach slot arm) new x s = subst (λ v. KeepsLogs l w (Attach slot arm) v) (sym x.made) (attach_logs l w slot arm x.last (Attach slot arm) x.unused s)
  step_logs w (Detach slot arm) new x s = subst (λ v. KeepsLogs l w (Detach slot arm) v) (sym x.made) (detach_logs l w slot arm x.a x.last (Detach slot arm) x.found)
  step_logs w Upgrade new x s = subst (λ v. KeepsLogs l w Upgrade v) (sym x.made) (grown l w _ Upgrade (same_logs w.core.arm))
  step_logs w (Close group) new x s = subst (λ v. KeepsLogs l w (Close group) v) (sym x.made) (grown l w _ (Close group) (same_logs w.core.arm))
  step_logs w (Seal group failed) new x s =
      subst (λ v. KeepsLogs l w (Seal group failed) v) (sym x.made) (grown l w (seal_state l w group failed.items x.wrote) (Seal group failed)
      (each_logs (λ n. log_if (x.wrote && lies_on l w.core (is_silent w.core failed.items) n) group) w.core.arm (λ n a g found t. true_left (a.log g) _ t)))
  step_logs w (Commit group) new x s = subst (λ v. KeepsLogs l w (Commit group) v) (sym x.made) (grown l w _ (Commit group) (commit_logs l group w.core.arm))
  step_logs w (Plan kind) new x s =
      let ts = targets_of l w.core kind in
      subst (λ v. KeepsLogs l w (Plan kind) v) (sym x.made) (grown l w (plan_state w kind ts) (Plan kind)
      (each_logs (λ n. fill_if (not (is_heal kind) && has_name ts n) (w.open_group + 1)) w.core.arm
      (λ n a g found t. filled_log (not (is_heal kind) && has_name ts n) (w.open_group + 1) g a (s.low n a g found t) (s.high n a g found t) t)))
  step_logs w Ready new x s = subst (λ v. KeepsLogs l w Ready v) (sym x.made) (grown l w _ Ready (same_logs w.core.arm))
  step_logs w (Lend failed) new x s = subst (λ v. KeepsLogs l w (Lend failed) v) (sym x.made) (grown l w _ (Lend failed) (same_logs w.core.arm))
  step_logs w (LandStripe pass serial failed) new x s =
      subst (λ v. KeepsLogs l w (LandStripe pass serial failed) v) (sym x.made) (stripe_logs l w x.p x.n x.h failed.items (LandStripe pass serial failed))
  step_logs w (LandBlock pass serial failed patched unreadable) new x s =
      subst (λ v. KeepsLogs l w (LandBlock pass serial failed patched unreadable) v) (sym x.made)
      (block_logs l w x.p x.n x.h failed.items patched.items unreadable x.whole (LandBlock pass serial failed patched unreadable))
  step_logs w (Done failed) new x s = subst (λ v. KeepsLogs l w (Done failed) v) (sym x.made) (done_logs w x.p failed.items (Done failed) refl x.pass x.running)
  step_logs w Cancel new x s = subst (λ v. KeepsLogs l w Cancel v) (sym x.made) (grown l w _ Cancel (same_logs w.core.arm))
  step_logs w (Reopen group doubtful) new x s = λ n a b g y z t out. inr (inr refl)

pub reached_logs : (l : Layout) (w new : State) (e : Event) → IsLayout l → IsReached l w → Step l w e new → KeepsLogs l w e new
reached_logs l w new e lay r x = step_logs l lay w e new x (every_log l w lay r)
