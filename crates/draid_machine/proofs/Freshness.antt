-- An arm that is fresh stays so under each event but the end of a pass that ran, and an opening.
use Rattle.std.proofs.Common.{◌≡◌, ◌+◌, ◌&&◌, ◌||◌, ◌==◌, not, ℕ, Bool, true, false, nat_lt, List, Option, Some, None, refl, sym, subst, inl, inr, if◌then◌else◌}
use Rattle.std.proofs.lemmas.Bool.{true≢false}
use Rattle.draid_names.specs.declared.pass_kind.PassKind.TheVariants.{Rebuild}
use Rattle.draid_machine.specs.declared.names.Key.{Key}
use Rattle.draid_machine.specs.declared.names.ArmName.{ArmName}
use Rattle.draid_machine.specs.declared.names.ArmName.TheVariants.{Leaf}
use Rattle.draid_machine.specs.declared.names.Held.{Held}
use Rattle.draid_machine.specs.declared.event.Patched.{Patched}
use Rattle.draid_machine.specs.declared.event.Event.{Event}
use Rattle.draid_machine.specs.declared.event.Event.TheVariants.{Begin, Put, Finish, Abort, Free, Fetch, Damage, Offline, Online, Attach, Detach, Upgrade, Close, Seal, Commit, Plan, Ready, Lend, LandStripe, LandBlock, Done, Cancel, Reopen}
use Rattle.draid_machine.specs.Concerns.{is_done}
use Rattle.draid_machine.specs.Names.{has_name, is_heal}
use Rattle.draid_machine.specs.State.{Layout, IsLayout, Arm, Pass, Core, Loan, State}
use Rattle.draid_machine.specs.Arms.{lies_on, is_silent, has_moved, targets_of}
use Rattle.draid_machine.specs.After.{set_arm, each_arm, log_if, fill_if, excise_if, renew_if, gone_state, live_state, finish_state, switch_state, attached_core, detached_core, rearranged_state, attach_state, detach_state, is_gone_arm, unsourced, pass_over, mend_state, land_stripe_state, land_block_state, ended_pass, done_state}
use Rattle.draid_machine.specs.Fitting.{KeepsFresh}
use Rattle.draid_machine.specs.Step.{Step}
use Rattle.draid_machine.proofs.Small.{some_injective, some_same, none_some, both_true, absurd_test, arm_cases, mapped_arm, kept_some, is_equal}
use Rattle.draid_machine.proofs.Passes.{ended_same}
use Rattle.draid_machine.proofs.Moves.{replan_cases}

-- who was fresh is so
abbrev Stay : (ArmName → Option Arm) → (ArmName → Option Arm) → Type 0
Stay before after = (n : ArmName) (a b : Arm) → before n ≡ Some a → after n ≡ Some b → a.fresh ≡ true → b.fresh ≡ true

same_arms : (arms : ArmName → Option Arm) → Stay arms arms
same_arms arms n a b x y t = subst (λ (v : Arm). v.fresh ≡ true) (some_same (arms n) a b x y) t

-- each arm is changed, and none of these changes ends that
behind : (before arms : ArmName → Option Arm) (f : ArmName → Arm → Arm) → Stay before arms → ((n : ArmName) (a : Arm) → a.fresh ≡ true → (f n a).fresh ≡ true) → Stay before (each_arm f arms)
behind before arms f stay more n a b x y t =
    let z = mapped_arm (f n) (arms n) b y in
    subst (λ (v : Arm). v.fresh ≡ true) (sym z.2) (more n z.0 (stay n a z.0 x z.1 t))

set_one : (arms : ArmName → Option Arm) (n : ArmName) (v : Arm) → ((a : Arm) → arms n ≡ Some a → a.fresh ≡ true → v.fresh ≡ true) → Stay arms (set_arm arms n (Some v))
set_one arms n v more m a b x y t = elim (arm_cases arms n m (Some v) b y) [
  | inl z ↦ subst (λ (c : Arm). c.fresh ≡ true) (some_injective v b z.1) (more a (subst (λ k. arms k ≡ Some a) (sym z.0) x) t)
  | inr z ↦ subst (λ (c : Arm). c.fresh ≡ true) (some_same (arms m) a b x z.1) t
]

or_left : (a b : Bool) → a ≡ true → (a || b) ≡ true
or_left true b t = refl
or_left false b t = absurd (true≢false (sym t))

none_left : (arms : ArmName → Option Arm) (t : ℕ) → Stay arms (λ n. if is_gone_arm t (arms n) then None else arms n)
none_left arms t n a b x y is = subst (λ (v : Arm). v.fresh ≡ true) (some_same (arms n) a b x (kept_some (is_gone_arm t (arms n)) (arms n) b y).1) is

module _ (l : Layout) where
  stayed : (w made new : State) (e : Event) → new ≡ made → Stay w.core.arm made.core.arm → KeepsFresh w e new
  stayed w made new e is stay n a b x y t out = absurd_test b.fresh (stay n a b x (subst (λ (v : State). v.core.arm n ≡ Some b) is y) t) out

  rearranged : (w : State) (last : ℕ) (q : Core) → Stay w.core.arm q.arm → Stay w.core.arm (rearranged_state l w last q).core.arm
  rearranged w last q stay = behind w.core.arm q.arm (λ n. renew_if (has_moved l w.core q n) last) stay (λ n a t. or_left a.fresh (has_moved l w.core q n) t)

  attached : (w : State) (slot : ℕ) (n : ArmName) (last : ℕ) → w.core.arm n ≡ None → Stay w.core.arm (attach_state l w slot n last).core.arm
  attached w slot n last unused =
      replan_cases l (λ v. Stay w.core.arm v.core.arm) r (has_moved l w.core q) w.core.pass
      (λ none. stay)
      (λ p pass kind. stay)
      (λ p pass kind. behind w.core.arm r.core.arm (λ m. fill_if (has_name (targets_of l r.core Rebuild) m) (w.open_group + 1)) stay (λ m a t. t))
    where
      q : Core
      q = attached_core w.core slot n last

      r : State
      r = rearranged_state l w last (attached_core w.core slot n last)

      stay : Stay w.core.arm (rearranged_state l w last (attached_core w.core slot n last)).core.arm
      stay = rearranged w last (attached_core w.core slot n last) (set_one w.core.arm n _ (λ a found. absurd (none_some (w.core.arm n) a unused found)))

  detached : (w : State) (slot : ℕ) (n : ArmName) (a : Arm) (last : ℕ) → w.core.arm n ≡ Some a → Stay w.core.arm (detach_state l w slot n a last).core.arm
  detached w slot n a last found =
      rearranged w last (detached_core w.core slot n a w.open_group) (set_one w.core.arm n _ (λ b is t. subst (λ (v : Arm). v.fresh ≡ true) (some_same (w.core.arm n) b a is found) t))

  switched : (w : State) (n : ArmName) (a : Arm) (offline : Bool) → w.core.arm n ≡ Some a → Stay w.core.arm (switch_state w n a offline).core.arm
  switched w n a offline found = set_one w.core.arm n _ (λ b is t. subst (λ (v : Arm). v.fresh ≡ true) (some_same (w.core.arm n) b a is found) t)

  finished : (w : State) (k : Key) (h : Held) (m : ℕ) → Stay w.core.arm (finish_state l w k h m).core.arm
  finished w k h m = by (nat_lt l.parity m)
    where
      by : (b : Bool) → Stay w.core.arm (if b then gone_state w k else live_state w k h).core.arm
      by true = same_arms w.core.arm
      by false = same_arms w.core.arm

  stripe_landed : (w : State) (p : Pass) (n : Loan) (h : Held) (failed : List ℕ) → Stay w.core.arm (land_stripe_state l w p n h failed).core.arm
  stripe_landed w p n h failed = by (nat_lt l.parity (unsourced l n))
    where
      by : (b : Bool) → Stay w.core.arm (if b then pass_over w p 1 (n.stripe + 1) else mend_state l w p n h failed).core.arm
      by true = same_arms w.core.arm
      by false = same_arms w.core.arm

  block_landed : (w : State) (p : Pass) (n : Loan) (h : Held) (failed : List ℕ) (patched : List Patched) (unreadable whole : Bool)
      → Stay w.core.arm (land_block_state l w p n h failed patched unreadable whole).core.arm
  block_landed w p n h failed patched true whole = same_arms w.core.arm
  block_landed w p n h failed patched false whole = same_arms w.core.arm

  module _ (lay : IsLayout l) where
    pass_done : (w : State) (p : Pass) (failed : List ℕ) (e : Event) → is_done e ≡ true → w.core.pass ≡ Some p → p.running ≡ true → KeepsFresh w e (done_state w (ended_pass l w.core p failed))
    pass_done w p failed e done pass running n a b x y t out =
        let r = ended_pass l w.core p failed in
        let same = ended_same l lay w.core p failed in
        let z = mapped_arm (excise_if ((r.errors == 0) && has_name r.targets n) r.max) (w.core.arm n) b y in
        let was : z.0.fresh ≡ true = subst (λ (v : Arm). v.fresh ≡ true) (some_same (w.core.arm n) a z.0 x z.1) t in
        let both = both_true (r.errors == 0) (has_name r.targets n) (ended z.0.fresh ((r.errors == 0) && has_name r.targets n) was (subst (λ (v : Arm). v.fresh ≡ false) z.2 out)) in
        inl (record { done = done; p = p; pass = pass; running = running; target = same.targets n both.1; errors = same.errors (is_equal r.errors 0 both.0) })
      where
        ended : (fresh whole : Bool) → fresh ≡ true → (fresh && not whole) ≡ false → whole ≡ true
        ended true true is out = refl
        ended true false is out = absurd (true≢false out)
        ended false whole is out = absurd (true≢false (sym is))

    pub step_fresh : (w new : State) (e : Event) → Step l w e new → KeepsFresh w e new
    step_fresh w new (Begin key first stripes len birth digest) x = stayed w _ new (Begin key first stripes len birth digest) x.made (same_arms w.core.arm)
    step_fresh w new (Put key landed failed) x =
        stayed w _ new (Put key landed failed) x.made (behind w.core.arm w.core.arm (λ n. log_if (has_name (w.core.order (l.slot_of x.h.first x.c)) n && not (has_name landed n)) x.h.birth) (same_arms w.core.arm) (λ n a t. t))
    step_fresh w new (Finish key) x = stayed w _ new (Finish key) x.made (finished w key x.h x.m)
    step_fresh w new (Abort key) x = stayed w _ new (Abort key) x.made (same_arms w.core.arm)
    step_fresh w new (Free key group) x = stayed w _ new (Free key group) x.made (same_arms w.core.arm)
    step_fresh w new (Fetch key failed) x = stayed w _ new (Fetch key failed) x.made (same_arms w.core.arm)
    step_fresh w new (Damage leaf sector failed) x = stayed w _ new (Damage leaf sector failed) x.made (same_arms w.core.arm)
    step_fresh w new (Offline leaf) x = stayed w _ new (Offline leaf) x.made (switched w (Leaf leaf) x.a true x.there.found)
    step_fresh w new (Online leaf) x = stayed w _ new (Online leaf) x.made (switched w (Leaf leaf) x.a false x.there.found)
    step_fresh w new (Attach slot arm) x = stayed w _ new (Attach slot arm) x.made (attached w slot arm x.last x.unused)
    step_fresh w new (Detach slot arm) x = stayed w _ new (Detach slot arm) x.made (detached w slot arm x.a x.last x.found)
    step_fresh w new Upgrade x = stayed w _ new Upgrade x.made (same_arms w.core.arm)
    step_fresh w new (Close group) x = stayed w _ new (Close group) x.made (same_arms w.core.arm)
    step_fresh w new (Seal group failed) x =
        stayed w _ new (Seal group failed) x.made (behind w.core.arm w.core.arm (λ n. log_if (x.wrote && lies_on l w.core (is_silent w.core failed.items) n) group) (same_arms w.core.arm) (λ n a t. t))
    step_fresh w new (Commit group) x = stayed w _ new (Commit group) x.made (none_left w.core.arm group)
    step_fresh w new (Plan kind) x =
        let ts = targets_of l w.core kind in
        stayed w _ new (Plan kind) x.made (behind w.core.arm w.core.arm (λ n. fill_if (not (is_heal kind) && has_name ts n) (w.open_group + 1)) (same_arms w.core.arm) (λ n a t. t))
    step_fresh w new Ready x = stayed w _ new Ready x.made (same_arms w.core.arm)
    step_fresh w new (Lend failed) x = stayed w _ new (Lend failed) x.made (same_arms w.core.arm)
    step_fresh w new (LandStripe pass serial failed) x =
        stayed w _ new (LandStripe pass serial failed) x.made (stripe_landed w x.p x.n x.h failed.items)
    step_fresh w new (LandBlock pass serial failed patched unreadable) x =
        stayed w _ new (LandBlock pass serial failed patched unreadable) x.made (block_landed w x.p x.n x.h failed.items patched.items unreadable x.whole)
    step_fresh w new (Done failed) x = subst (λ v. KeepsFresh w (Done failed) v) (sym x.made) (pass_done w x.p failed.items (Done failed) refl x.pass x.running)
    step_fresh w new Cancel x = stayed w _ new Cancel x.made (same_arms w.core.arm)
    step_fresh w new (Reopen group doubtful) x = λ n a b y z t out. inr refl
