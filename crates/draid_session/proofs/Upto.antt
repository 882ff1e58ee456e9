-- While a rebuild is there, nothing was born behind its last group, and no log of a target has a later one; so its targets have missed nothing where it ends without errors.
use Rattle.std.proofs.Common.{◌≡◌, ◌+◌, ◌≤◌, ◌⊎◌, ◌&&◌, ◌==◌, not, ℕ, Bool, true, false, nat_le, nat_lt, List, [], ◌∷◌, Option, Some, None, cond, refl, sym, ◌∙◌, ap, subst, inl, inr, arith, if◌then◌else◌}
use Rattle.std.specs.Prelude.{count_by}
use Rattle.std.specs.List.{fold}
use Rattle.std.proofs.lemmas.Bool.{true≢false}
use Rattle.draid_names.specs.declared.pass_kind.PassKind.{PassKind}
use Rattle.draid_names.specs.declared.pass_kind.PassKind.TheVariants.{Rebuild, Heal}
use Rattle.draid_machine.specs.declared.names.Key.{Key}
use Rattle.draid_machine.specs.declared.names.ArmName.{ArmName}
use Rattle.draid_machine.specs.declared.names.ArmName.TheVariants.{Leaf}
use Rattle.draid_machine.specs.declared.names.Held.{Held}
use Rattle.draid_machine.specs.declared.names.Stage.{Stage}
use Rattle.draid_machine.specs.declared.event.Patched.{Patched}
use Rattle.draid_machine.specs.declared.event.Event.{Event}
use Rattle.draid_machine.specs.declared.event.Event.TheVariants.{Begin, Put, Finish, Abort, Free, Fetch, Damage, Offline, Online, Attach, Detach, Upgrade, Close, Seal, Commit, Plan, Ready, Lend, LandStripe, LandBlock, Done, Cancel, Reopen}
use Rattle.draid_machine.specs.Names.{has_name, name_eq}
use Rattle.draid_machine.specs.State.{Layout, IsLayout, Arm, Pass, Core, Loan, Image, State}
use Rattle.draid_machine.specs.Arms.{HasEmptyLog, has_moved, is_silent, lies_on, logged, targets_of}
use Rattle.draid_machine.specs.After.{set_held, set_arm, each_arm, map_arm, map_pass, log_if, fill_if, excise_if, cut_above, lose_some, lose_targets, attached_core, rearranged_state, attach_state, gone_state, live_state, finish_state, image_of, sealed_core, is_freed_block, is_gone_arm, plan_state, unsourced, pass_over, mend_state, land_stripe_state, land_block_state, ended_pass}
use Rattle.draid_machine.specs.Created.{created, IsReached}
use Rattle.draid_machine.specs.Sound.{Sound}
use Rattle.draid_machine.specs.Step.{DoneStep, HasWritten, Step, Run}
use Rattle.draid_machine.proofs.Small.{some_injective, some_same, none_some, both_true, either_true, mapped_arm, mapped_pass, arm_cases, held_cases, kept_some, is_equal, is_low, has_filter, filter_has, not_false, no_more_errors, equal, low, name_true, true_both}
use Rattle.draid_machine.proofs.Seals.{sealed_arm, sealed_held}
use Rattle.draid_machine.proofs.Moves.{replan_cases}
use Rattle.draid_machine.proofs.Listing.{Listed, step_listed, created_all}
use Rattle.draid_machine.proofs.Rows.{step_sound, created_sound}
use Rattle.draid_machine.proofs.Tickets.{rebuild_heal}

-- of what is held, and of the logs
pub record IsUpto (q : Core) : Type 0 where
  pub births : (p : Pass) (k : Key) (h : Held) → q.pass ≡ Some p → p.kind ≡ Rebuild → q.held k ≡ Some h → h.birth ≤ p.max
  pub logs : (p : Pass) (n : ArmName) (a : Arm) (g : ℕ) → q.pass ≡ Some p → p.kind ≡ Rebuild → has_name p.targets n ≡ true → q.arm n ≡ Some a → a.log g ≡ true → g ≤ p.max

pub record AllUpto (w : State) : Type 0 where
  pub core : IsUpto w.core
  pub image : IsUpto w.image.core
  pub sealed : (img : Image) → w.sealed ≡ Some img → IsUpto img.core

-- ---- what an event does to them

no_rebuild : (q : Core) → ((p : Pass) → q.pass ≡ Some p → p.kind ≡ Rebuild → ⊥) → IsUpto q
no_rebuild q none = record { births = λ p k h e r. absurd (none p e r); logs = λ p n a g e r. absurd (none p e r) }

-- a rebuild stays, with targets that it had
abbrev Narrows : Option Pass → Option Pass → Type 0
Narrows old new = (p : Pass) → new ≡ Some p → p.kind ≡ Rebuild → (r : Pass) × (old ≡ Some r) × (r.kind ≡ Rebuild) × (r.max ≡ p.max) × ((n : ArmName) → has_name p.targets n ≡ true → has_name r.targets n ≡ true)

-- what is held was held
abbrev Born : (Key → Option Held) → (Key → Option Held) → Type 0
Born old new = (k : Key) (h : Held) → new k ≡ Some h → (j : Key) × (i : Held) × (old j ≡ Some i) × (h.birth ≡ i.birth)

abbrev IsBirth : Core → ℕ → Type 0
IsBirth q g = (k : Key) × (h : Held) × (q.held k ≡ Some h) × (h.birth ≡ g)

-- logs get groups in which something was born
abbrev Logged : Core → (ArmName → Option Arm) → Type 0
Logged q new = (n : ArmName) (b : Arm) (g : ℕ) → new n ≡ Some b → b.log g ≡ true → ((a : Arm) × (q.arm n ≡ Some a) × (a.log g ≡ true)) ⊎ IsBirth q g

narrower : (q r : Core) → Narrows q.pass r.pass → Born q.held r.held → Logged q r.arm → IsUpto q → IsUpto r
narrower q r pass held arm s = record {
  births = λ p k h e rebuild found. (
      let z = pass p e rebuild in
      let b = held k h found in
      let low = s.births z.0 b.0 b.1 z.1 z.2 b.2 in
      let same = b.3 in
      let max = z.3 in
      omega (arith, low, same, max)
      );
  logs = λ p n b g e rebuild target found t. (
      let z = pass p e rebuild in
      let max = z.3 in
      elim (arm n b g found t) [
        | inl was ↦ (let low = s.logs z.0 n was.0 g z.1 z.2 (z.4 n target) was.1 was.2 in omega (arith, low, max))
        | inr born ↦ (let low = s.births z.0 born.0 born.1 z.1 z.2 born.2 in let same = born.3 in omega (arith, low, max, same))
      ]
      );
}

same_pass : (o : Option Pass) → Narrows o o
same_pass o p e rebuild = (p, e, rebuild, refl, λ n t. t)

no_pass : (o : Option Pass) → Narrows o None
no_pass o p e rebuild = absurd (none_some None p refl e)

new_pass : (o : Option Pass) (p p' : Pass) → o ≡ Some p → p'.kind ≡ p.kind → p'.max ≡ p.max → ((n : ArmName) → has_name p'.targets n ≡ true → has_name p.targets n ≡ true) → Narrows o (Some p')
new_pass o p p' is kind max fewer r e rebuild =
    let same = some_injective p' r e in
    (p, is, sym kind ∙ (ap (λ (v : Pass). v.kind) same ∙ rebuild), sym max ∙ ap (λ (v : Pass). v.max) same, λ n t. fewer n (subst (λ (v : Pass). has_name v.targets n ≡ true) (sym same) t))

lost_pass : (bad : ArmName → Bool) (o : Option Pass) → Narrows o (map_pass (lose_some bad) o)
lost_pass bad o p e rebuild =
    let z = mapped_pass (lose_some bad) o p e in
    (z.0, z.1, sym (ap (λ (v : Pass). v.kind) z.2) ∙ rebuild, sym (ap (λ (v : Pass). v.max) z.2), λ n t. (has_filter (λ m. not (bad m)) z.0.targets n (subst (λ (v : Pass). has_name v.targets n ≡ true) z.2 t)).0)

same_held : (f : Key → Option Held) → Born f f
same_held f k h e = (k, h, e, refl)

staged : (f : Key → Option Held) (k : Key) (h : Held) (st : Stage) → f k ≡ Some h → Born f (set_held f k (Some (record h { stage = st })))
staged f k h st found j i e = elim (held_cases f k j (Some (record h { stage = st })) i e) [
  | inl z ↦ (k, h, found, sym (ap (λ (v : Held). v.birth) (some_injective (record h { stage = st }) i z.1)))
  | inr z ↦ (j, i, z.1, refl)
]

gone : (f : Key → Option Held) (k : Key) → Born f (set_held f k None)
gone f k j i e = elim (held_cases f k j None i e) [
  | inl z ↦ absurd (none_some None i refl z.1)
  | inr z ↦ (j, i, z.1, refl)
]

same_arms : (q : Core) → Logged q q.arm
same_arms q n b g e t = inl (b, e, t)

each_logged : (q : Core) (f : ArmName → Arm → Arm) → ((n : ArmName) (a : Arm) (g : ℕ) → (f n a).log g ≡ true → (a.log g ≡ true) ⊎ IsBirth q g) → Logged q (each_arm f q.arm)
each_logged q f new n b g e t =
    let z = mapped_arm (f n) (q.arm n) b e in
    elim (new n z.0 g (subst (λ (x : Arm). x.log g ≡ true) z.2 t)) [
      | inl was ↦ inl (z.0, z.1, was)
      | inr born ↦ inr born
    ]

set_logged : (q : Core) (n : ArmName) (a v : Arm) → q.arm n ≡ Some a → ((g : ℕ) → v.log g ≡ true → a.log g ≡ true) → Logged q (set_arm q.arm n (Some v))
set_logged q n a v found same m b g e t = elim (arm_cases q.arm n m (Some v) b e) [
  | inl z ↦ inl (a, subst (λ k. q.arm k ≡ Some a) z.0 found, same g (subst (λ (x : Arm). x.log g ≡ true) (sym (some_injective v b z.1)) t))
  | inr z ↦ inl (b, z.1, t)
]

logged_one : (q : Core) (b : Bool) (group g : ℕ) (a : Arm) → (b ≡ true → IsBirth q group) → (log_if b group a).log g ≡ true → (a.log g ≡ true) ⊎ IsBirth q g
logged_one q b group g a born t = elim (either_true (a.log g) (b && (g == group)) t) [
  | inl was ↦ inl was
  | inr new ↦ (
      let z = both_true b (g == group) new in
      let k = born z.0 in
      inr (k.0, k.1, k.2, k.3 ∙ sym (is_equal g group z.1)))
]

-- a rebuild is planned: what is held was born up to the group behind the open one
plan_upto : (w : State) (kind : PassKind) (targets : List ArmName) → ((k : Key) (h : Held) → w.core.held k ≡ Some h → h.birth ≤ w.open_group + 1) → IsUpto (plan_state w kind targets).core
plan_upto w Heal targets births = no_rebuild _ (λ p e rebuild. rebuild_heal p.kind rebuild (sym (ap (λ (v : Pass). v.kind) (some_injective _ p e))))
plan_upto w Rebuild targets births = record {
  births = λ p k h e rebuild found. (
      let low = births k h found in
      let max : w.open_group + 1 ≡ p.max = ap (λ (v : Pass). v.max) (some_injective _ p e) in
      omega (arith, low, max)
      );
  logs = λ p n b g e rebuild target found t. (
      let same = some_injective _ p e in
      let max : w.open_group + 1 ≡ p.max = ap (λ (v : Pass). v.max) same in
      let own : has_name targets n ≡ true = subst (λ ns. has_name ns n ≡ true) (sym (ap (λ (v : Pass). v.targets) same)) target in
      let z = mapped_arm (fill_if (has_name targets n) (w.open_group + 1)) (w.core.arm n) b found in
      let high = filled (has_name targets n) (w.open_group + 1) g z.0 own (subst (λ (x : Arm). x.log g ≡ true) z.2 t) in
      omega (arith, high, max)
      );
}
  where
    filled : (b : Bool) (last g : ℕ) (a : Arm) → b ≡ true → (fill_if b last a).log g ≡ true → g ≤ last
    filled true last g a is t = is_low g last (both_true (nat_le 1 g) (nat_le g last) t).1
    filled false last g a is t = absurd (true≢false (sym is))

module _ (l : Layout) (lay : IsLayout l) where
  finish_upto : (w : State) (k : Key) (h : Held) (m : ℕ) → w.core.held k ≡ Some h → AllUpto w → AllUpto (finish_state l w k h m)
  finish_upto w k h m found s = by (nat_lt l.parity m)
    where
      by : (b : Bool) → AllUpto (if b then gone_state w k else live_state w k h)
      by true = record { core = narrower w.core _ (same_pass w.core.pass) (gone w.core.held k) (same_arms w.core) s.core; image = s.image; sealed = s.sealed }
      by false = record { core = narrower w.core _ (same_pass w.core.pass) (staged w.core.held k h _ found) (same_arms w.core) s.core; image = s.image; sealed = s.sealed }

  stripe_upto : (w : State) (p : Pass) (n : Loan) (h : Held) (failed : List ℕ) → w.core.pass ≡ Some p → AllUpto w → AllUpto (land_stripe_state l w p n h failed)
  stripe_upto w p n h failed pass s = by (nat_lt l.parity (unsourced l n))
    where
      by : (b : Bool) → AllUpto (if b then pass_over w p 1 (n.stripe + 1) else mend_state l w p n h failed)
      by true = record { core = narrower w.core _ (new_pass w.core.pass p _ pass refl refl (λ m t. t)) (same_held w.core.held) (same_arms w.core) s.core; image = s.image; sealed = s.sealed }
      by false = record {
        core = narrower w.core _ (new_pass w.core.pass p _ pass refl refl (λ m t. (has_filter _ p.targets m t).0)) (same_held w.core.held) (same_arms w.core) s.core;
        image = s.image;
        sealed = s.sealed;
      }

  block_upto : (w : State) (p : Pass) (n : Loan) (h : Held) (failed : List ℕ) (patched : List Patched) (unreadable whole : Bool) → w.core.pass ≡ Some p → AllUpto w
      → AllUpto (land_block_state l w p n h failed patched unreadable whole)
  block_upto w p n h failed patched true whole pass s =
      record { core = narrower w.core _ (new_pass w.core.pass p _ pass refl refl (λ m t. t)) (same_held w.core.held) (same_arms w.core) s.core; image = s.image; sealed = s.sealed }
  block_upto w p n h failed patched false whole pass s = record {
    core = narrower w.core _ (new_pass w.core.pass p _ pass refl refl (λ m t. (has_filter _ p.targets m t).0)) (same_held w.core.held) (same_arms w.core) s.core;
    image = s.image;
    sealed = s.sealed;
  }

  attach_upto : (w : State) (slot : ℕ) (n : ArmName) (last : ℕ) → Sound l w → AllUpto w → AllUpto (attach_state l w slot n last)
  attach_upto w slot n last sound s =
      replan_cases l AllUpto r (has_moved l w.core (attached_core w.core slot n last)) w.core.pass
      (λ none. record { core = no_rebuild _ (λ p e rebuild. none_some w.core.pass p none e); image = s.image; sealed = s.sealed })
      (λ p pass heal. record { core = no_rebuild _ (λ q e rebuild. rebuild_heal q.kind rebuild (sym (ap (λ (v : Pass). v.kind) (some_injective _ q e)) ∙ heal)); image = s.image; sealed = s.sealed })
      (λ p pass rebuild. record { core = plan_upto r Rebuild (targets_of l r.core Rebuild) sound.core.births; image = s.image; sealed = s.sealed })
    where
      r : State
      r = rearranged_state l w last (attached_core w.core slot n last)

  seal_upto : (w : State) (t : ℕ) (failed : List ℕ) (wrote : Bool) → (wrote ≡ true → HasWritten w.core t) → AllUpto w
      → (IsUpto (sealed_core l w.core t failed wrote)) × (IsUpto (image_of t w.asked (sealed_core l w.core t failed wrote)).core)
  seal_upto w t failed wrote writes s = (now, image)
    where
      now : IsUpto (sealed_core l w.core t failed wrote)
      now = narrower w.core _ (lost_pass (lies_on l w.core (is_silent w.core failed)) w.core.pass) (same_held w.core.held)
          (each_logged w.core (λ n. log_if (wrote && lies_on l w.core (is_silent w.core failed) n) t) (λ n a g z.
          logged_one w.core (wrote && lies_on l w.core (is_silent w.core failed) n) t g a
          (λ both. (let h = writes (both_true wrote (lies_on l w.core (is_silent w.core failed) n) both).0 in (h.key, h.h, h.found, h.born))) z)) s.core

      image : IsUpto (image_of t w.asked (sealed_core l w.core t failed wrote)).core
      image = narrower (sealed_core l w.core t failed wrote) _ (same_pass _)
          (λ k h e. (let z = sealed_held t (w.core.held k) h e in (k, z.h, z.found, ap (λ (v : Held). v.birth) z.is)))
          (λ n a g e z. inl (a, sealed_arm _ a e, z)) now

  step_upto : (w : State) (e : Event) (new : State) → Step l w e new → Sound l w → AllUpto w → AllUpto new
  step_upto w (Begin key first stripes len birth digest) new x sound s =
      subst AllUpto (sym x.made) (record { core = no_rebuild _ (λ p is rebuild. rebuild_heal p.kind rebuild (x.enabled p is)); image = s.image; sealed = s.sealed })
  step_upto w (Put key landed failed) new x sound s =
      subst AllUpto (sym x.made) (record {
        core = narrower w.core _ (same_pass w.core.pass) (staged w.core.held key x.h _ x.found)
            (each_logged w.core _ (λ n a g z. logged_one w.core _ x.h.birth g a (λ b. (key, x.h, x.found, refl)) z)) s.core;
        image = s.image;
        sealed = s.sealed;
      })
  step_upto w (Finish key) new x sound s = subst AllUpto (sym x.made) (finish_upto w key x.h x.m x.found s)
  step_upto w (Abort key) new x sound s =
      subst AllUpto (sym x.made) (record { core = narrower w.core _ (same_pass w.core.pass) (gone w.core.held key) (same_arms w.core) s.core; image = s.image; sealed = s.sealed })
  step_upto w (Free key group) new x sound s =
      subst AllUpto (sym x.made) (record { core = narrower w.core _ (same_pass w.core.pass) (staged w.core.held key x.h _ x.found) (same_arms w.core) s.core; image = s.image; sealed = s.sealed })
  step_upto w (Fetch key failed) new x sound s = subst AllUpto (sym x.made) s
  step_upto w (Damage leaf sector failed) new x sound s = subst AllUpto (sym x.made) s
  step_upto w (Offline leaf) new x sound s =
      subst AllUpto (sym x.made) (record { core = narrower w.core _ (same_pass w.core.pass) (same_held w.core.held) (set_logged w.core (Leaf leaf) x.a _ x.there.found (λ g t. t)) s.core; image = s.image; sealed = s.sealed })
  step_upto w (Online leaf) new x sound s =
      subst AllUpto (sym x.made) (record { core = narrower w.core _ (same_pass w.core.pass) (same_held w.core.held) (set_logged w.core (Leaf leaf) x.a _ x.there.found (λ g t. t)) s.core; image = s.image; sealed = s.sealed })
  step_upto w (Attach slot arm) new x sound s = subst AllUpto (sym x.made) (attach_upto w slot arm x.last sound s)
  step_upto w (Detach slot arm) new x sound s =
      subst AllUpto (sym x.made) (record { core = no_rebuild _ (λ p e rebuild. none_some w.core.pass p x.idle e); image = s.image; sealed = s.sealed })
  step_upto w Upgrade new x sound s = subst AllUpto (sym x.made) (record { core = s.core; image = s.image; sealed = s.sealed })
  step_upto w (Close group) new x sound s = subst AllUpto (sym x.made) (record { core = s.core; image = s.image; sealed = s.sealed })
  step_upto w (Seal group failed) new x sound s =
      let z = seal_upto w group failed.items x.wrote x.writes s in
      subst AllUpto (sym x.made) (record { core = z.0; image = s.image; sealed = λ img e. subst (λ (i : Image). IsUpto i.core) (some_injective _ img e) z.1 })
  step_upto w (Commit group) new x sound s =
      subst AllUpto (sym x.made) (record {
        core = narrower w.core _ (same_pass w.core.pass) (λ k h e. (k, h, (kept_some (is_freed_block group (w.core.held k)) (w.core.held k) h e).1, refl))
            (λ n b g e t. inl (b, (kept_some (is_gone_arm group (w.core.arm n)) (w.core.arm n) b e).1, t)) s.core;
        image = s.sealed x.image x.sealed;
        sealed = λ i e. absurd (none_some None i refl e);
      })
  step_upto w (Plan kind) new x sound s = subst AllUpto (sym x.made) (record { core = plan_upto w kind _ sound.core.births; image = s.image; sealed = s.sealed })
  step_upto w Ready new x sound s =
      subst AllUpto (sym x.made) (record { core = narrower w.core _ (new_pass w.core.pass x.p _ x.pass refl refl (λ n t. t)) (same_held w.core.held) (same_arms w.core) s.core; image = s.image; sealed = s.sealed })
  step_upto w (Lend failed) new x sound s =
      subst AllUpto (sym x.made) (record { core = narrower w.core _ (new_pass w.core.pass x.p _ x.pass refl refl (λ n t. t)) (same_held w.core.held) (same_arms w.core) s.core; image = s.image; sealed = s.sealed })
  step_upto w (LandStripe pass serial failed) new x sound s = subst AllUpto (sym x.made) (stripe_upto w x.p x.n x.h failed.items x.counts.pass_is s)
  step_upto w (LandBlock pass serial failed patched unreadable) new x sound s = subst AllUpto (sym x.made) (block_upto w x.p x.n x.h failed.items patched.items unreadable x.whole x.counts.pass_is s)
  step_upto w (Done failed) new x sound s = subst AllUpto (sym x.made) (record { core = no_rebuild _ (λ p e rebuild. absurd (none_some None p refl e)); image = s.image; sealed = s.sealed })
  step_upto w Cancel new x sound s = subst AllUpto (sym x.made) (record { core = no_rebuild _ (λ p e rebuild. absurd (none_some None p refl e)); image = s.image; sealed = s.sealed })
  step_upto w (Reopen group doubtful) new x sound s =
      subst AllUpto (sym x.made) (record {
        core = narrower x.image.core _ (same_pass x.image.core.pass) (same_held x.image.core.held)
            (each_logged x.image.core (λ n. cut_above x.image.group) (λ n a g z. inl (both_true (a.log g) (nat_le g x.image.group) z).0)) own;
        image = own;
        sealed = λ i e. absurd (none_some None i refl e);
      })
    where
      own : IsUpto x.image.core
      own = elim x.one [
        | inl z ↦ subst (λ (i : Image). IsUpto i.core) z.0 s.image
        | inr z ↦ s.sealed x.image z.0
      ]

  run_upto : (w : State) (es : List Event) (new : State) → Run l w es new → Listed w → Sound l w → AllUpto w → AllUpto new
  run_upto w [] new is listed sound s = subst AllUpto (sym is) s
  run_upto w (e ∷ es) new r listed sound s =
      run_upto r.0 es new r.2 (step_listed l lay w e r.0 r.1 listed) (step_sound l lay w e r.0 r.1 listed.core sound) (step_upto w e r.0 r.1 sound s)

  created_upto : (version : ℕ) → AllUpto (created l version)
  created_upto version = record {
    core = no_rebuild _ (λ p e rebuild. absurd (none_some None p refl e));
    image = no_rebuild _ (λ p e rebuild. absurd (none_some None p refl e));
    sealed = λ i e. absurd (none_some None i refl e);
  }

  pub every_upto : (w : State) → IsReached l w → AllUpto w
  every_upto w r = run_upto (created l r.version) r.events w r.run (created_all l lay r.version) (created_sound l lay r.version) (created_upto r.version)

-- ---- the end of a rebuild

none_more : (b : Bool) (a : ℕ) → a + cond b 1 0 ≡ 0 → (a ≡ 0) × (b ≡ false)
none_more true a none = absurd (omega (arith, none))
none_more false a none = (omega (arith, none), refl)

-- where none of a list passes a test, none that it has does
counted_from : (bad : ArmName → Bool) (ns : List ArmName) (a : ℕ) → fold (λ a x. a + cond (bad x) 1 0) a ns ≡ 0 → (a ≡ 0) × ((n : ArmName) → has_name ns n ≡ true → bad n ≡ false)
counted_from bad [] a none = (none, λ n at. absurd (true≢false (sym at)))
counted_from bad (m ∷ ns) a none =
    let rest = counted_from bad ns (a + cond (bad m) 1 0) none in
    let first = none_more (bad m) a rest.0 in (
      first.0,
      λ n at. elim (either_true (name_eq m n) (has_name ns n) at) [
        | inl here ↦ subst (λ k. bad k ≡ false) (name_true m n here) first.1
        | inr there ↦ rest.1 n there
      ],
    )

pub none_counted : (bad : ArmName → Bool) (ns : List ArmName) (n : ArmName) → count_by bad ns ≡ 0 → has_name ns n ≡ true → bad n ≡ false
none_counted bad ns n none at = (counted_from bad ns 0 none).1 n at

module _ (l : Layout) (lay : IsLayout l) where
  pub ended_empty : (w new : State) (failed : List ℕ) (p : Pass) (n : ArmName) → IsReached l w → DoneStep l w failed new → w.core.pass ≡ Some p → p.kind ≡ Rebuild → (ended_pass l w.core p failed).errors ≡ 0
      → has_name p.targets n ≡ true → HasEmptyLog new.core n
  ended_empty w new failed p n reached s pass rebuild errors target g =
      subst (λ (v : State). logged (v.core.arm n) g ≡ false) (sym s.made) (of_arm s.p same (w.core.arm n) refl)
    where
      same : s.p ≡ p
      same = some_same w.core.pass s.p p s.pass pass

      -- what a rebuild is as it ends
      ended_is : (q : Pass) → q.kind ≡ Rebuild → ended_pass l w.core q failed ≡ lose_targets (lies_on l w.core (is_silent w.core failed)) (count_by (lies_on l w.core (is_silent w.core failed)) q.targets) q
      ended_is q kind = rw kind refl

      none_lost : count_by (lies_on l w.core (is_silent w.core failed)) p.targets ≡ 0
      none_lost = no_more_errors p.errors (count_by (lies_on l w.core (is_silent w.core failed)) p.targets) (sym (ap (λ (q : Pass). q.errors) (ended_is p rebuild)) ∙ errors)

      stays : has_name (ended_pass l w.core p failed).targets n ≡ true
      stays = subst (λ (q : Pass). has_name q.targets n ≡ true) (sym (ended_is p rebuild))
          (filter_has (λ m. not (lies_on l w.core (is_silent w.core failed) m)) p.targets n target (not_false (lies_on l w.core (is_silent w.core failed) n) (none_counted (lies_on l w.core (is_silent w.core failed)) p.targets n none_lost target)))

      max_is : (ended_pass l w.core p failed).max ≡ p.max
      max_is = ap (λ (q : Pass). q.max) (ended_is p rebuild)

      off : (log test low : Bool) → (log ≡ true → low ≡ true) → test ≡ true → (log && not (test && low)) ≡ false
      off false test low high is = refl
      off true test low high is = rw (is, high refl) refl

      of_arm : (q : Pass) → q ≡ p → (o : Option Arm) → w.core.arm n ≡ o
          → logged (map_arm (excise_if (((ended_pass l w.core q failed).errors == 0) && has_name (ended_pass l w.core q failed).targets n) (ended_pass l w.core q failed).max) o) g ≡ false
      of_arm q is None found = refl
      of_arm q is (Some a) found =
          subst (λ (r : Pass). (a.log g && not ((((ended_pass l w.core r failed).errors == 0) && has_name (ended_pass l w.core r failed).targets n) && nat_le g (ended_pass l w.core r failed).max)) ≡ false) (sym is)
          (off (a.log g) (((ended_pass l w.core p failed).errors == 0) && has_name (ended_pass l w.core p failed).targets n) (nat_le g (ended_pass l w.core p failed).max)
          (λ t. low g ((ended_pass l w.core p failed).max) (subst (λ k. g ≤ k) (sym max_is) ((every_upto l lay w reached).core.logs p n a g pass rebuild target found t)))
          (true_both ((ended_pass l w.core p failed).errors == 0) (has_name (ended_pass l w.core p failed).targets n) (equal ((ended_pass l w.core p failed).errors) 0 errors) stays))
