-- An arm that is new has the first group in its log; so one that has missed nothing is no longer new.
use Rattle.std.proofs.Common.{◌≡◌, ◌+◌, ◌≤◌, ℕ, Bool, true, false, nat_le, nat_lt, List, [], ◌∷◌, Option, Some, None, refl, sym, ap, subst, inl, inr, arith, if◌then◌else◌}
use Rattle.std.proofs.lemmas.Bool.{true≢false}
use Rattle.draid_machine.specs.declared.names.ArmName.{ArmName}
use Rattle.draid_machine.specs.declared.names.ArmName.TheVariants.{Leaf, Spare}
use Rattle.draid_machine.specs.declared.event.Event.{Event}
use Rattle.draid_machine.specs.declared.event.Event.TheVariants.{Begin, Put, Finish, Abort, Free, Fetch, Damage, Offline, Online, Attach, Detach, Upgrade, Close, Seal, Commit, Plan, Ready, Lend, LandStripe, LandBlock, Done, Cancel, Reopen}
use Rattle.draid_machine.specs.Names.{up_to}
use Rattle.draid_machine.specs.State.{Layout, IsLayout, Arm, Core, Image, State}
use Rattle.draid_machine.specs.Arms.{has_moved}
use Rattle.draid_machine.specs.After.{set_arm, each_arm, fill_if, excise_if, cut_above, renew_if, attached_core, detached_core, rearranged_state, gone_state, live_state, image_of, sealed_core, is_gone_arm, unsourced, pass_over, mend_state, land_block_state}
use Rattle.draid_machine.specs.Created.{created, created_arm, new_arm, IsReached}
use Rattle.draid_machine.specs.Sound.{Sound}
use Rattle.draid_machine.specs.Step.{Step, Run}
use Rattle.draid_machine.proofs.Small.{some_injective, none_some, both_true, true_both, true_left, either_true, mapped_arm, arm_cases, kept_some, kept_if, low}
use Rattle.draid_machine.proofs.Seals.{sealed_arm}
use Rattle.draid_machine.proofs.Moves.{replan_cases}
use Rattle.draid_machine.proofs.Listing.{Listed, step_listed, created_all}
use Rattle.draid_machine.proofs.Rows.{step_sound, created_sound}

-- of some arms
abbrev Logs : (ArmName → Option Arm) → Type 0
Logs arms = (n : ArmName) (a : Arm) → arms n ≡ Some a → a.fresh ≡ true → a.log 1 ≡ true

pub record FreshLogged (w : State) : Type 0 where
  pub core : (n : ArmName) (a : Arm) → w.core.arm n ≡ Some a → a.fresh ≡ true → a.log 1 ≡ true
  pub image : (n : ArmName) (a : Arm) → w.image.core.arm n ≡ Some a → a.fresh ≡ true → a.log 1 ≡ true
  pub sealed : (img : Image) (n : ArmName) (a : Arm) → w.sealed ≡ Some img → img.core.arm n ≡ Some a → a.fresh ≡ true → a.log 1 ≡ true

each_logs : (f : ArmName → Arm → Arm) (arms : ArmName → Option Arm) → ((n : ArmName) (a : Arm) → (a.fresh ≡ true → a.log 1 ≡ true) → (f n a).fresh ≡ true → (f n a).log 1 ≡ true) → Logs arms → Logs (each_arm f arms)
each_logs f arms keeps logs n b e fresh =
    let z = mapped_arm (f n) (arms n) b e in
    subst (λ (x : Arm). x.log 1 ≡ true) (sym z.2) (keeps n z.0 (logs n z.0 z.1) (subst (λ (x : Arm). x.fresh ≡ true) z.2 fresh))

set_logs : (arms : ArmName → Option Arm) (n : ArmName) (v : Arm) → (v.fresh ≡ true → v.log 1 ≡ true) → Logs arms → Logs (set_arm arms n (Some v))
set_logs arms n v own logs m b e fresh = elim (arm_cases arms n m (Some v) b e) [
  | inl z ↦ (let same = some_injective v b z.1 in subst (λ (x : Arm). x.log 1 ≡ true) same (own (subst (λ (x : Arm). x.fresh ≡ true) (sym same) fresh)))
  | inr z ↦ logs m b z.1 fresh
]

first_group : (last : ℕ) → 1 ≤ last → up_to last 1 ≡ true
first_group last some = true_both (nat_le 1 1) (nat_le 1 last) refl (low 1 last some)

fill_keeps : (b : Bool) (last : ℕ) (a : Arm) → 1 ≤ last → (a.fresh ≡ true → a.log 1 ≡ true) → a.fresh ≡ true → (fill_if b last a).log 1 ≡ true
fill_keeps true last a some own fresh = first_group last some
fill_keeps false last a some own fresh = own fresh

renew_keeps : (b : Bool) (last : ℕ) (a : Arm) → 1 ≤ last → (a.fresh ≡ true → a.log 1 ≡ true) → (renew_if b last a).fresh ≡ true → (renew_if b last a).log 1 ≡ true
renew_keeps true last a some own fresh = first_group last some
renew_keeps false last a some own fresh = own (elim (either_true a.fresh false fresh) [ inl is ↦ is | inr is ↦ absurd (true≢false (sym is)) ])

excise_keeps : (b : Bool) (last : ℕ) (a : Arm) → (a.fresh ≡ true → a.log 1 ≡ true) → (excise_if b last a).fresh ≡ true → (excise_if b last a).log 1 ≡ true
excise_keeps true last a own fresh = absurd (true≢false (sym (both_true a.fresh false fresh).1))
excise_keeps false last a own fresh = true_both (a.log 1) true (own (both_true a.fresh true fresh).0) refl

module _ (l : Layout) (lay : IsLayout l) where
  opened : (w : State) → Sound l w → 1 ≤ w.open_group
  opened w s = by w.closing refl
    where
      by : (o : Option ℕ) → w.closing ≡ o → 1 ≤ w.open_group
      by None e = let z = (s.groups.idle e).0 in omega (arith, z)
      by (Some t) e = let z = (s.groups.closing_is t e).1 in omega (arith, z)

  rearranged_logs : (w : State) (last : ℕ) (q : Core) → 1 ≤ last → Logs q.arm → Logs (rearranged_state l w last q).core.arm
  rearranged_logs w last q some logs = each_logs (λ n. renew_if (has_moved l w.core q n) last) q.arm (λ n a own. renew_keeps (has_moved l w.core q n) last a some own) logs

  step_logs : (w : State) (e : Event) (new : State) → Step l w e new → Sound l w → FreshLogged w → FreshLogged new
  step_logs w (Begin key first stripes len birth digest) new x sound s = subst FreshLogged (sym x.made) (record { core = s.core; image = s.image; sealed = s.sealed })
  step_logs w (Put key landed failed) new x sound s =
      subst FreshLogged (sym x.made) (record { core = each_logs _ w.core.arm (λ n a own fresh. true_left (a.log 1) _ (own fresh)) s.core; image = s.image; sealed = s.sealed })
  step_logs w (Finish key) new x sound s = subst FreshLogged (sym x.made) (by (nat_lt l.parity x.m))
    where
      by : (b : Bool) → FreshLogged (if b then gone_state w key else live_state w key x.h)
      by true = record { core = s.core; image = s.image; sealed = s.sealed }
      by false = record { core = s.core; image = s.image; sealed = s.sealed }
  step_logs w (Abort key) new x sound s = subst FreshLogged (sym x.made) (record { core = s.core; image = s.image; sealed = s.sealed })
  step_logs w (Free key group) new x sound s = subst FreshLogged (sym x.made) (record { core = s.core; image = s.image; sealed = s.sealed })
  step_logs w (Fetch key failed) new x sound s = subst FreshLogged (sym x.made) s
  step_logs w (Damage leaf sector failed) new x sound s = subst FreshLogged (sym x.made) s
  step_logs w (Offline leaf) new x sound s =
      subst FreshLogged (sym x.made) (record { core = set_logs w.core.arm (Leaf leaf) _ (s.core (Leaf leaf) x.a x.there.found) s.core; image = s.image; sealed = s.sealed })
  step_logs w (Online leaf) new x sound s =
      subst FreshLogged (sym x.made) (record { core = set_logs w.core.arm (Leaf leaf) _ (s.core (Leaf leaf) x.a x.there.found) s.core; image = s.image; sealed = s.sealed })
  step_logs w (Attach slot arm) new x sound s =
      subst FreshLogged (sym x.made) (replan_cases l FreshLogged r (has_moved l w.core (attached_core w.core slot arm x.last)) w.core.pass
      (λ none. record { core = logs; image = s.image; sealed = s.sealed })
      (λ p pass heal. record { core = logs; image = s.image; sealed = s.sealed })
      (λ p pass rebuild. record { core = each_logs _ r.core.arm (λ n a own fresh. fill_keeps _ (r.open_group + 1) a (omega arith) own fresh) logs; image = s.image; sealed = s.sealed }))
    where
      some : 1 ≤ x.last
      some = (let a = opened w sound in let b = x.last_is.open_group in omega (arith, a, b))

      r : State
      r = rearranged_state l w x.last (attached_core w.core slot arm x.last)

      logs : Logs (rearranged_state l w x.last (attached_core w.core slot arm x.last)).core.arm
      logs = rearranged_logs w x.last (attached_core w.core slot arm x.last) some (set_logs w.core.arm arm _ (λ fresh. first_group x.last some) s.core)
  step_logs w (Detach slot arm) new x sound s =
      let some : 1 ≤ x.last = (let a = opened w sound in let b = x.last_is.open_group in omega (arith, a, b)) in
      subst FreshLogged (sym x.made) (record {
        core = rearranged_logs w x.last (detached_core w.core slot arm x.a w.open_group) some (set_logs w.core.arm arm _ (s.core arm x.a x.found) s.core);
        image = s.image;
        sealed = s.sealed;
      })
  step_logs w Upgrade new x sound s = subst FreshLogged (sym x.made) (record { core = s.core; image = s.image; sealed = s.sealed })
  step_logs w (Close group) new x sound s = subst FreshLogged (sym x.made) (record { core = s.core; image = s.image; sealed = s.sealed })
  step_logs w (Seal group failed) new x sound s =
      let q = sealed_core l w.core group failed.items x.wrote in
      let now : Logs q.arm = each_logs _ w.core.arm (λ n a own fresh. true_left (a.log 1) _ (own fresh)) s.core in
      subst FreshLogged (sym x.made) (record {
        core = now;
        image = s.image;
        sealed = λ img n a e arm fresh. (let f : Image → Type 0 = λ i. i.core.arm n ≡ Some a in
            let there : (image_of group w.asked q).core.arm n ≡ Some a = subst f (sym (some_injective (image_of group w.asked q) img e)) arm in
            now n a (sealed_arm (q.arm n) a there) fresh);
      })
  step_logs w (Commit group) new x sound s =
      subst FreshLogged (sym x.made) (record {
        core = λ n a e fresh. s.core n a (kept_some (is_gone_arm group (w.core.arm n)) (w.core.arm n) a e).1 fresh;
        image = λ n a e fresh. s.sealed x.image n a x.sealed e fresh;
        sealed = λ i n a e. absurd (none_some None i refl e);
      })
  step_logs w (Plan kind) new x sound s =
      subst FreshLogged (sym x.made) (record { core = each_logs _ w.core.arm (λ n a own fresh. fill_keeps _ (w.open_group + 1) a (omega arith) own fresh) s.core; image = s.image; sealed = s.sealed })
  step_logs w Ready new x sound s = subst FreshLogged (sym x.made) (record { core = s.core; image = s.image; sealed = s.sealed })
  step_logs w (Lend failed) new x sound s = subst FreshLogged (sym x.made) (record { core = s.core; image = s.image; sealed = s.sealed })
  step_logs w (LandStripe pass serial failed) new x sound s = subst FreshLogged (sym x.made) (by (nat_lt l.parity (unsourced l x.n)))
    where
      by : (b : Bool) → FreshLogged (if b then pass_over w x.p 1 (x.n.stripe + 1) else mend_state l w x.p x.n x.h failed.items)
      by true = record { core = s.core; image = s.image; sealed = s.sealed }
      by false = record { core = s.core; image = s.image; sealed = s.sealed }
  step_logs w (LandBlock pass serial failed patched unreadable) new x sound s = subst FreshLogged (sym x.made) (by unreadable)
    where
      by : (b : Bool) → FreshLogged (land_block_state l w x.p x.n x.h failed.items patched.items b x.whole)
      by true = record { core = s.core; image = s.image; sealed = s.sealed }
      by false = record { core = s.core; image = s.image; sealed = s.sealed }
  step_logs w (Done failed) new x sound s =
      subst FreshLogged (sym x.made) (record { core = each_logs _ w.core.arm (λ n a own fresh. excise_keeps _ _ a own fresh) s.core; image = s.image; sealed = s.sealed })
  step_logs w Cancel new x sound s = subst FreshLogged (sym x.made) (record { core = s.core; image = s.image; sealed = s.sealed })
  step_logs w (Reopen group doubtful) new x sound s =
      subst FreshLogged (sym x.made) (record {
        core = each_logs (λ n. cut_above x.image.group) x.image.core.arm (λ n a own fresh. true_both (a.log 1) (nat_le 1 x.image.group) (own fresh) (low 1 x.image.group some)) own_logs;
        image = own_logs;
        sealed = λ i n a e. absurd (none_some None i refl e);
      })
    where
      own_logs : Logs x.image.core.arm
      own_logs = elim x.one [
        | inl z ↦ subst (λ (i : Image). Logs i.core.arm) z.0 s.image
        | inr z ↦ λ n a e fresh. s.sealed x.image n a z.0 e fresh
      ]

      some : 1 ≤ x.image.group
      some = elim x.one [
        | inl z ↦ (let a = sound.groups.some in let b = sound.groups.image_is in let c = ap (λ (i : Image). i.group) z.0 in omega (arith, a, b, c))
        | inr z ↦ (let a = sound.groups.some in let b = sound.groups.sealed_is x.image z.0 in let c = (sound.groups.closing_is x.image.group b).0 in omega (arith, a, c))
      ]

  run_logs : (w : State) (es : List Event) (new : State) → Run l w es new → Listed w → Sound l w → FreshLogged w → FreshLogged new
  run_logs w [] new is listed sound s = subst FreshLogged (sym is) s
  run_logs w (e ∷ es) new r listed sound s = run_logs r.0 es new r.2 (step_listed l lay w e r.0 r.1 listed) (step_sound l lay w e r.0 r.1 listed.core sound) (step_logs w e r.0 r.1 sound s)

  no_fresh : (n : ArmName) (a : Arm) → created_arm l n ≡ Some a → a.fresh ≡ true → a.log 1 ≡ true
  no_fresh (Leaf m) a e fresh = absurd (true≢false (sym (subst (λ (x : Arm). x.fresh ≡ true) (sym (kept_if (nat_lt m l.slots) new_arm a e).1) fresh)))
  no_fresh (Spare t) a e fresh = absurd (none_some None a refl e)

  pub every_fresh : (w : State) → IsReached l w → FreshLogged w
  every_fresh w r = run_logs (created l r.version) r.events w r.run (created_all l lay r.version) (created_sound l lay r.version)
      (record { core = no_fresh; image = no_fresh; sealed = λ i n a e. absurd (none_some None i refl e) })
