-- Every legal event keeps the logs within the groups from 1 to the one after the open one.
use Rattle.std.proofs.Common.{◌≡◌, ◌+◌, ◌≤◌, ◌⊎◌, ◌&&◌, ◌==◌, ℕ, Bool, true, false, nat_le, nat_lt, List, [], ◌∷◌, Option, Some, None, refl, sym, ◌∙◌, ap, subst, inl, inr, arith, if◌then◌else◌}
use Rattle.std.proofs.lemmas.Bool.{true≢false}
use Rattle.draid_machine.specs.declared.names.Key.{Key}
use Rattle.draid_machine.specs.declared.names.ArmName.{ArmName}
use Rattle.draid_machine.specs.declared.names.ArmName.TheVariants.{Leaf, Spare}
use Rattle.draid_machine.specs.declared.names.Held.{Held}
use Rattle.draid_machine.specs.declared.names.Segment.{Segment}
use Rattle.draid_machine.specs.declared.event.Patched.{Patched}
use Rattle.draid_machine.specs.declared.event.Event.{Event}
use Rattle.draid_machine.specs.declared.event.Event.TheVariants.{Begin, Put, Finish, Abort, Free, Fetch, Damage, Offline, Online, Attach, Detach, Upgrade, Close, Seal, Commit, Plan, Ready, Lend, LandStripe, LandBlock, Done, Cancel, Reopen}
use Rattle.draid_machine.specs.Names.{up_to}
use Rattle.draid_machine.specs.State.{Layout, IsLayout, Arm, Pass, Core, Loan, Image, State}
use Rattle.draid_machine.specs.Arms.{lies_on, is_silent, has_moved}
use Rattle.draid_machine.specs.After.{set_arm, each_arm, log_if, fill_if, cut_above, renew_if, attached_core, detached_core, renewed_core, rearranged_state, attach_state, gone_state, live_state, finish_state, close_state, image_of, sealed_core, seal_state, is_gone_arm, commit_state, unsourced, pass_over, mend_state, land_stripe_state, land_block_state, reopen_state}
use Rattle.draid_machine.specs.Created.{created, created_arm, new_arm, IsReached}
use Rattle.draid_machine.specs.Sound.{Sound, LogsWithin}
use Rattle.draid_machine.specs.Step.{IsLast, Step, Run}
use Rattle.draid_machine.proofs.Small.{some_injective, none_some, both_true, either_true, mapped_arm, arm_cases, kept_some, kept_if, is_equal, is_low}
use Rattle.draid_machine.proofs.Seals.{sealed_arm}
use Rattle.draid_machine.proofs.Moves.{replan_cases}
use Rattle.draid_machine.proofs.Listing.{Listed, step_listed, created_all}
use Rattle.draid_machine.proofs.Rows.{step_sound, created_sound}

-- a group that a log has is in range
abbrev Within : ℕ → (ArmName → Option Arm) → Type 0
Within top arms = (n : ArmName) (a : Arm) (g : ℕ) → arms n ≡ Some a → a.log g ≡ true → (1 ≤ g) × (g ≤ top)

within : (w : State) → LogsWithin w → Within (w.open_group + 1) w.core.arm
within w s n a g e t = (s.low n a g e t, s.high n a g e t)

-- arms change, and what their logs get is in range
arms_within : (w : State) (arm' : ArmName → Option Arm) (held' : Key → Option Held) (order' : ℕ → List ArmName) (pass' : Option Pass) (last' serial' : ℕ) (loan' : Option Loan) (present' aside' : Segment → Bool) (kept' : Segment → Option ℕ)
    → Within (w.open_group + 1) arm' → LogsWithin w
    → LogsWithin (record w { core = record { held = held'; arm = arm'; order = order'; pass = pass'; last = last' }; serial = serial'; loan = loan'; present = present'; aside = aside'; kept = kept' })
arms_within w arm' held' order' pass' last' serial' loan' present' aside' kept' f s = record {
  low = λ n a g e t. (f n a g e t).0;
  high = λ n a g e t. (f n a g e t).1;
  image = s.image;
  sealed = s.sealed;
}

each_within : (f : ArmName → Arm → Arm) (arms : ArmName → Option Arm) (top : ℕ) → ((n : ArmName) (a : Arm) (g : ℕ) → (f n a).log g ≡ true → (a.log g ≡ true) ⊎ ((1 ≤ g) × (g ≤ top))) → Within top arms → Within top (each_arm f arms)
each_within f arms top new old n b g e t =
    let z = mapped_arm (f n) (arms n) b e in
    elim (new n z.0 g (subst (λ (x : Arm). x.log g ≡ true) z.2 t)) [
      | inl was ↦ old n z.0 g z.1 was
      | inr is ↦ is
    ]

set_within : (arms : ArmName → Option Arm) (n : ArmName) (v : Arm) (top : ℕ) → ((g : ℕ) → v.log g ≡ true → (1 ≤ g) × (g ≤ top)) → Within top arms → Within top (set_arm arms n (Some v))
set_within arms n v top new old m b g e t = elim (arm_cases arms n m (Some v) b e) [
  | inl z ↦ new g (subst (λ (x : Arm). x.log g ≡ true) (sym (some_injective v b z.1)) t)
  | inr z ↦ old m b g z.1 t
]

logged_one : (b : Bool) (group top g : ℕ) (a : Arm) → 1 ≤ group → group ≤ top → (log_if b group a).log g ≡ true → (a.log g ≡ true) ⊎ ((1 ≤ g) × (g ≤ top))
logged_one b group top g a low high t = elim (either_true (a.log g) (b && (g == group)) t) [
  | inl was ↦ inl was
  | inr new ↦ let e = is_equal g group (both_true b (g == group) new).1 in inr (omega (arith, e, low), omega (arith, e, high))
]

filled_up : (last g : ℕ) → up_to last g ≡ true → (1 ≤ g) × (g ≤ last)
filled_up last g t = let z = both_true (nat_le 1 g) (nat_le g last) t in (is_low 1 g z.0, is_low g last z.1)

filled_one : (b : Bool) (last g : ℕ) (a : Arm) → (fill_if b last a).log g ≡ true → (a.log g ≡ true) ⊎ ((1 ≤ g) × (g ≤ last))
filled_one true last g a t = inr (filled_up last g t)
filled_one false last g a t = inl t

module _ (l : Layout) (lay : IsLayout l) where
  last_low : (w : State) (last : ℕ) → Sound l w → IsLast w last → last ≤ w.open_group + 1
  last_low w last s i = elim i.one [
    | inl e ↦ omega (arith, e)
    | inr e ↦ let b = s.core.births e.0 e.1 e.2 in let same = e.3 in omega (arith, b, same)
  ]

  closing_some : (w : State) (t : ℕ) → Sound l w → w.closing ≡ Some t → (1 ≤ t) × (t ≤ w.open_group + 1)
  closing_some w t s e = let z = s.groups.closing_is t e in let a = z.0 in let b = z.1 in (omega (arith, a), omega (arith, b))

  finish_within : (w : State) (k : Key) (h : Held) (m : ℕ) → LogsWithin w → LogsWithin (finish_state l w k h m)
  finish_within w k h m s = by (nat_lt l.parity m)
    where
      by : (b : Bool) → LogsWithin (if b then gone_state w k else live_state w k h)
      by true = arms_within w w.core.arm _ w.core.order w.core.pass w.core.last w.serial w.loan _ _ _ (within w s) s
      by false = arms_within w w.core.arm _ w.core.order w.core.pass w.core.last w.serial w.loan w.present w.aside w.kept (within w s) s

  stripe_within : (w : State) (p : Pass) (n : Loan) (h : Held) (failed : List ℕ) → LogsWithin w → LogsWithin (land_stripe_state l w p n h failed)
  stripe_within w p n h failed s = by (nat_lt l.parity (unsourced l n))
    where
      by : (b : Bool) → LogsWithin (if b then pass_over w p 1 (n.stripe + 1) else mend_state l w p n h failed)
      by true = arms_within w w.core.arm w.core.held w.core.order _ w.core.last w.serial None w.present w.aside w.kept (within w s) s
      by false = arms_within w w.core.arm w.core.held w.core.order _ w.core.last w.serial None _ _ w.kept (within w s) s

  block_within : (w : State) (p : Pass) (n : Loan) (h : Held) (failed : List ℕ) (patched : List Patched) (unreadable whole : Bool) → LogsWithin w → LogsWithin (land_block_state l w p n h failed patched unreadable whole)
  block_within w p n h failed patched true whole s = arms_within w w.core.arm w.core.held w.core.order _ w.core.last w.serial None w.present w.aside w.kept (within w s) s
  block_within w p n h failed patched false whole s = arms_within w w.core.arm w.core.held w.core.order _ w.core.last w.serial None _ _ w.kept (within w s) s

  -- other arms, of which those that have moved get the groups up to the last one
  rearranged_within : (w : State) (last : ℕ) (q : Core) → last ≤ w.open_group + 1 → Within (w.open_group + 1) q.arm → LogsWithin w → LogsWithin (rearranged_state l w last q)
  rearranged_within w last q low new s =
      let all : Within (w.open_group + 1) (renewed_core l w.core last q).arm
      = each_within (λ n. renew_if (has_moved l w.core q n) last) q.arm (w.open_group + 1) (λ n a g z. renewed_one (has_moved l w.core q n) a g z) new in
      record { low = λ n a g e z. (all n a g e z).0; high = λ n a g e z. (all n a g e z).1; image = s.image; sealed = s.sealed }
    where
      renewed_one : (moved : Bool) (a : Arm) (g : ℕ) → (renew_if moved last a).log g ≡ true → (a.log g ≡ true) ⊎ ((1 ≤ g) × (g ≤ w.open_group + 1))
      renewed_one true a g t = let z = filled_up last g t in let high = z.1 in inr (z.0, omega (arith, high, low))
      renewed_one false a g t = inl t

  attach_within : (w : State) (slot : ℕ) (n : ArmName) (last : ℕ) → last ≤ w.open_group + 1 → LogsWithin w → LogsWithin (attach_state l w slot n last)
  attach_within w slot n last low s =
      let r = rearranged_state l w last (attached_core w.core slot n last) in
      let all : LogsWithin r
      = rearranged_within w last (attached_core w.core slot n last) low
      (set_within w.core.arm n _ (w.open_group + 1) (λ g z. (let y = filled_up last g z in let top = y.1 in (y.0, omega (arith, top, low)))) (within w s)) s in
      replan_cases l LogsWithin r (has_moved l w.core (attached_core w.core slot n last)) w.core.pass
      (λ none. all)
      (λ p pass kind. record { low = all.low; high = all.high; image = all.image; sealed = all.sealed })
      (λ p pass kind. arms_within r _ r.core.held r.core.order _ (r.core.last + 1) r.serial r.loan r.present r.aside r.kept
      (each_within _ r.core.arm (w.open_group + 1) (λ m a g z. filled_one _ (w.open_group + 1) g a z) (within r all)) all)

  seal_within : (w : State) (t : ℕ) (failed : List ℕ) (wrote : Bool) → w.closing ≡ Some t → Sound l w → LogsWithin w → LogsWithin (seal_state l w t failed wrote)
  seal_within w t failed wrote closing sound s =
      let q = sealed_core l w.core t failed wrote in
      let in_range = closing_some w t sound closing in
      let new : Within (w.open_group + 1) q.arm =
      each_within (λ n. log_if (wrote && lies_on l w.core (is_silent w.core failed) n) t) w.core.arm (w.open_group + 1) (λ n a g z. logged_one _ t (w.open_group + 1) g a in_range.0 in_range.1 z) (within w s) in
      record {
        low = λ n a g e z. (new n a g e z).0;
        high = λ n a g e z. (new n a g e z).1;
        image = s.image;
        sealed = λ img n a g e arm z.
            let f : Image → Type 0 = λ i. i.core.arm n ≡ Some a in
            let there : (image_of t w.asked q).core.arm n ≡ Some a = subst f (sym (some_injective (image_of t w.asked q) img e)) arm in
            (new n a g (sealed_arm (q.arm n) a there) z).0;
      }

  commit_within : (w : State) (t : ℕ) (img : Image) → w.sealed ≡ Some img → LogsWithin w → LogsWithin (commit_state l w t img)
  commit_within w t img sealed s = record {
    low = λ n a g e z. s.low n a g (kept_some (is_gone_arm t (w.core.arm n)) (w.core.arm n) a e).1 z;
    high = λ n a g e z. s.high n a g (kept_some (is_gone_arm t (w.core.arm n)) (w.core.arm n) a e).1 z;
    image = λ n a g e z. s.sealed img n a g sealed e z;
    sealed = λ i n a g e. absurd (none_some None i refl e);
  }

  close_within : (w : State) (t : ℕ) → w.open_group ≡ t → LogsWithin w → LogsWithin (close_state w t)
  close_within w t is s = record { low = s.low; high = λ n a g e z. (let h = s.high n a g e z in omega (arith, h, is)); image = s.image; sealed = s.sealed }

  reopen_within : (w : State) (img : Image) (t : ℕ) (doubtful : List Segment) → ((w.image ≡ img) × (w.committed ≡ t)) ⊎ ((w.sealed ≡ Some img) × (w.closing ≡ Some t)) → LogsWithin w → LogsWithin (reopen_state l w img doubtful)
  reopen_within w img t doubtful one s = record {
    low = λ n a g e z. let y = cut n a g e z in low one n y.0 g y.1 y.2;
    high = λ n a g e z. (let y = (cut n a g e z).3 in omega (arith, y));
    image = λ n a g e z. low one n a g e z;
    sealed = λ i n a g e. absurd (none_some None i refl e);
  }
    where
      low : ((w.image ≡ img) × (w.committed ≡ t)) ⊎ ((w.sealed ≡ Some img) × (w.closing ≡ Some t)) → (n : ArmName) (a : Arm) (g : ℕ) → img.core.arm n ≡ Some a → a.log g ≡ true → 1 ≤ g
      low (inl x) n a g e z = s.image n a g (ap (λ (i : Image). i.core.arm n) x.0 ∙ e) z
      low (inr x) n a g e z = s.sealed img n a g x.0 e z

      cut : (n : ArmName) (b : Arm) (g : ℕ) → each_arm (λ n. cut_above img.group) img.core.arm n ≡ Some b → b.log g ≡ true → (a : Arm) × (img.core.arm n ≡ Some a) × (a.log g ≡ true) × (g ≤ img.group)
      cut n b g e z =
          let y = mapped_arm (cut_above img.group) (img.core.arm n) b e in
          let x = both_true (y.0.log g) (nat_le g img.group) (subst (λ (v : Arm). v.log g ≡ true) y.2 z) in
          (y.0, y.1, x.0, is_low g img.group x.1)

  pub step_within : (w : State) (e : Event) (new : State) → Step l w e new → Sound l w → LogsWithin w → LogsWithin new
  step_within w (Begin key first stripes len birth digest) new x sound s = subst LogsWithin (sym x.made) (arms_within w w.core.arm _ w.core.order w.core.pass w.core.last w.serial w.loan w.present w.aside w.kept (within w s) s)
  step_within w (Put key landed failed) new x sound s =
      subst LogsWithin (sym x.made) (arms_within w _ _ w.core.order w.core.pass w.core.last w.serial w.loan _ w.aside w.kept
      (each_within _ w.core.arm (w.open_group + 1) (λ n a g z. logged_one _ x.h.birth (w.open_group + 1) g a (sound.core.some key x.h x.found) (sound.core.births key x.h x.found) z) (within w s)) s)
  step_within w (Finish key) new x sound s = subst LogsWithin (sym x.made) (finish_within w key x.h x.m s)
  step_within w (Abort key) new x sound s = subst LogsWithin (sym x.made) (arms_within w w.core.arm _ w.core.order w.core.pass w.core.last w.serial w.loan _ _ _ (within w s) s)
  step_within w (Free key group) new x sound s = subst LogsWithin (sym x.made) (arms_within w w.core.arm _ w.core.order w.core.pass w.core.last w.serial w.loan w.present w.aside w.kept (within w s) s)
  step_within w (Fetch key failed) new x sound s = subst LogsWithin (sym x.made) s
  step_within w (Damage leaf sector failed) new x sound s = subst LogsWithin (sym x.made) s
  step_within w (Offline leaf) new x sound s =
      subst LogsWithin (sym x.made) (arms_within w _ w.core.held w.core.order w.core.pass w.core.last w.serial w.loan w.present w.aside w.kept (set_within w.core.arm (Leaf leaf) _ (w.open_group + 1) (λ g z. within w s (Leaf leaf) x.a g x.there.found z) (within w s)) s)
  step_within w (Online leaf) new x sound s =
      subst LogsWithin (sym x.made) (arms_within w _ w.core.held w.core.order w.core.pass w.core.last w.serial w.loan w.present w.aside w.kept (set_within w.core.arm (Leaf leaf) _ (w.open_group + 1) (λ g z. within w s (Leaf leaf) x.a g x.there.found z) (within w s)) s)
  step_within w (Attach slot arm) new x sound s = subst LogsWithin (sym x.made) (attach_within w slot arm x.last (last_low w x.last sound x.last_is) s)
  step_within w (Detach slot arm) new x sound s =
      subst LogsWithin (sym x.made) (rearranged_within w x.last (detached_core w.core slot arm x.a w.open_group) (last_low w x.last sound x.last_is)
      (set_within w.core.arm arm _ (w.open_group + 1) (λ g z. within w s arm x.a g x.found z) (within w s)) s)
  step_within w Upgrade new x sound s = subst LogsWithin (sym x.made) (record { low = s.low; high = s.high; image = s.image; sealed = s.sealed })
  step_within w (Close group) new x sound s = subst LogsWithin (sym x.made) (close_within w group x.open_group s)
  step_within w (Seal group failed) new x sound s = subst LogsWithin (sym x.made) (seal_within w group failed.items x.wrote x.closing sound s)
  step_within w (Commit group) new x sound s = subst LogsWithin (sym x.made) (commit_within w group x.image x.sealed s)
  step_within w (Plan kind) new x sound s =
      subst LogsWithin (sym x.made) (arms_within w _ w.core.held w.core.order _ (w.core.last + 1) w.serial w.loan w.present w.aside w.kept (each_within _ w.core.arm (w.open_group + 1) (λ n a g z. filled_one _ (w.open_group + 1) g a z) (within w s)) s)
  step_within w Ready new x sound s = subst LogsWithin (sym x.made) (arms_within w w.core.arm w.core.held w.core.order _ w.core.last w.serial w.loan w.present w.aside w.kept (within w s) s)
  step_within w (Lend failed) new x sound s = subst LogsWithin (sym x.made) (arms_within w w.core.arm w.core.held w.core.order _ w.core.last (w.serial + 1) (Some x.n) w.present w.aside w.kept (within w s) s)
  step_within w (LandStripe pass serial failed) new x sound s = subst LogsWithin (sym x.made) (stripe_within w x.p x.n x.h failed.items s)
  step_within w (LandBlock pass serial failed patched unreadable) new x sound s = subst LogsWithin (sym x.made) (block_within w x.p x.n x.h failed.items patched.items unreadable x.whole s)
  step_within w (Done failed) new x sound s =
      subst LogsWithin (sym x.made) (arms_within w _ w.core.held w.core.order None w.core.last w.serial w.loan w.present w.aside w.kept (each_within _ w.core.arm (w.open_group + 1) (λ n a g z. inl (both_true (a.log g) _ z).0) (within w s)) s)
  step_within w Cancel new x sound s = subst LogsWithin (sym x.made) (arms_within w w.core.arm w.core.held w.core.order None w.core.last w.serial None w.present w.aside w.kept (within w s) s)
  step_within w (Reopen group doubtful) new x sound s = subst LogsWithin (sym x.made) (reopen_within w x.image group doubtful.items x.one s)

  pub run_within : (w : State) (es : List Event) (new : State) → Run l w es new → Listed w → Sound l w → LogsWithin w → LogsWithin new
  run_within w [] new is listed sound s = subst LogsWithin (sym is) s
  run_within w (e ∷ es) new r listed sound s =
      run_within r.0 es new r.2 (step_listed l lay w e r.0 r.1 listed) (step_sound l lay w e r.0 r.1 listed.core sound) (step_within w e r.0 r.1 sound s)

  no_log : (n : ArmName) (a : Arm) (g : ℕ) → created_arm l n ≡ Some a → a.log g ≡ false
  no_log (Leaf m) a g e = subst (λ (x : Arm). x.log g ≡ false) (kept_if (nat_lt m l.slots) new_arm a e).1 refl
  no_log (Spare t) a g e = absurd (none_some None a refl e)

  pub created_within : (version : ℕ) → LogsWithin (created l version)
  created_within version = record {
    low = λ n a g e z. absurd (true≢false (sym z ∙ no_log n a g e));
    high = λ n a g e z. absurd (true≢false (sym z ∙ no_log n a g e));
    image = λ n a g e z. absurd (true≢false (sym z ∙ no_log n a g e));
    sealed = λ i n a g e. absurd (none_some None i refl e);
  }

pub every_log : (l : Layout) (w : State) → IsLayout l → IsReached l w → LogsWithin w
every_log l w lay r = run_within l lay (created l r.version) r.events w r.run (created_all l lay r.version) (created_sound l lay r.version) (created_within l lay r.version)
