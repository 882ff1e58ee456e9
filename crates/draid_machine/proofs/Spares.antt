-- Every legal event keeps that no arm is detached in a group that comes later than the open one, and that spares are the layout's and never offline.
use Rattle.std.proofs.Common.{◌≡◌, ◌+◌, ◌<◌, ◌≤◌, ◌&&◌, ◌==◌, not, ℕ, Bool, true, false, nat_lt, List, Option, Some, None, refl, sym, ◌∙◌, ap, subst, inl, inr, arith, if◌then◌else◌}
use Rattle.std.proofs.lemmas.Bool.{true≢false}
use Rattle.draid_names.specs.declared.pass_kind.PassKind.TheVariants.{Rebuild}
use Rattle.draid_machine.specs.declared.names.Key.{Key}
use Rattle.draid_machine.specs.declared.names.ArmName.{ArmName}
use Rattle.draid_machine.specs.declared.names.ArmName.TheVariants.{Leaf, Spare}
use Rattle.draid_machine.specs.declared.names.Held.{Held}
use Rattle.draid_machine.specs.declared.names.Segment.{Segment}
use Rattle.draid_machine.specs.declared.event.Patched.{Patched}
use Rattle.draid_machine.specs.declared.event.Event.{Event}
use Rattle.draid_machine.specs.declared.event.Event.TheVariants.{Begin, Put, Finish, Abort, Free, Fetch, Damage, Offline, Online, Attach, Detach, Upgrade, Close, Seal, Commit, Plan, Ready, Lend, LandStripe, LandBlock, Done, Cancel, Reopen}
use Rattle.draid_machine.specs.Names.{has_name, is_heal, up_to}
use Rattle.draid_machine.specs.State.{Layout, IsLayout, Gone, Arm, Pass, Core, Loan, Image, State}
use Rattle.draid_machine.specs.Arms.{lies_on, is_silent, has_moved, targets_of}
use Rattle.draid_machine.specs.After.{set_arm, each_arm, log_if, fill_if, excise_if, cut_above, renew_if, begin_state, put_state, gone_state, live_state, finish_state, free_state, switch_state, attached_core, detached_core, renewed_core, rearranged_state, attach_state, detach_state, upgrade_state, close_state, image_of, sealed_core, seal_state, is_gone_arm, commit_state, plan_state, ready_state, lend_state, unsourced, pass_over, mend_state, land_stripe_state, heal_state, land_block_state, ended_pass, done_state, cancel_state, reopen_state}
use Rattle.draid_machine.specs.Created.{created, created_core}
use Rattle.draid_machine.specs.Images.{IsImage, SparesFit}
use Rattle.draid_machine.specs.Step.{IsArmName, Step}
use Rattle.draid_machine.proofs.Small.{some_injective, none_some, arm_cases, mapped_arm, kept_some}
use Rattle.draid_machine.proofs.Seals.{sealed_arm}
use Rattle.draid_machine.proofs.Moves.{replan_cases}
use Rattle.draid_machine.proofs.Listing.{opened_image}
use Rattle.draid_machine.proofs.Standing.{created_here}

-- no arm went in a group behind one
abbrev pub GoneBy : ℕ → (ArmName → Option Arm) → Type 0
GoneBy group arms = (n : ArmName) (a : Arm) (g : Gone) → arms n ≡ Some a → a.gone ≡ Some g → g.group ≤ group

pub record ArmsFit (l : Layout) (w : State) : Type 0 where
  pub gone : GoneBy w.open_group w.core.arm
  pub spares : SparesFit l w.core
  pub images : (img : Image) → IsImage w img → SparesFit l img.core

-- each arm comes from one of before that was detached or not, and offline or not, as it is
abbrev pub ComesFrom : (ArmName → Option Arm) → (ArmName → Option Arm) → Type 0
ComesFrom before after = (n : ArmName) (b : Arm) → after n ≡ Some b → (a : Arm) × (before n ≡ Some a) × (b.gone ≡ a.gone) × (b.offline ≡ a.offline)

same_arms : (arms : ArmName → Option Arm) → ComesFrom arms arms
same_arms arms n b e = (b, e, refl, refl)

each_from : (f : ArmName → Arm → Arm) (arms : ArmName → Option Arm) → ((n : ArmName) (a : Arm) → (f n a).gone ≡ a.gone) → ((n : ArmName) (a : Arm) → (f n a).offline ≡ a.offline)
    → ComesFrom arms (each_arm f arms)
each_from f arms gone offline n b e =
    let z = mapped_arm (f n) (arms n) b e in
    (z.0, z.1, ap (λ (x : Arm). x.gone) z.2 ∙ gone n z.0, ap (λ (x : Arm). x.offline) z.2 ∙ offline n z.0)

module _ (l : Layout) where
  spares_from : (q q' : Core) → ComesFrom q.arm q'.arm → SparesFit l q → SparesFit l q'
  spares_from q q' from s t b e = let z = from (Spare t) b e in let y = s t z.0 z.1 in (y.0, z.3 ∙ y.1)

  -- the images stay
  fits_from : (w w' : State) → w.open_group ≤ w'.open_group → w'.image ≡ w.image → w'.sealed ≡ w.sealed → ComesFrom w.core.arm w'.core.arm → ArmsFit l w → ArmsFit l w'
  fits_from w w' open_group image sealed from s = record {
    gone = λ n b g e is. (let z = from n b e in let y = s.gone n z.0 g z.1 (sym z.2 ∙ is) in omega (arith, y, open_group));
    spares = spares_from w.core w'.core from s.spares;
    images = λ img is. elim is [
      | inl e ↦ s.images img (inl (sym image ∙ e))
      | inr e ↦ s.images img (inr (sym sealed ∙ e))
    ];
  }

  -- only some arm is set
  set_fits : (w : State) (order' : ℕ → List ArmName) (n : ArmName) (v : Arm) → ((g : Gone) → v.gone ≡ Some g → g.group ≤ w.open_group)
      → ((t : ℕ) → n ≡ Spare t → (t < l.spares) × (v.offline ≡ false)) → ArmsFit l w
      → ArmsFit l (record w { core = record w.core { arm = set_arm w.core.arm n (Some v); order = order' } })
  set_fits w order' n v gone spare s = record {
    gone = λ m b g e is. elim (arm_cases w.core.arm n m (Some v) b e) [
      | inl z ↦ gone g (ap (λ (x : Arm). x.gone) (some_injective v b z.1) ∙ is)
      | inr z ↦ s.gone m b g z.1 is
    ];
    spares = λ t b e. elim (arm_cases w.core.arm n (Spare t) (Some v) b e) [
      | inl z ↦ let y = spare t z.0 in (y.0, ap (λ (x : Arm). x.offline) (sym (some_injective v b z.1)) ∙ y.1)
      | inr z ↦ s.spares t b z.1
    ];
    images = s.images;
  }

  no_spare : {A : Type 0} (m t : ℕ) → Leaf m ≡ Spare t → A
  no_spare m t e = absurd (true≢false (ap is_leaf e))
    where
      is_leaf : ArmName → Bool
      is_leaf (Leaf m) = true
      is_leaf (Spare t) = false

  switch_fits : (w : State) (leaf : ℕ) (a : Arm) (offline : Bool) → w.core.arm (Leaf leaf) ≡ Some a → ArmsFit l w → ArmsFit l (switch_state w (Leaf leaf) a offline)
  switch_fits w leaf a offline found s =
      set_fits w w.core.order (Leaf leaf) (record a { offline = offline }) (λ g is. s.gone (Leaf leaf) a g found is) (λ t e. no_spare leaf t e) s

  renewed_from : (w : State) (last : ℕ) (q : Core) → ComesFrom q.arm (renewed_core l w.core last q).arm
  renewed_from w last q = each_from (λ n. renew_if (has_moved l w.core q n) last) q.arm (λ n a. refl) (λ n a. refl)

  filled_from : (w : State) (targets : List ArmName) (top : ℕ) → ComesFrom w.core.arm (each_arm (λ n. fill_if (has_name targets n) top) w.core.arm)
  filled_from w targets top = each_from (λ n. fill_if (has_name targets n) top) w.core.arm (λ n a. refl) (λ n a. refl)

  named : (n : ArmName) (v : Arm) → IsArmName l n → v.offline ≡ false → (t : ℕ) → n ≡ Spare t → (t < l.spares) × (v.offline ≡ false)
  named n v is off t e = (subst (IsArmName l) e is, off)

  attach_fits : (w : State) (slot : ℕ) (n : ArmName) (last : ℕ) → IsArmName l n → ArmsFit l w → ArmsFit l (attach_state l w slot n last)
  attach_fits w slot n last arm_is s =
      let q = attached_core w.core slot n last in
      let r = rearranged_state l w last q in
      let v : Arm = record { offline = false; fresh = true; log = up_to last; gone = None } in
      let joined : ArmsFit l (record w { core = q }) = set_fits w q.order n v (λ g is. absurd (none_some None g refl is)) (named n v arm_is refl) s in
      let all : ArmsFit l r = fits_from (record w { core = q }) r (omega arith) refl refl (renewed_from w last q) joined in
      replan_cases l (λ x. ArmsFit l x) r (has_moved l w.core q) w.core.pass (λ none. all)
      (λ p pass kind. fits_from r _ (omega arith) refl refl (same_arms r.core.arm) all)
      (λ p pass kind. fits_from r _ (omega arith) refl refl (filled_from r (targets_of l r.core Rebuild) (r.open_group + 1)) all)

  detach_fits : (w : State) (slot : ℕ) (n : ArmName) (a : Arm) (last : ℕ) → w.core.arm n ≡ Some a → ArmsFit l w → ArmsFit l (detach_state l w slot n a last)
  detach_fits w slot n a last found s =
      let q = detached_core w.core slot n a w.open_group in
      let g : Gone = record { slot = slot; group = w.open_group } in
      let left : ArmsFit l (record w { core = q })
      = set_fits w q.order n (record a { gone = Some g }) (λ x is. subst (λ (y : Gone). y.group ≤ w.open_group) (some_injective g x is) (omega arith))
      (λ t e. s.spares t a (subst (λ m. w.core.arm m ≡ Some a) e found)) s in
      fits_from (record w { core = q }) (detach_state l w slot n a last) (omega arith) refl refl (renewed_from w last q) left

  finish_fits : (w : State) (k : Key) (h : Held) (m : ℕ) → ArmsFit l w → ArmsFit l (finish_state l w k h m)
  finish_fits w k h m s = by (nat_lt l.parity m)
    where
      by : (b : Bool) → ArmsFit l (if b then gone_state w k else live_state w k h)
      by true = fits_from w (gone_state w k) (omega arith) refl refl (same_arms w.core.arm) s
      by false = fits_from w (live_state w k h) (omega arith) refl refl (same_arms w.core.arm) s

  stripe_fits : (w : State) (p : Pass) (n : Loan) (h : Held) (failed : List ℕ) → ArmsFit l w → ArmsFit l (land_stripe_state l w p n h failed)
  stripe_fits w p n h failed s = by (nat_lt l.parity (unsourced l n))
    where
      by : (b : Bool) → ArmsFit l (if b then pass_over w p 1 (n.stripe + 1) else mend_state l w p n h failed)
      by true = fits_from w (pass_over w p 1 (n.stripe + 1)) (omega arith) refl refl (same_arms w.core.arm) s
      by false = fits_from w (mend_state l w p n h failed) (omega arith) refl refl (same_arms w.core.arm) s

  block_fits : (w : State) (p : Pass) (n : Loan) (h : Held) (failed : List ℕ) (patched : List Patched) (unreadable whole : Bool) → ArmsFit l w
      → ArmsFit l (land_block_state l w p n h failed patched unreadable whole)
  block_fits w p n h failed patched true whole s = fits_from w (pass_over w p 1 (h.first + h.stripes)) (omega arith) refl refl (same_arms w.core.arm) s
  block_fits w p n h failed patched false whole s = fits_from w (heal_state l w p n h failed patched whole) (omega arith) refl refl (same_arms w.core.arm) s

  seal_fits : (w : State) (t : ℕ) (failed : List ℕ) (wrote : Bool) → ArmsFit l w → ArmsFit l (seal_state l w t failed wrote)
  seal_fits w t failed wrote s =
      let q = sealed_core l w.core t failed wrote in
      let from : ComesFrom w.core.arm q.arm = each_from (λ n. log_if (wrote && lies_on l w.core (is_silent w.core failed) n) t) w.core.arm (λ n a. refl) (λ n a. refl) in
      let all : ArmsFit l (record w { core = q }) = fits_from w (record w { core = q }) (omega arith) refl refl from s in
      record {
        gone = all.gone;
        spares = all.spares;
        images = λ img is. elim is [
          | inl e ↦ s.images img (inl e)
          | inr e ↦ subst (λ (i : Image). SparesFit l i.core) (some_injective (image_of t w.asked q) img e) (λ n a found. all.spares n a (sealed_arm (q.arm (Spare n)) a found))
        ];
      }

  commit_fits : (w : State) (t : ℕ) (img : Image) → w.sealed ≡ Some img → ArmsFit l w → ArmsFit l (commit_state l w t img)
  commit_fits w t img sealed s = record {
    gone = λ n a g e is. s.gone n a g (kept_some (is_gone_arm t (w.core.arm n)) (w.core.arm n) a e).1 is;
    spares = λ n a e. s.spares n a (kept_some (is_gone_arm t (w.core.arm (Spare n))) (w.core.arm (Spare n)) a e).1;
    images = λ i is. elim is [
      | inl e ↦ subst (λ (x : Image). SparesFit l x.core) e (s.images img (inr sealed))
      | inr e ↦ absurd (none_some None i refl e)
    ];
  }

  reopen_fits : (w : State) (img : Image) (doubtful : List Segment) → IsImage w img → ((n : ArmName) (a : Arm) → img.core.arm n ≡ Some a → a.gone ≡ None) → ArmsFit l w
      → ArmsFit l (reopen_state l w img doubtful)
  reopen_fits w img doubtful is here s =
      let from : ComesFrom img.core.arm (each_arm (λ n. cut_above img.group) img.core.arm) = each_from (λ n. cut_above img.group) img.core.arm (λ n a. refl) (λ n a. refl) in
      record {
        gone = λ n a g e gone. let z = from n a e in absurd (none_some a.gone g (z.2 ∙ here n z.0 z.1) gone);
        spares = spares_from img.core (reopen_state l w img doubtful).core from (s.images img is);
        images = λ i e. elim e [
          | inl x ↦ subst (λ (y : Image). SparesFit l y.core) x (s.images img is)
          | inr x ↦ absurd (none_some None i refl x)
        ];
      }

module _ (l : Layout) (lay : IsLayout l) where
  pub step_fits : (w : State) (e : Event) (new : State) → Step l w e new → ((img : Image) → IsImage w img → (n : ArmName) (a : Arm) → img.core.arm n ≡ Some a → a.gone ≡ None) → ArmsFit l w → ArmsFit l new
  step_fits w (Begin key first stripes len birth digest) new x here s = subst (λ v. ArmsFit l v) (sym x.made) (fits_from l w (begin_state w key _) (omega arith) refl refl (same_arms w.core.arm) s)
  step_fits w (Put key landed failed) new x here s =
      subst (λ v. ArmsFit l v) (sym x.made) (fits_from l w (put_state l w key landed x.h x.c x.m) (omega arith) refl refl
      (each_from (λ n. log_if (has_name (w.core.order (l.slot_of x.h.first x.c)) n && not (has_name landed n)) x.h.birth) w.core.arm (λ n a. refl) (λ n a. refl)) s)
  step_fits w (Finish key) new x here s = subst (λ v. ArmsFit l v) (sym x.made) (finish_fits l w key x.h x.m s)
  step_fits w (Abort key) new x here s = subst (λ v. ArmsFit l v) (sym x.made) (fits_from l w (gone_state w key) (omega arith) refl refl (same_arms w.core.arm) s)
  step_fits w (Free key group) new x here s = subst (λ v. ArmsFit l v) (sym x.made) (fits_from l w (free_state w key x.h group) (omega arith) refl refl (same_arms w.core.arm) s)
  step_fits w (Fetch key failed) new x here s = subst (λ v. ArmsFit l v) (sym x.made) s
  step_fits w (Damage leaf sector failed) new x here s = subst (λ v. ArmsFit l v) (sym x.made) s
  step_fits w (Offline leaf) new x here s = subst (λ v. ArmsFit l v) (sym x.made) (switch_fits l w leaf x.a true x.there.found s)
  step_fits w (Online leaf) new x here s = subst (λ v. ArmsFit l v) (sym x.made) (switch_fits l w leaf x.a false x.there.found s)
  step_fits w (Attach slot arm) new x here s = subst (λ v. ArmsFit l v) (sym x.made) (attach_fits l w slot arm x.last x.arm_is s)
  step_fits w (Detach slot arm) new x here s = subst (λ v. ArmsFit l v) (sym x.made) (detach_fits l w slot arm x.a x.last x.found s)
  step_fits w Upgrade new x here s = subst (λ v. ArmsFit l v) (sym x.made) (fits_from l w (upgrade_state w) (omega arith) refl refl (same_arms w.core.arm) s)
  step_fits w (Close group) new x here s =
      subst (λ v. ArmsFit l v) (sym x.made) (fits_from l w (close_state w group) (let is = x.open_group in omega (arith, is)) refl refl (same_arms w.core.arm) s)
  step_fits w (Seal group failed) new x here s = subst (λ v. ArmsFit l v) (sym x.made) (seal_fits l w group failed.items x.wrote s)
  step_fits w (Commit group) new x here s = subst (λ v. ArmsFit l v) (sym x.made) (commit_fits l w group x.image x.sealed s)
  step_fits w (Plan kind) new x here s =
      subst (λ v. ArmsFit l v) (sym x.made) (fits_from l w (plan_state w kind (targets_of l w.core kind)) (omega arith) refl refl
      (each_from (λ n. fill_if (not (is_heal kind) && has_name (targets_of l w.core kind) n) (w.open_group + 1)) w.core.arm (λ n a. refl) (λ n a. refl)) s)
  step_fits w Ready new x here s = subst (λ v. ArmsFit l v) (sym x.made) (fits_from l w (ready_state w x.p) (omega arith) refl refl (same_arms w.core.arm) s)
  step_fits w (Lend failed) new x here s = subst (λ v. ArmsFit l v) (sym x.made) (fits_from l w (lend_state w x.p x.n failed.items) (omega arith) refl refl (same_arms w.core.arm) s)
  step_fits w (LandStripe pass serial failed) new x here s = subst (λ v. ArmsFit l v) (sym x.made) (stripe_fits l w x.p x.n x.h failed.items s)
  step_fits w (LandBlock pass serial failed patched unreadable) new x here s =
      subst (λ v. ArmsFit l v) (sym x.made) (block_fits l w x.p x.n x.h failed.items patched.items unreadable x.whole s)
  step_fits w (Done failed) new x here s =
      let p = ended_pass l w.core x.p failed.items in
      subst (λ v. ArmsFit l v) (sym x.made) (fits_from l w (done_state w p) (omega arith) refl refl
      (each_from (λ n. excise_if ((p.errors == 0) && has_name p.targets n) p.max) w.core.arm (λ n a. refl) (λ n a. refl)) s)
  step_fits w Cancel new x here s = subst (λ v. ArmsFit l v) (sym x.made) (fits_from l w (cancel_state w) (omega arith) refl refl (same_arms w.core.arm) s)
  step_fits w (Reopen group doubtful) new x here s =
      let is = opened_image l lay w x.image group x.one in
      subst (λ v. ArmsFit l v) (sym x.made) (reopen_fits l w x.image doubtful.items is (here x.image is) s)

  no_spare_yet : SparesFit l (created_core l)
  no_spare_yet t a e = absurd (none_some None a refl e)

  pub created_fits : (version : ℕ) → ArmsFit l (created l version)
  created_fits version = record {
    gone = λ n a g e is. absurd (none_some a.gone g (created_here l lay n a e) is);
    spares = no_spare_yet;
    images = λ img is. elim is [
      | inl e ↦ subst (λ (i : Image). SparesFit l i.core) e no_spare_yet
      | inr e ↦ absurd (none_some None img refl e)
    ];
  }
