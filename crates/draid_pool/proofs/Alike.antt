-- All metaslabs have the layout's version and the same arms: what keeps it so.
use Rattle.std.proofs.Common.{arith, ◌≡◌, ◌∙◌, inl, inr, ℕ, Bool, true, false, List, [], ◌∷◌, Option, Some, None, refl, sym, ap, subst, if◌then◌else◌}
use Rattle.std.specs.Prelude.{nat_le, nat_lt, option_map}
use Rattle.draid_machine.specs.declared.names.ArmName.{ArmName}
use Rattle.draid_machine.specs.declared.names.ArmName.TheVariants.{Leaf, Spare}
use Rattle.draid_machine.specs.After.{image_of, is_gone_arm, keep_if, map_arm, reopen_state, seal_arm, sealed_core}
use Rattle.draid_machine.specs.Arms.{is_here}
use Rattle.draid_machine.specs.Created.{created, created_arm, created_core, new_arm}
use Rattle.draid_machine.specs.Images.{IsImage}
use Rattle.draid_machine.specs.Sound.{GroupsSound}
use Rattle.draid_machine.specs.State as machine
use Rattle.draid_machine.specs.Step.{CommitStep, SealStep}
use Rattle.draid_pool.specs.Importable.{IsAlike, SameArms, Shared, bare, keep_shared}

-- ---- arms

-- what only changes logs leaves what is bare of an arm
pub same_bare : (f : machine.Arm → machine.Arm) (o : Option machine.Arm) → ((a : machine.Arm) → bare (f a) ≡ bare a) → option_map bare (map_arm f o) ≡ option_map bare o
same_bare f None same = refl
same_bare f (Some a) same = ap (λ (b : machine.Arm). Some b) (same a)

bare_one : (a b : machine.Arm) → Some (bare a) ≡ Some (bare b) → bare a ≡ bare b
bare_one a b is = cc

-- what an image has of an arm goes by what is bare of it
sealed_bare : (o q : Option machine.Arm) → option_map bare o ≡ option_map bare q → option_map bare (seal_arm o) ≡ option_map bare (seal_arm q)
sealed_bare None None same = refl
sealed_bare None (Some b) same = absurd (cc)
sealed_bare (Some a) None same = absurd (cc)
sealed_bare (Some a) (Some b) same = bare_keep (is_here (Some a)) a ∙ (ap (λ c. option_map bare (seal_arm (Some c))) (bare_one a b same) ∙ sym (bare_keep (is_here (Some b)) b))
  where
    bare_keep : (here : Bool) (a : machine.Arm) → option_map bare (keep_if here a) ≡ option_map bare (keep_if here (bare a))
    bare_keep true a = refl
    bare_keep false a = refl

-- an image has all arms that aren't detached
settled : (o : Option machine.Arm) → ((a : machine.Arm) → o ≡ Some a → a.gone ≡ None) → seal_arm o ≡ o
settled None none = refl
settled (Some a) none = ap (λ (g : Option machine.Gone). keep_if (elim g as (λ h. Bool) [ None ↦ true | Some h ↦ false ]) a) (none a refl)

-- a commit drops detached ones alone
committed_seal : (t : ℕ) (o : Option machine.Arm) → seal_arm (if is_gone_arm t o then None else o) ≡ seal_arm o
committed_seal t None = refl
committed_seal t (Some a) = by a a.gone
  where
    drops : (b : Bool) (a : machine.Arm) → seal_arm (Some a) ≡ None → seal_arm (if b then None else Some a) ≡ None
    drops true a none = refl
    drops false a none = none

    by : (a : machine.Arm) (gone : Option machine.Gone)
        → seal_arm (if is_gone_arm t (Some (record a { gone = gone })) then None else Some (record a { gone = gone })) ≡ seal_arm (Some (record a { gone = gone }))
    by a None = refl
    by a (Some gone) = drops (nat_le gone.group t) (record a { gone = Some gone }) refl

pub own_arms : (q : machine.Core) → SameArms q q
own_arms q = record { order = λ slot. refl; arms = λ n. refl }

pub alike_back : (a b : machine.Core) → SameArms a b → SameArms b a
alike_back a b same = record { order = λ slot. sym (same.order slot); arms = λ n. sym (same.arms n) }

pub alike_then : (a b c : machine.Core) → SameArms a b → SameArms b c → SameArms a c
alike_then a b c one other = record { order = λ slot. one.order slot ∙ other.order slot; arms = λ n. one.arms n ∙ other.arms n }

-- ---- metaslabs

module _ (shared : Shared) where
  -- no image came, and the arms stayed
  pub alike_kept : (w v : machine.State) → v.asked ≡ w.asked → SameArms v.core w.core → v.image ≡ w.image → v.sealed ≡ w.sealed → IsAlike shared w → IsAlike shared v
  alike_kept w v asked same image sealed is = record {
    versions = record {
      asked = asked ∙ is.versions.asked;
      kept = ap (λ (i : machine.Image). i.version) image ∙ is.versions.kept;
      sealed = λ i of. is.versions.sealed i (sym sealed ∙ of);
    };
    same = record {
      order = λ slot. same.order slot ∙ is.same.order slot;
      now = λ n. sealed_bare (v.core.arm n) (w.core.arm n) (same.arms n) ∙ is.same.now n;
      kept = subst (λ (i : machine.Image). SameArms i.core shared.kept_arms) (sym image) is.same.kept;
      sealed = λ i of. is.same.sealed i (sym sealed ∙ of);
    };
  }

  pub alike_sealed : (l : machine.Layout) (w v : machine.State) (t : ℕ) (failed : List ℕ) → SealStep l w t failed v → IsAlike shared w → IsAlike shared v
  alike_sealed l w v t failed step is = subst (IsAlike shared) (sym step.made) (record {
    versions = record {
      asked = is.versions.asked;
      kept = is.versions.kept;
      sealed = λ image of. ap (λ (i : machine.Image). i.version) (sym (made_is image of)) ∙ is.versions.asked;
    };
    same = record {
      order = is.same.order;
      now = now;
      kept = is.same.kept;
      sealed = λ image of. subst (λ (i : machine.Image). SameArms i.core shared.arms) (made_is image of) (record { order = is.same.order; arms = now });
    };
  })
    where
      made_is : (image : machine.Image) → Some (image_of t w.asked (sealed_core l w.core t failed step.wrote)) ≡ Some image → image_of t w.asked (sealed_core l w.core t failed step.wrote) ≡ image
      made_is image is = cc

      now : (n : ArmName) → option_map bare (seal_arm ((sealed_core l w.core t failed step.wrote).arm n)) ≡ option_map bare (shared.arms.arm n)
      now n = sealed_bare _ (w.core.arm n) (same_bare _ (w.core.arm n) (λ a. refl)) ∙ is.same.now n

  -- what is of now is kept from the commit on
  pub alike_committed : (l : machine.Layout) (w v : machine.State) (t : ℕ) → CommitStep l w t v → IsAlike shared w → IsAlike (keep_shared shared) v
  alike_committed l w v t step is = subst (IsAlike (keep_shared shared)) (sym step.made) (record {
    versions = record { asked = is.versions.asked; kept = is.versions.sealed step.image step.sealed; sealed = λ image of. absurd (cc) };
    same = record {
      order = is.same.order;
      now = λ n. ap (λ (o : Option machine.Arm). option_map bare o) (committed_seal t (w.core.arm n)) ∙ is.same.now n;
      kept = is.same.sealed step.image step.sealed;
      sealed = λ image of. absurd (cc);
    };
  })

-- what metaslabs have in common of which nothing changed since the committed group
abbrev pub one_shared : ℕ → machine.Core → Shared
one_shared version arms = record { kept_version = version; kept_arms = arms; version = version; arms = arms }

-- opened from an image that has the version and the arms
pub alike_opened : (version : ℕ) (arms : machine.Core) (l : machine.Layout) (w : machine.State) (image : machine.Image) → image.version ≡ version → SameArms image.core arms
    → ((n : ArmName) (a : machine.Arm) → image.core.arm n ≡ Some a → a.gone ≡ None) → IsAlike (one_shared version arms) (reopen_state l w image [])
alike_opened version arms l w image version_is same none = record {
  versions = record { asked = version_is; kept = version_is; sealed = λ i of. absurd (cc) };
  same = record {
    order = same.order;
    now = λ n. sealed_bare _ (image.core.arm n) (same_bare _ (image.core.arm n) (λ a. refl)) ∙ (ap (λ (o : Option machine.Arm). option_map bare o) (settled (image.core.arm n) (none n)) ∙ same.arms n);
    kept = same;
    sealed = λ i of. absurd (cc);
  };
}

-- a new one has the arms of its slots
pub alike_created : (l : machine.Layout) (version : ℕ) → IsAlike (one_shared version (created_core l)) (created l version)
alike_created l version = record {
  versions = record { asked = refl; kept = refl; sealed = λ image of. absurd (cc) };
  same = record { order = λ slot. refl; now = new; kept = own_arms (created_core l); sealed = λ image of. absurd (cc) };
}
  where
    by : (there : Bool) → option_map bare (seal_arm (if there then Some new_arm else None)) ≡ option_map bare (if there then Some new_arm else None)
    by true = refl
    by false = refl

    new : (n : ArmName) → option_map bare (seal_arm (created_arm l n)) ≡ option_map bare (created_arm l n)
    new (Leaf m) = by (nat_lt m l.slots)
    new (Spare t) = refl

-- new ones have the same arms where their layouts have as many slots
pub created_same : (l k : machine.Layout) → l.slots ≡ k.slots → SameArms (created_core l) (created_core k)
created_same l k same = record { order = λ slot. ap (λ (n : ℕ). if nat_lt slot n then Leaf slot ∷ [] else []) same; arms = by }
  where
    by : (n : ArmName) → option_map bare (created_arm l n) ≡ option_map bare (created_arm k n)
    by (Leaf m) = ap (λ (n : ℕ). option_map bare (if nat_lt m n then Some new_arm else None)) same
    by (Spare t) = refl

-- a metaslab that has these arms has the same ones
pub alike_as : (version : ℕ) (arms other : machine.Core) (w : machine.State) → SameArms arms other → IsAlike (one_shared version arms) w → IsAlike (one_shared version other) w
alike_as version arms other w same is = record {
  versions = record { asked = is.versions.asked; kept = is.versions.kept; sealed = is.versions.sealed };
  same = record {
    order = λ slot. is.same.order slot ∙ same.order slot;
    now = λ n. is.same.now n ∙ same.arms n;
    kept = alike_then w.image.core arms other is.same.kept same;
    sealed = λ image of. alike_then image.core arms other (is.same.sealed image of) same;
  };
}

-- ---- images

-- the groups of a state are sound
abbrev pub GroupsStand : machine.State → Type 0
GroupsStand w = GroupsSound w.open_group w.committed w.closing w.image w.sealed w.core.held

-- a sealed image is of a later group than a committed one
later : (w v : machine.State) (a b : machine.Image) → GroupsStand w → GroupsStand v → w.image ≡ a → v.sealed ≡ Some b → w.committed ≡ v.committed → a.group ≡ b.group → ⊥
later w v a b first second own sealed same group =
    let of : a.group ≡ w.committed = ap (λ (i : machine.Image). i.group) (sym own) ∙ first.image_is in
    let next = (second.closing_is b.group (second.sealed_is b sealed)).0 in
    omega (arith, of, next, same, group)

-- the images of one group, of metaslabs that have committed one group, have the same arms: both are committed, or both are sealed
pub images_alike : (shared : Shared) (w v : machine.State) (a b : machine.Image) → IsAlike shared w → IsAlike shared v → GroupsStand w → GroupsStand v → w.committed ≡ v.committed
    → IsImage w a → IsImage v b → a.group ≡ b.group → SameArms a.core b.core
images_alike shared w v a b one other first second same is is' group = by is is'
  where
    arms_of : (u : machine.State) (i : machine.Image) → IsAlike shared u → u.image ≡ i → SameArms i.core shared.kept_arms
    arms_of u i alike own = subst (λ (j : machine.Image). SameArms j.core shared.kept_arms) own alike.same.kept

    by : IsImage w a → IsImage v b → SameArms a.core b.core
    by (inl x) (inl y) = alike_then a.core shared.kept_arms b.core (arms_of w a one x) (alike_back b.core shared.kept_arms (arms_of v b other y))
    by (inr x) (inr y) = alike_then a.core shared.arms b.core (one.same.sealed a x) (alike_back b.core shared.arms (other.same.sealed b y))
    by (inl x) (inr y) = absurd (later w v a b first second x y same group)
    by (inr x) (inl y) = absurd (later v w b a second first y x (sym same) (sym group))
