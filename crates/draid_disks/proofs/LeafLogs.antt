-- What an arm that goes leaves of the logs of leaves.
use Rattle.std.proofs.Common.{◌≡◌, ◌∙◌, ◌+◌, ◌&&◌, ℕ, Bool, true, false, Option, Some, None, refl, sym, ap, if◌then◌else◌}
use Rattle.std.specs.Prelude.{option_map}
use Rattle.draid_names.specs.declared.arm.Arm.{Arm}
use Rattle.draid_names.specs.declared.arm.ArmAt.{ArmAt}
use Rattle.draid_names.specs.declared.arm.ArmKind.{ArmKind}
use Rattle.draid_names.specs.declared.arm.ArmKind.TheVariants as kind
use Rattle.draid_ranges.specs.Runs.{is_between}
use Rattle.draid_machine.proofs.Small.{none_some, some_injective}
use Rattle.draid_slots.specs.Changes.{Detaches}
use Rattle.draid_slots.specs.Table.{SlotTable, arm_at, is_logged, is_spare_kind}
use Rattle.draid_disks.specs.Disks.{KeepsLeafLogs}
use Rattle.draid_disks.specs.Renewing.{Renews, is_renewed, is_renewed_at, renewed_arm}

-- no leaf is renewed
leaf_stays : (test : ℕ → Bool) (a : Arm) → a.kind ≡ kind.Leaf → is_renewed test a ≡ false
leaf_stays test a is = ap (λ (k : ArmKind). is_spare_kind k && test a.number) is

same_kind : (test : ℕ → Bool) (a : Arm) → (renewed_arm test a).kind ≡ a.kind
same_kind test a = by (is_renewed test a)
  where
    by : (b : Bool) → (if b then record a { fresh = true } else a).kind ≡ a.kind
    by true = refl
    by false = refl

-- a place where a leaf stands then
unrenewed : (test : ℕ → Bool) (was : Option Arm) (arm : Arm) → Some arm ≡ option_map (renewed_arm test) was → arm.kind ≡ kind.Leaf → is_renewed_at test was ≡ false
unrenewed test None arm is leaf = absurd (none_some None arm refl (sym is))
unrenewed test (Some a) arm is leaf = leaf_stays test a (sym (same_kind test a) ∙ (ap (λ (b : Arm). b.kind) (sym (some_injective arm (renewed_arm test a) is)) ∙ leaf))

pub leaf_logs : (old mid new : SlotTable) (test : ℕ → Bool) (upto : ℕ) (at : ArmAt) (group : ℕ) → Renews mid new test upto → Detaches old mid at group → KeepsLeafLogs old new at
leaf_logs old mid new test upto at group renews detaches other number (arm, there, leaf, called) g =
    renews.logged other g
    ∙ (ap (λ b. if b then is_between 1 (upto + 1) g else is_logged mid other g) (unrenewed test (arm_at mid other) arm (sym there ∙ renews.arms_are other) leaf) ∙ detaches.logged other g)
