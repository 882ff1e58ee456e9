-- Calls that leave the images of a metaslab as they are, and with them what an import may take.
use Rattle.std.proofs.Common.{◌≤◌, ◌≡◌, ◌∙◌, inl, inr, ℕ, Bool, true, false, Option, Some, None, IsSome, refl, sym, subst, ◌≢◌, ◌<◌, ◌==◌, ◌&&◌, [], ◌∷◌, zero, suc, List, arith, ap, length, get_or}
use Rattle.std.specs.Prelude.{⊤, nat_lt, if◌then◌else◌}
use Rattle.draid_area.specs.Area.{Content}
use Rattle.draid_machine.specs.declared.event.Event.{Event}
use Rattle.draid_machine.specs.declared.event.Event.TheVariants.{Begin, Put, Finish, Abort, Free, Fetch, Damage, Close}
use Rattle.draid_machine.specs.declared.names.ArmName.TheVariants.{Leaf}
use Rattle.draid_machine.specs.declared.names.Key.{Key}
use Rattle.draid_machine.specs.declared.names.Held.{Held}
use Rattle.draid_machine.specs.After.{gone_state, live_state, map_arm}
use Rattle.draid_machine.specs.Images.{IsImage}
use Rattle.draid_machine.specs.State as machine
use Rattle.draid_machine.specs.Step.{Step}
use Rattle.draid_shard.specs.Part.{Part}
use Rattle.draid_session.specs.State.{Metaslab}
use Rattle.draid_pool.specs.Importable.{IsAlike, Shared}
use Rattle.draid_pool.specs.Records.{HasImage, HasRecords, LeavesAreBelow}
use Rattle.draid_pool.specs.Shards.{KeepsImages}
use Rattle.draid_pool.proofs.Alike.{alike_kept, alike_then, same_bare}
use Rattle.std.specs.List.{list_any}
use Rattle.draid_names.specs.declared.arm.ArmKind.{ArmKind}
use Rattle.draid_names.specs.declared.arm.ArmKind.TheVariants as kind
use Rattle.draid_machine.proofs.Small.{equal, true_left, true_right}
use Rattle.draid_slots.specs.declared.slot.Detached.{Detached}
use Rattle.draid_slots.specs.Table.{SlotTable, is_leaf_kind}
use Rattle.draid_shard.specs.Fits.{IsLeaf}
use Rattle.draid_slots.specs.States.{HasSlots}
use Rattle.draid_machine.specs.Names.{named}

same_low : (n : ℕ) → n ≤ n
same_low n = omega arith

pub keeps_same : (w : machine.State) → KeepsImages w w
keeps_same w = record { image = refl; sealed = refl; leaves = λ leaf some. some; asked = refl; arms = record { order = λ slot. refl; arms = λ n. refl }; opens = same_low w.open_group }

pub keeps_then : (w mid v : machine.State) → KeepsImages w mid → KeepsImages mid v → KeepsImages w v
keeps_then w mid v a b = record { image = b.image ∙ a.image; sealed = b.sealed ∙ a.sealed; leaves = λ leaf some. a.leaves leaf (b.leaves leaf some); asked = b.asked ∙ a.asked; arms = alike_then v.core mid.core w.core b.arms a.arms; opens = (let low = a.opens in let high = b.opens in omega (arith, low, high)) }

-- ---- events

-- those that leave the images and the arms as they are
abbrev pub LeavesImages : Event → Type 0
LeavesImages (Begin key first stripes len birth digest) = ⊤
LeavesImages (Put key landed failed) = ⊤
LeavesImages (Finish key) = ⊤
LeavesImages (Abort key) = ⊤
LeavesImages (Free key group) = ⊤
LeavesImages (Fetch key failed) = ⊤
LeavesImages (Damage leaf sector failed) = ⊤
LeavesImages (Close group) = ⊤
LeavesImages e = ⊥

made_keeps : (w v s : machine.State) → v ≡ s → KeepsImages w s → KeepsImages w v
made_keeps w v s made keeps = subst (KeepsImages w) (sym made) keeps

from_mapped : (f : machine.Arm → machine.Arm) (o : Option machine.Arm) → IsSome (map_arm f o) → IsSome o
from_mapped f None some = some
from_mapped f (Some a) some = refl

finish_keeps : (w : machine.State) (key : Key) (h : Held) (b : Bool)
    → KeepsImages w (if b then gone_state w key else live_state w key h)
finish_keeps w key h true = record { image = refl; sealed = refl; leaves = λ leaf some. some; asked = refl; arms = record { order = λ slot. refl; arms = λ n. refl }; opens = same_low w.open_group }
finish_keeps w key h false = record { image = refl; sealed = refl; leaves = λ leaf some. some; asked = refl; arms = record { order = λ slot. refl; arms = λ n. refl }; opens = same_low w.open_group }

pub step_keeps : (l : machine.Layout) (w v : machine.State) (e : Event) → Step l w e v → LeavesImages e → KeepsImages w v
step_keeps l w v (Begin key first stripes len birth digest) step leaves = made_keeps w v _ step.made (record { image = refl; sealed = refl; leaves = λ leaf some. some; asked = refl; arms = record { order = λ slot. refl; arms = λ n. refl }; opens = same_low w.open_group })
step_keeps l w v (Put key landed failed) step leaves =
    made_keeps w v _ step.made (record { image = refl; sealed = refl; leaves = λ leaf some. from_mapped _ (w.core.arm (Leaf leaf)) some; asked = refl; arms = record { order = λ slot. refl; arms = λ n. same_bare _ (w.core.arm n) (λ a. refl) }; opens = same_low w.open_group })
step_keeps l w v (Finish key) step leaves = made_keeps w v _ step.made (finish_keeps w key step.h (nat_lt l.parity step.m))
step_keeps l w v (Abort key) step leaves = made_keeps w v _ step.made (record { image = refl; sealed = refl; leaves = λ leaf some. some; asked = refl; arms = record { order = λ slot. refl; arms = λ n. refl }; opens = same_low w.open_group })
step_keeps l w v (Free key group) step leaves = made_keeps w v _ step.made (record { image = refl; sealed = refl; leaves = λ leaf some. some; asked = refl; arms = record { order = λ slot. refl; arms = λ n. refl }; opens = same_low w.open_group })
step_keeps l w v (Fetch key failed) step leaves = made_keeps w v w step.made (keeps_same w)
step_keeps l w v (Damage leaf sector failed) step leaves = made_keeps w v w step.made (keeps_same w)
step_keeps l w v (Close group) step leaves = made_keeps w v _ step.made (record { image = refl; sealed = refl; leaves = λ leaf some. some; asked = refl; arms = record { order = λ slot. refl; arms = λ n. refl }; opens = (let from = step.open_group in omega (arith, from)) })
step_keeps l w v e step leaves = absurd leaves

-- ---- what an import may take

image_before : (w v : machine.State) (image : machine.Image) → KeepsImages w v → IsImage v image → IsImage w image
image_before w v image keeps (inl is) = inl (sym keeps.image ∙ is)
image_before w v image keeps (inr is) = inr (sym keeps.sealed ∙ is)

image_after : (w v : machine.State) (image : machine.Image) → KeepsImages w v → IsImage w image → IsImage v image
image_after w v image keeps (inl is) = inl (keeps.image ∙ is)
image_after w v image keeps (inr is) = inr (keeps.sealed ∙ is)

pub records_kept : (part : Part) (w v : machine.State) (even odd : Option Content) → KeepsImages w v → HasRecords part w even odd → HasRecords part v even odd
records_kept part w v even odd keeps has image is = has image (image_before w v image keeps is)

pub image_kept : (group : ℕ) (y y' : Metaslab) → KeepsImages y.world y'.world → HasImage group y → HasImage group y'
image_kept group y y' keeps has = record { image = has.image; is = image_after y.world y'.world has.image keeps has.is; of = has.of }

pub leaves_kept : (kept_leaf next_leaf : ℕ) (w v : machine.State) → KeepsImages w v → LeavesAreBelow kept_leaf next_leaf w → LeavesAreBelow kept_leaf next_leaf v
leaves_kept kept_leaf next_leaf w v keeps below = record {
  kept = λ leaf some. below.kept leaf (subst (λ (image : machine.Image). IsSome (image.core.arm (Leaf leaf))) keeps.image some);
  sealed = λ image is. below.sealed image (sym keeps.sealed ∙ is);
  now = λ leaf some. below.now leaf (keeps.leaves leaf some);
}

pub alike_stays : (shared : Shared) (w v : machine.State) → KeepsImages w v → IsAlike shared w → IsAlike shared v
alike_stays shared w v keeps is = alike_kept shared w v keeps.asked keeps.arms keeps.image keeps.sealed is

leaf_of : (k : ArmKind) (n leaf : ℕ) → named k n ≡ Leaf leaf → (k ≡ kind.Leaf) × (n ≡ leaf)
leaf_of kind.Leaf n leaf is = (refl, (let h : n ≡ leaf = cc in h))
leaf_of kind.Spare n leaf is = absurd (cc)

any_from : (p : Detached → Bool) (list : List Detached) (gone : Detached) (k : ℕ) → k < length list → get_or list k gone ≡ gone → p gone ≡ true → list_any p list ≡ true
any_from p [] gone k less here is = absurd (omega (arith, less))
any_from p (x ∷ list) gone zero less here is = true_left (p x) (list_any p list) (ap p here ∙ is)
any_from p (x ∷ list) gone (suc k) less here is = true_right (p x) (list_any p list) (any_from p list gone k (omega (arith, less)) here is)

-- a leaf of which a state has an arm is one of the shard's
pub leaf_in : (slots : SlotTable) (q : machine.Core) (leaf : ℕ) → HasSlots slots q → q.arm (Leaf leaf) ≢ None → IsLeaf slots leaf
leaf_in slots q leaf has there = elim (has.only (Leaf leaf) there) [
  | inl z ↦ (let is = leaf_of z.arm.kind z.arm.number leaf z.name_is in inl (z.at, z.arm, z.there, is.0, is.1))
  | inr z ↦
      let is = leaf_of z.gone.kind z.gone.number leaf z.name_is in
      inr (any_from (λ (gone : Detached). is_leaf_kind gone.kind && (gone.number == leaf)) slots.detached z.gone z.among.0 z.among.1 z.among.2
      (ap (λ k. is_leaf_kind k && (z.gone.number == leaf)) is.0 ∙ equal z.gone.number leaf is.1))
]
