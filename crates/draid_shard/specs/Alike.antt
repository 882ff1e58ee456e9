-- Which metaslabs have the same arms, and which calls leave them.
use Rattle.std.specs.Prelude.{◌≡◌, ◌<◌, ℕ, List, Some, length, slice_get}
use Rattle.draid_names.specs.declared.arm.Arm.{Arm}
use Rattle.draid_slots.specs.Changes.{IsSame}
use Rattle.draid_slots.specs.Table.{SlotTable, arms_of}

-- two arms are one, but for whether a pass has made it good
pub record IsSameArm (p q : Arm) : Type 0 where
  pub kind_is : p.kind ≡ q.kind
  pub number_is : p.number ≡ q.number
  pub offline_is : p.offline ≡ q.offline

-- so all of two slots, one after another
pub record AreSameArms (ps qs : List Arm) : Type 0 where
  pub many : length ps ≡ length qs
  pub each : (k : ℕ) (p q : Arm) → slice_get ps k ≡ Some p → slice_get qs k ≡ Some q → IsSameArm p q

-- so those of each slot of two metaslabs
pub record HaveSameArms (a b : SlotTable) : Type 0 where
  pub children : b.geometry.spec.children ≡ a.geometry.spec.children
  pub slots : (slot : ℕ) → slot < a.geometry.spec.children → AreSameArms (arms_of a slot) (arms_of b slot)

-- and the same arms were detached, in groups that aren't committed
pub record ShareArms (a b : SlotTable) : Type 0 where
  pub arms : HaveSameArms a b
  pub detached : b.detached ≡ a.detached

-- arms and detachments are as they were; logs may be others
pub record KeepsArms (old new : SlotTable) : Type 0 where
  pub same : IsSame old new
  pub arms_stay : new.arms ≡ old.arms
  pub detached_stay : new.detached ≡ old.detached
