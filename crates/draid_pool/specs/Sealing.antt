-- What the parts of a seal do.
use Rattle.std.specs.Prelude.{◌≡◌, ◌==◌, ◌<◌, ◌≤◌, ◌^◌, ◌%◌, ℕ, true, false, List, [], Some, All, IsSome, length, vec_capacity, if◌then◌else◌}
use Rattle.draid_columns.specs.Flushes.{has_leaf}
use Rattle.draid_rack.specs.Rack.{Shape}
use Rattle.draid_machine.specs.declared.names.ArmName.TheVariants.{Leaf}
use Rattle.draid_machine.specs.State as machine
use Rattle.draid_record.specs.Record.{told_record}
use Rattle.draid_slots.specs.Table.{SlotTable}
use Rattle.draid_stable.specs.Images.{image_by}
use Rattle.draid_stable.specs.Sealing.{AreTables, IsMade, IsReady}
use Rattle.draid_slots.specs.States.{HasSlots}
use Rattle.draid_stable.specs.declared.sealing.Head.{Head}
use Rattle.draid_machine.specs.After.{image_of}
use Rattle.draid_shard.specs.declared.shard.Shard.{Shard}
use Rattle.draid_pool.specs.declared.sealing.Plan.{Plan}

-- ---- leaves to be flushed

-- a state has the leaf, as an arm or detached, and it isn't offline
pub record IsOnline (q : machine.Core) (leaf : ℕ) : Type 0 where
  pub arm : machine.Arm
  pub found : q.arm (Leaf leaf) ≡ Some arm
  pub online : arm.offline ≡ false

-- The leaves are there, and in each state of the slots none is offline; they are all those of the rack that aren't.
pub record AreFlushed (shape : Shape) (slots : SlotTable) (leaves : List ℕ) : Type 0 where
  pub there : All (λ leaf. IsSome (shape.leaves leaf)) leaves
  pub online : (q : machine.Core) → HasSlots slots q → All (IsOnline q) leaves
  pub all : (q : machine.Core) (leaf : ℕ) → HasSlots slots q → leaf < 2 ^ 64 → IsSome (shape.leaves leaf) → IsOnline q leaf → has_leaf leaves leaf ≡ true

-- the same of those below a number
pub record FlushedBelow (shape : Shape) (slots : SlotTable) (leaves : List ℕ) (from : ℕ) : Type 0 where
  pub there : All (λ leaf. IsSome (shape.leaves leaf)) leaves
  pub online : (q : machine.Core) → HasSlots slots q → All (IsOnline q) leaves
  pub below : (q : machine.Core) (leaf : ℕ) → HasSlots slots q → leaf < from → IsSome (shape.leaves leaf) → IsOnline q leaf → has_leaf leaves leaf ≡ true

-- ---- the plan

abbrev pub head_of : {R A : Type 0} → Shard R A → ℕ → Head
head_of shard group = record { version = shard.asked; metaslab = shard.number; group = group }

-- The record is that of the group, as it is if no flush fails. The lists are empty and have room.
pub record IsPlan {R A : Type 0} (shape : Shape) (shard : Shard R A) (group : ℕ) (plan : Plan) : Type 0 where
  pub image : (q : machine.Core) → AreTables shard.entries shard.slots shard.pass shard.last_pass q → image_by (told_record plan.made) ≡ image_of group shard.asked q
  pub ready : IsReady plan.made
  pub made : IsMade (head_of shard group) shard.entries shard.slots shard.pass shard.last_pass plan.made
  pub leaves_are : AreFlushed shape shard.slots plan.leaves.items
  pub none : plan.failed.items ≡ []
  pub room : length plan.leaves.items ≤ vec_capacity plan.failed
  pub count : length plan.marks.items ≡ shard.geometry.spec.children

-- ---- areas

abbrev pub area_by : {A : Type 0} → A → A → ℕ → A
area_by even odd group = if group % 2 == 0 then even else odd
