-- Which slots are due for a spare, and which spares are free, by the slots of a pool.
use Rattle.std.specs.Prelude.{◌≡◌, ◌+◌, ◌<◌, ◌≤◌, ℕ, zero, suc, false, List, [], ◌∷◌, Contains, length, slice_index_or}
use Rattle.draid_names.specs.declared.arm.Arm.{Arm}
use Rattle.draid_names.specs.declared.arm.ArmAt.{ArmAt}
use Rattle.draid_names.specs.declared.journal.Entry.{Entry}
use Rattle.draid_slots.specs.declared.slot.Detached.{Detached}
use Rattle.draid_slots.specs.Changes.{new_arm}
use Rattle.draid_slots.specs.Table.{SlotTable, arms_of, holds_in, is_leaf_kind}
use Rattle.draid_shard.specs.declared.shard.Shard.{Shard}
use Rattle.draid_disks.specs.Checks.{missed_over}
use Rattle.draid_agent.specs.Due.{dues}
use Rattle.draid_agent.specs.declared.states.Due.{Due}
use Rattle.draid_agent.specs.declared.states.SlotState.{SlotState}
use Rattle.draid_session.specs.Agent.{WasGiven}

-- ---- slots

-- the place of the first arm of a slot
abbrev pub first_place : ℕ → ArmAt
first_place slot = record { slot = slot; arm = 0 }

abbrev pub first_arm : SlotTable → ℕ → Arm
first_arm slots slot = slice_index_or (arms_of slots slot) 0 (new_arm 0)

-- what some metaslabs, all of which have the arms of these slots, show of a slot
abbrev pub shown_of : {R A : Type 0} → SlotTable → List (Shard R A) → ℕ → SlotState
shown_of slots shards slot = record {
  slot = slot;
  arms = length (arms_of slots slot);
  leaf = is_leaf_kind (first_arm slots slot).kind;
  offline = (first_arm slots slot).offline;
  logged = missed_over shards (first_place slot);
}

-- so of so many slots from one on
abbrev pub shown_from : {R A : Type 0} → SlotTable → List (Shard R A) → ℕ → ℕ → List SlotState
shown_from slots shards slot zero = []
shown_from slots shards slot (suc n) = shown_of slots shards slot ∷ shown_from slots shards (slot + 1) n

-- those that are due
abbrev pub due_in : {R A : Type 0} → SlotTable → List (Shard R A) → ℕ → List Due
due_in slots shards least = dues least (shown_from slots shards 0 slots.geometry.spec.children)

-- ---- spares

-- ascending numbers from one on, all of which are below another
abbrev pub Ascends : ℕ → ℕ → List ℕ → Type 0
Ascends low high [] = low ≤ high
Ascends low high (x ∷ xs) = (low ≤ x) × Ascends (x + 1) high xs

-- a spare is an arm of no slot, and no detachment of it waits for its commit
abbrev pub IsIdleOf : List (List Arm) → List Detached → ℕ → Type 0
IsIdleOf arms detached spare = (by : ℕ) → holds_in arms detached spare by ≡ false

abbrev pub IsIdleIn : SlotTable → ℕ → Type 0
IsIdleIn slots spare = IsIdleOf slots.arms slots.detached spare

-- the spares below a number that were idle, and weren't given since
pub record AreFree (Idle : ℕ → Type 0) (given : List Entry) (below : ℕ) (free : List ℕ) : Type 0 where
  pub ascending : Ascends 0 below free
  pub all : (spare : ℕ) → spare < below → Idle spare → (WasGiven spare given → ⊥) → Contains free spare
  pub only : (spare : ℕ) → Contains free spare → Idle spare × (WasGiven spare given → ⊥)
