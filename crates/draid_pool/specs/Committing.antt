-- What a commit takes out of a metaslab's tables, and which leaves it gives up.
use Rattle.std.specs.Prelude.{◌≡◌, ◌==◌, ◌<◌, ◌≤◌, ◌⊎◌, ℕ, Bool, true, false, nat_lt, List, Option, Some, None, Contains, filter, option_map, if◌then◌else◌}
use Rattle.draid_names.specs.declared.arm.ArmKind.TheVariants as kind
use Rattle.draid_rack.specs.Moments.{LeavesTold}
use Rattle.draid_rack.specs.declared.Rack.{Ghosts}
use Rattle.draid_machine.specs.declared.names.Key.{Key}
use Rattle.draid_machine.specs.Names.{is_freed_by}
use Rattle.draid_machine.specs.After.{is_freed_block, keep_loan}
use Rattle.draid_machine.specs.Created.{IsReached}
use Rattle.draid_machine.specs.State as machine
use Rattle.draid_entries.specs.declared.entry.Entry.{Entry}
use Rattle.draid_entries.specs.declared.entries.Entries.{Entries}
use Rattle.draid_entries.specs.Entries.{count_of, entry_at, held_in, owed_by}
use Rattle.draid_slots.specs.declared.slot.Detached.{Detached}
use Rattle.draid_slots.specs.Table.{SlotTable}
use Rattle.draid_shard.specs.Fits.{IsLeaf}
use Rattle.draid_shard.specs.Loans.{loan_in}
use Rattle.draid_shard.specs.States.{IsIn, layout_by}
use Rattle.draid_shard.specs.declared.shard.Shard.{Shard}

-- ---- blocks

-- an entry was freed up to a group
abbrev pub is_freed_entry : ℕ → Option Entry → Bool
is_freed_entry group None = false
is_freed_entry group (Some e) = is_freed_by group e.stage

-- What was freed up to a group went, and all else is as it was.
pub record DropsFreed (group : ℕ) (old new : Entries) : Type 0 where
  pub at : (first : ℕ) → entry_at new first ≡ (if is_freed_entry group (entry_at old first) then None else entry_at old first)
  pub held : (key : Key) → held_in new key ≡ (if is_freed_block group (held_in old key) then None else held_in old key)
  pub owed : (columns : ℕ) → owed_by columns new ≡ owed_by columns old
  pub count : count_of new ≤ count_of old

-- nothing went but what was freed up to a group
pub record DropsSome (group : ℕ) (old new : Entries) : Type 0 where
  pub at : (first : ℕ) → (entry_at new first ≡ entry_at old first) ⊎ ((entry_at new first ≡ None) × (is_freed_entry group (entry_at old first) ≡ true))
  pub held : (key : Key) → (held_in new key ≡ held_in old key) ⊎ ((held_in new key ≡ None) × (is_freed_block group (held_in old key) ≡ true))
  pub owed : (columns : ℕ) → owed_by columns new ≡ owed_by columns old
  pub count : count_of new ≤ count_of old

-- nothing that begins before a stripe was freed up to a group
abbrev pub NoneFreed : ℕ → Entries → ℕ → Type 0
NoneFreed group entries stripe = (first : ℕ) → first < stripe → is_freed_entry group (entry_at entries first) ≡ false

-- ---- the loan that counts

-- what a state keeps of it where what was freed up to a group goes
abbrev pub KeepsLoan : {R A : Type 0} → Shard R A → ℕ → Bool → Type 0
KeepsLoan shard group freed =
    (w : machine.State) → IsReached (layout_by shard) w → IsIn shard w
    → keep_loan (λ k. is_freed_block group (w.core.held k)) w.loan ≡ option_map loan_in (if freed then None else shard.kept)

-- ---- leaves

-- the detachments that a commit leaves
abbrev pub later_than : ℕ → List Detached → List Detached
later_than group detached = filter (λ (gone : Detached). nat_lt group gone.group) detached

-- a leaf that is an arm, or was one until a group after this one
abbrev pub StaysLeaf : SlotTable → ℕ → ℕ → Type 0
StaysLeaf slots group leaf = IsLeaf (record slots { detached = later_than group slots.detached }) leaf

-- a list has a leaf that was detached up to a group
pub record IsAmong (detached : List Detached) (group leaf : ℕ) : Type 0 where
  pub gone : Detached
  pub among : Contains detached gone
  pub kind_is : gone.kind ≡ kind.Leaf
  pub number_is : gone.number ≡ leaf
  pub upto : gone.group ≤ group

-- some leaves went, and no count falls but theirs
pub record DropsJust {R : Type 0} (rack : Ghosts R) (goes : ℕ → Bool) (old new : R) : Type 0 where
  pub bytes : (rack.shape new).bytes ≡ (rack.shape old).bytes
  pub leaves : (leaf : ℕ) → (rack.shape new).leaves leaf ≡ (if goes leaf then None else (rack.shape old).leaves leaf)
  pub told : LeavesTold (λ leaf sector. goes leaf) (rack.told old) (rack.told new)
  pub counts : (who : Option ℕ) → ((leaf : ℕ) → who ≡ Some leaf → goes leaf ≡ false) → rack.faults old who ≤ rack.faults new who

-- of the leaves those went that a list has, but for those that stay
pub record DropsListed {R : Type 0} (rack : Ghosts R) (slots : SlotTable) (group : ℕ) (detached : List Detached) (old new : R) : Type 0 where
  pub goes : ℕ → Bool
  pub only : (leaf : ℕ) → goes leaf ≡ true → IsAmong detached group leaf × (StaysLeaf slots group leaf → ⊥)
  pub all : (leaf : ℕ) → IsAmong detached group leaf → (StaysLeaf slots group leaf → ⊥) → goes leaf ≡ true
  pub drops : DropsJust rack goes old new

-- the leaf of one detachment went, where it was detached up to a group and doesn't stay
pub record DropsOne {R : Type 0} (rack : Ghosts R) (slots : SlotTable) (group : ℕ) (gone : Detached) (old new : R) : Type 0 where
  pub went : Bool
  pub only : went ≡ true → (gone.kind ≡ kind.Leaf) × (gone.group ≤ group) × (StaysLeaf slots group gone.number → ⊥)
  pub all : gone.kind ≡ kind.Leaf → gone.group ≤ group → (StaysLeaf slots group gone.number → ⊥) → went ≡ true
  pub drops : DropsJust rack (λ leaf. if went then leaf == gone.number else false) old new
