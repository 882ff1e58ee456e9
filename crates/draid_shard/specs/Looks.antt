-- What looks at the blocks and tickets of a shard say.
use Rattle.std.specs.Prelude.{◌≡◌, ◌<◌, ◌≤◌, ℕ, Some, None, ◌⊎◌, ◌+◌, true, false, List, Contains, length}
use Rattle.draid_names.specs.declared.pointer.Pointer.{Pointer}
use Rattle.draid_machine.specs.declared.names.Stage.TheVariants as stage
use Rattle.draid_entries.specs.Entries.{IsEntered, entry_at}
use Rattle.draid_entries.specs.Maps.{held_at, key_of, staged}
use Rattle.draid_shard.specs.declared.shard.Shard.{Shard}
use Rattle.draid_machine.specs.declared.names.Key.{Key}
use Rattle.draid_machine.specs.declared.names.Held.{Held}
use Rattle.draid_machine.specs.declared.names.Stage.{Stage}
use Rattle.draid_machine.specs.Names as names
use Rattle.draid_machine.specs.State as machine
use Rattle.draid_machine.specs.Step.{IsTaken}
use Rattle.draid_entries.specs.declared.entry.Entry.{Entry}
use Rattle.draid_entries.specs.declared.entries.Entries.{Entries}
use Rattle.draid_entries.specs.Thin.{Distinct}

-- ---- in a state

-- the first stripe at one or behind it that a block or a ticket has
pub record IsNextTaken (q : machine.Core) (from x : ℕ) : Type 0 where
  pub taken : IsTaken q x
  pub behind : from ≤ x
  pub first : (y : ℕ) → from ≤ y → y < x → IsTaken q y → ⊥

-- a block, live or freed, that was born up to a group has a stripe at one or behind it
pub record Reaches (q : machine.Core) (from upto : ℕ) (k : Key) (h : Held) (x : ℕ) : Type 0 where
  pub there : q.held k ≡ Some h
  pub is_block : names.is_block h.stage ≡ true
  pub born : h.birth ≤ upto
  pub takes : names.takes h x ≡ true
  pub behind : from ≤ x

-- the block that has the first such stripe
pub record IsNextBlock (q : machine.Core) (from upto : ℕ) (p : Pointer) : Type 0 where
  pub stage : Stage
  pub stripe : ℕ
  pub reaches : Reaches q from upto (key_of p) (held_at (staged stage p)) stripe
  pub first : (k : Key) (h : Held) (x : ℕ) → Reaches q from upto k h x → stripe ≤ x

-- there are so many open tickets
pub record HasTickets (q : machine.Core) (tickets : ℕ) : Type 0 where
  pub keys : List Key
  pub once : Distinct keys
  pub each : (key : Key) → Contains keys key → (h : Held) × (q.held key ≡ Some h) × (names.is_block h.stage ≡ false)
  pub all : (key : Key) (h : Held) → q.held key ≡ Some h → names.is_block h.stage ≡ false → Contains keys key
  pub many : tickets ≡ length keys

-- the greatest birth of a block or ticket, 0 where there is none
pub record IsGreatestBirth (q : machine.Core) (birth : ℕ) : Type 0 where
  pub births : (k : Key) (h : Held) → q.held k ≡ Some h → h.birth ≤ birth
  pub one : (birth ≡ 0) ⊎ ((k : Key) × (h : Held) × (q.held k ≡ Some h) × (h.birth ≡ birth))

-- ---- in the table

-- the entry is the table's, and has the stripe
pub record IsOver (t : Entries) (x : ℕ) (e : Entry) : Type 0 where
  pub there : entry_at t e.pointer.first ≡ Some e
  pub from : e.pointer.first ≤ x
  pub to : x < e.pointer.first + e.pointer.stripes

-- a block, live or freed, that was born up to a group
pub record IsBlockUpto (group : ℕ) (e : Entry) : Type 0 where
  pub block : names.is_block e.stage ≡ true
  pub born : e.pointer.birth ≤ group

-- such a block has the stripe
pub record IsBlockOver (t : Entries) (x upto : ℕ) (e : Entry) : Type 0 where
  pub over : IsOver t x e
  pub block : IsBlockUpto upto e

-- no such block begins from one stripe on and before another
abbrev pub NoBlockBetween : Entries → ℕ → ℕ → ℕ → Type 0
NoBlockBetween t upto from to = (e : Entry) → entry_at t e.pointer.first ≡ Some e → from ≤ e.pointer.first → e.pointer.first < to → IsBlockUpto upto e → ⊥

-- the first that begins at a stripe or behind it
pub record IsFirstBlock (t : Entries) (from upto : ℕ) (p : Pointer) : Type 0 where
  pub stage : Stage
  pub there : entry_at t p.first ≡ Some (staged stage p)
  pub block : IsBlockUpto upto (staged stage p)
  pub behind : from ≤ p.first
  pub first : NoBlockBetween t upto from p.first

-- a block or ticket begins at a stripe or behind it, and none between
pub record IsNextHeld {R A : Type 0} (shard : Shard R A) (from : ℕ) (pointer : Pointer) : Type 0 where
  pub entered : IsEntered shard.entries pointer
  pub behind : from ≤ pointer.first
  pub first : (x : ℕ) → from ≤ x → x < pointer.first → entry_at shard.entries x ≡ None

-- the pointer is that of a live block here
abbrev pub IsLive : {R A : Type 0} → Shard R A → Pointer → Type 0
IsLive shard pointer = entry_at shard.entries pointer.first ≡ Some (staged stage.Live pointer)
