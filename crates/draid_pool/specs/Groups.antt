-- What the calls on transaction groups say.
use Rattle.std.specs.Prelude.{◌≡◌, ◌==◌, ◌<◌, ◌≤◌, ◌+◌, ◌%◌, ⊤, ℕ, false, List, Option, Some, None, Contains, length, if◌then◌else◌}
use Rattle.std.specs.declared.alloc.Global.{Global}
use Rattle.std.specs.declared.vec.Vec.{Vec}
use Rattle.draid_names.specs.Faults.{Rose}
use Rattle.draid_names.specs.declared.numbers.TheConstants.{LAST_NUMBER, NUMBERS}
use Rattle.draid_spec.specs.declared.layout.Geometry.{Geometry}
use Rattle.draid_area.specs.Area as content
use Rattle.draid_rack.specs.Moments.{LeavesTold}
use Rattle.draid_rack.specs.declared.Rack.{Ghosts}
use Rattle.draid_machine.specs.declared.event.Event.TheVariants as event
use Rattle.draid_machine.specs.declared.names.Key.{Key}
use Rattle.draid_machine.specs.declared.names.Held.{Held}
use Rattle.draid_machine.specs.Created.{IsReached}
use Rattle.draid_machine.specs.Names.{is_block}
use Rattle.draid_machine.specs.State as machine
use Rattle.draid_machine.specs.Step.{Step}
use Rattle.draid_segments.specs.Acts.{nowhere}
use Rattle.draid_segments.specs.Segments.{Pieces}
use Rattle.draid_entries.specs.History.{Passes, owed_of, stored_of}
use Rattle.draid_entries.specs.Live.{first_twice}
use Rattle.draid_entries.specs.Thin.{Distinct, ThinIs}
use Rattle.draid_stable.specs.Stable.{HasRecord}
use Rattle.draid_names.specs.declared.arm.ArmKind.TheVariants as kind
use Rattle.draid_slots.specs.Table.{SlotTable}
use Rattle.draid_slots.specs.declared.slot.Detached.{Detached}
use Rattle.draid_shard.specs.Calls.{ActsOn, CountsFailed}
use Rattle.draid_shard.specs.Fits.{IsLeaf}
use Rattle.draid_shard.specs.States.{Does, DoesNone, IsIn, layout_by}
use Rattle.draid_shard.specs.declared.shard.Shard.{Shard}
use Rattle.draid_pool.specs.declared.fault.CloseFault.{CloseFault}
use Rattle.draid_pool.specs.declared.fault.CloseFault.TheVariants as close
use Rattle.draid_pool.specs.declared.fault.SealFault.{SealFault}
use Rattle.draid_pool.specs.declared.fault.SealFault.TheVariants as seal

-- ---- closing

-- the group's closing, sealing and committing are three events, for which the limit may be used up
abbrev pub group_events : ℕ
group_events = 3

-- why a group isn't closed: the first of these that holds
abbrev pub CloseRefused : {R A : Type 0} → Shard R A → ℕ → CloseFault → Type 0
CloseRefused shard group (close.Worn events) = Passes shard.history group_events 0 × (events ≡ stored_of shard.history + owed_of shard.history)
CloseRefused shard group close.Last = (Passes shard.history group_events 0 → ⊥) × (group ≡ LAST_NUMBER)
CloseRefused shard group close.NoMemory = ⊤

-- ---- areas

-- the area of the records of a group
abbrev pub area_in : {R A : Type 0} → Shard R A → ℕ → A
area_in shard group = if group % 2 == 0 then shard.even else shard.odd

-- the area of the groups before a group and behind it is as it was
abbrev pub KeepsOtherArea : {R A : Type 0} → ℕ → Shard R A → Shard R A → Type 0
KeepsOtherArea group old new = area_in new (group + 1) ≡ area_in old (group + 1)

-- no area's count of failed calls falls
pub record AreasLater {R A : Type 0} (faults : A → ℕ) (old new : Shard R A) : Type 0 where
  pub even : faults old.even ≤ faults new.even
  pub odd : faults old.odd ≤ faults new.odd

-- a layout in another version of the format
abbrev pub at_version : ℕ → Geometry → Geometry
at_version version geometry = record geometry { props = record geometry.props { version = version } }

-- ---- sealing

-- there are so many open tickets that were born up to a group
pub record OpenUpto (w : machine.State) (group tickets : ℕ) : Type 0 where
  pub keys : List Key
  pub once : Distinct keys
  pub each : (key : Key) → Contains keys key → (h : Held) × (w.core.held key ≡ Some h) × (is_block h.stage ≡ false) × (h.birth ≤ group)
  pub all : (key : Key) (h : Held) → w.core.held key ≡ Some h → is_block h.stage ≡ false → h.birth ≤ group → Contains keys key
  pub many : tickets ≡ length keys

-- the record of an image stands there, and lists each block once
pub record ListsOnce (geometry : Geometry) (number : ℕ) (image : machine.Image) (x : content.Content) : Type 0 where
  pub has : HasRecord (at_version image.version geometry) number image x
  pub once : first_twice has.value.blocks ≡ None

-- A group is sealed. The leaves that aren't offline were flushed, but for those on which that failed, and the record of the image that the seal makes stands in
-- the group's area. So many of its blocks have a column whose arms don't answer or aren't clean.
pub record Seals {R A : Type 0} (rack : Ghosts R) (told : A → Option content.Content) (old new : Shard R A) (group thin : ℕ) : Type 0 where
  pub failed : Vec ℕ Global
  pub does : Does old new (event.Seal group failed)
  pub acts : (pieces : Pieces) → ActsOn rack old new (event.Seal group failed) pieces
  pub image : (w after : machine.State) (image : machine.Image) → Step (layout_by old) w (event.Seal group failed) after → IsReached (layout_by old) w → IsIn old w
      → after.sealed ≡ Some image → content.OnTold (told (area_in new group)) (ListsOnce old.geometry old.number image)
  pub thin_is : (w after : machine.State) → Step (layout_by old) w (event.Seal group failed) after → IsReached (layout_by old) w → IsIn old w
      → ThinIs (layout_by old) after.core group thin
  pub low : thin ≤ NUMBERS
  pub counts : CountsFailed failed.items (rack.faults old.rack) (rack.faults new.rack)

-- why a group isn't sealed: open tickets that were born up to it, before all else; else the area's failure, or want of memory
abbrev pub SealIsRefused : {R A : Type 0} → (A → ℕ) → Shard R A → Shard R A → ℕ → SealFault → Type 0
SealIsRefused faults old new group (seal.NotYet tickets) = (0 < tickets) × ((w : machine.State) → IsIn old w → OpenUpto w group tickets)
SealIsRefused faults old new group seal.Area =
    ((w : machine.State) → IsIn old w → OpenUpto w group 0) × Rose (faults (area_in old group)) (faults (area_in new group))
SealIsRefused faults old new group seal.NoMemory = ⊤

-- one that waits for open writes changed nothing
abbrev pub StaysIfWaiting : {R A : Type 0} → Shard R A → Shard R A → SealFault → Type 0
StaysIfWaiting old new (seal.NotYet tickets) = new ≡ old
StaysIfWaiting old new seal.Area = ⊤
StaysIfWaiting old new seal.NoMemory = ⊤

-- it waits for none
abbrev pub NeverWaits : SealFault → Type 0
NeverWaits (seal.NotYet tickets) = ⊥
NeverWaits seal.Area = ⊤
NeverWaits seal.NoMemory = ⊤

-- A refused seal may have flushed leaves, and written to the group's area.
pub record Unsealed {R A : Type 0} (rack : Ghosts R) (faults : A → ℕ) (old new : Shard R A) (group : ℕ) (fault : SealFault) : Type 0 where
  pub none : DoesNone old new
  pub leaves : LeavesTold nowhere (rack.told old.rack) (rack.told new.rack)
  pub counts : (who : Option ℕ) → rack.faults old.rack who ≤ rack.faults new.rack who
  pub why : SealIsRefused faults old new group fault

-- ---- committing

-- a leaf was an arm until its detachment in a group up to this one
pub record WasDetached (slots : SlotTable) (group leaf : ℕ) : Type 0 where
  pub gone : Detached
  pub among : Contains slots.detached gone
  pub kind_is : gone.kind ≡ kind.Leaf
  pub number_is : gone.number ≡ leaf
  pub upto : gone.group ≤ group

-- Of the leaves just those went that were detached up to a group, but for one that is an arm again, or was detached again since. No count falls but theirs.
pub record DropsDetached {R A : Type 0} (rack : Ghosts R) (old new : Shard R A) (group : ℕ) : Type 0 where
  pub bytes : (rack.shape new.rack).bytes ≡ (rack.shape old.rack).bytes
  pub others : (leaf : ℕ) → (WasDetached old.slots group leaf → ⊥) → (rack.shape new.rack).leaves leaf ≡ (rack.shape old.rack).leaves leaf
  pub stay : (leaf : ℕ) → IsLeaf new.slots leaf → (rack.shape new.rack).leaves leaf ≡ (rack.shape old.rack).leaves leaf
  pub go : (leaf : ℕ) → WasDetached old.slots group leaf → (IsLeaf new.slots leaf → ⊥) → (rack.shape new.rack).leaves leaf ≡ None
  pub rack_count : rack.faults old.rack None ≤ rack.faults new.rack None
  pub counts : (leaf : ℕ) → IsLeaf new.slots leaf → rack.faults old.rack (Some leaf) ≤ rack.faults new.rack (Some leaf)

-- ---- opening
