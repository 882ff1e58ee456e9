-- The metaslabs that an import opens, and the blocks that it finds there.
use Rattle.std.specs.Prelude.{◌≡◌, ◌<◌, ◌≤◌, ◌+◌, ◌⊎◌, ⊤, ℕ, true, List, Option, Some, None, Ok, IsErrOf, IsSome, IsSomeAnd, MatchOption, Result, [], length, option_map, slice_get, slice_set}
use Rattle.draid_record.specs.declared.fault.RecordFaultKind.{RecordFaultKind}
use Rattle.draid_names.specs.Faults.{Rose}
use Rattle.draid_names.specs.declared.fault.DeviceFault.{DeviceFault}
use Rattle.draid_names.specs.declared.fault.DeviceFault.TheVariants as device
use Rattle.draid_rack.specs.Rack.{Shape}
use Rattle.draid_rack.specs.declared.Rack as racks
use Rattle.draid_area.specs.Area.{Content, IsOfSize, OnTold, flushes}
use Rattle.draid_area.specs.declared.Area as areas
use Rattle.draid_shelf.specs.Kits as shelf
use Rattle.draid_shelf.specs.Shelf.{IsKnown}
use Rattle.draid_shelf.specs.declared.kit.Kit.{Kit}
use Rattle.draid_spec.specs.declared.layout.Geometry.{Geometry}
use Rattle.draid_perm.specs.declared.perms.Perms.{Perms}
use Rattle.draid_map.specs.Place.{IsLayout}
use Rattle.draid_names.specs.declared.numbers.TheConstants.{LAST_NUMBER}
use Rattle.draid_names.specs.declared.pointer.Pointer.{Pointer}
use Rattle.draid_machine.specs.declared.names.Stage.TheVariants.{Freed, Live}
use Rattle.draid_machine.specs.Names.{is_block}
use Rattle.draid_entries.specs.declared.entry.Entry.{Entry}
use Rattle.draid_entries.specs.Entries.{entry_at}
use Rattle.draid_entries.specs.History.{limit_in}
use Rattle.draid_entries.specs.Maps.{staged}
use Rattle.draid_segments.specs.Segments.{Pieces}
use Rattle.draid_session.specs.State.{Metaslab, State, limit_of}
use Rattle.draid_import.specs.declared.fault.ImportFault.{ImportFault}
use Rattle.draid_import.specs.declared.fault.ImportFault.TheVariants as fault
use Rattle.draid_pool.specs.Returning.{TakesBack}
use Rattle.draid_import.specs.Imported.{IsFoundOf, Stays}
use Rattle.draid_pool.specs.Metaslabs.{IsMetaslab}
use Rattle.draid_pool.specs.Shards.{FreesIn, Goes}
use Rattle.draid_shard.specs.Looks.{IsLive}
use Rattle.draid_shard.specs.Alike.{KeepsArms}
use Rattle.draid_shard.specs.Changes.{SetsBlock}
use Rattle.draid_shard.specs.Fits.{Valid}
use Rattle.draid_import.specs.Reopening.{HasLowLeaves, Opens, OpensCounts}
use Rattle.draid_shard.specs.Part.{Part}
use Rattle.draid_shard.specs.States.{part_of}
use Rattle.draid_import.specs.declared.fault.OpenFault.{OpenFault}
use Rattle.draid_import.specs.declared.fault.OpenFault.TheVariants as open_fault
use Rattle.draid_shard.specs.declared.shard.Shard.{Shard}
use Rattle.draid_found.specs.Found.{AllLive}
use Rattle.draid_uber.specs.declared.uber.Uber.{Uber}
use Rattle.draid_uber.specs.declared.uber.UberFault.{UberFault}
use Rattle.draid_uber.specs.declared.uber.UberFault.TheVariants as uber_fault
use Rattle.draid_uber.specs.Slots.{StandsTold, chosen_of, group_of, read_body}
use Rattle.draid_uber.specs.Uber.{area_of, areas_of, count_of, kept_of, layout_of, next_leaf_of, version_of, point_of}
use Rattle.draid_uber.specs.Uber as ubers

-- ---- the shelf

-- a call on an area of a metaslab's records has failed since
abbrev pub RecordsRose : shelf.KitCounts → shelf.KitCounts → Type 0
RecordsRose before after = Rose before.even after.even ⊎ Rose before.odd after.odd

-- so of one of so many metaslabs
abbrev pub AnyRecordsRose : ℕ → (ℕ → shelf.KitCounts) → (ℕ → shelf.KitCounts) → Type 0
AnyRecordsRose metaslabs before after = (m : ℕ) × (m < metaslabs) × RecordsRose (before m) (after m)

-- the same is held
pub record SameHeld (old new : shelf.Held) : Type 0 where
  pub uber : new.uber ≡ old.uber
  pub checks : new.checks ≡ old.checks
  pub kits : (m : ℕ) → new.kits m ≡ old.kits m

-- so where it is told
abbrev pub StaysHeld : Option shelf.Held → Option shelf.Held → Type 0
StaysHeld old new = shelf.OnHeld new (λ y. MatchOption old ⊥ (λ x. SameHeld x y))

-- no count of a metaslab's areas fell, and those of its rack are the same
pub record CountsLater (before after : shelf.KitCounts) : Type 0 where
  pub rack : (who : Option ℕ) → after.rack who ≡ before.rack who
  pub even : before.even ≤ after.even
  pub odd : before.odd ≤ after.odd

-- ---- metaslabs

-- a metaslab that was opened from the record of a group
pub record IsReopened {R A : Type 0} (rack : racks.Ghosts R) (part : Part) (group : ℕ) (shard : Shard R A) : Type 0 where
  pub valid : Valid rack shard
  pub part_is : part_of shard ≡ part
  pub committed : shard.committed ≡ group
  pub live : AllLive shard

-- all metaslabs of a layout
pub record AreReopened {R A : Type 0} (rack : racks.Ghosts R) (geometry : Geometry) (group : ℕ) (shards : List (Shard R A)) : Type 0 where
  pub perms : Perms
  pub layout : IsLayout geometry perms
  pub many : length shards ≡ geometry.props.metaslabs
  pub each : (m : ℕ) (shard : Shard R A) → slice_get shards m ≡ Some shard → IsReopened rack (record { geometry = geometry; perms = perms; number = m }) group shard

-- none of the arms of some metaslabs is detached, and their leaves have numbers below one
abbrev pub HaveLowLeaves : {R A : Type 0} → ℕ → List (Shard R A) → Type 0
HaveLowLeaves {R} {A} next shards = (m : ℕ) (shard : Shard R A) → slice_get shards m ≡ Some shard → HasLowLeaves next shard.slots

-- the devices that a shelf held for a metaslab, with their counts and with the leaves that were known
pub record IsKitOf {R A : Type 0} (rack : racks.Ghosts R) (area : areas.Ghosts A) (m : ℕ) (held : Option shelf.Held) (known : Option Shape) (counts : shelf.KitCounts) (kit : Kit R A) : Type 0 where
  pub told : shelf.OnHeld held (λ x. shelf.kit_of (rack.told kit.rack) (area.told kit.even) (area.told kit.odd) ≡ x.kits m)
  pub some : shelf.NeedsKit m (Ok kit) held
  pub leaves : IsKnown known (rack.shape kit.rack)
  pub rack_count : (who : Option ℕ) → rack.faults kit.rack who ≡ counts.rack who
  pub even_count : area.faults kit.even ≡ counts.even
  pub odd_count : area.faults kit.odd ≡ counts.odd

-- A metaslab was opened from the record of a group, over the devices that the shelf held for it.
pub record OpensOver {R A : Type 0} (rack : racks.Ghosts R) (area : areas.Ghosts A) (limit group next m : ℕ) (held : Option shelf.Held) (known : Option Shape) (counts : shelf.KitCounts) (shard : Shard R A) : Type 0 where
  pub kit : Kit R A
  pub taken : IsKitOf rack area m held known counts kit
  pub opens : Opens rack area.told kit group next shard
  pub later : OpensCounts rack area.faults kit shard
  pub limit_is : limit_in shard.history ≡ limit

-- so each of some metaslabs
abbrev pub OpensAllOver : {R A : Type 0} → racks.Ghosts R → areas.Ghosts A → ℕ → ℕ → ℕ → Option shelf.Held → (ℕ → Option Shape) → (ℕ → shelf.KitCounts) → List (Shard R A) → Type 0
OpensAllOver {R} {A} rack area limit group next held leaves counts shards =
    (m : ℕ) (shard : Shard R A) → slice_get shards m ≡ Some shard → OpensOver rack area limit group next m held (leaves m) (counts m) shard

-- where the leaves of a rack were known they are so still
abbrev pub KeepsKnown : Option Shape → Option Shape → Type 0
KeepsKnown old new = MatchOption old ⊤ (λ shape. new ≡ Some shape)

-- Some metaslabs of a layout were opened and given back, and the devices of all others are as they were, but that no count of their areas fell. The shelf tells where it did.
pub record LeavesShards {R A : Type 0} (rack : racks.Ghosts R) (area : areas.Ghosts A) (geometry : Geometry) (group next : ℕ) (old new : Option shelf.Held) (before after : ℕ → shelf.KitCounts)
    (leaves now : ℕ → Option Shape) : Type 0 where
  pub perms : Perms
  pub layout : IsLayout geometry perms
  pub shards : List (Shard R A)
  pub few : length shards ≤ geometry.props.metaslabs
  pub each : (m : ℕ) (shard : Shard R A) → slice_get shards m ≡ Some shard → IsReopened rack (record { geometry = geometry; perms = perms; number = m }) group shard
  pub over : OpensAllOver rack area (limit_of geometry) group next old leaves before shards
  pub held : shelf.OnHeld new (λ y. MatchOption old ⊥ (λ x. TakesBack rack area shards x y))
  pub tells : shelf.OnHeld old (λ x. IsSome new)
  pub rack_count : (m : ℕ) (shard : Shard R A) (who : Option ℕ) → slice_get shards m ≡ Some shard → (after m).rack who ≡ rack.faults shard.rack who
  pub even_count : (m : ℕ) (shard : Shard R A) → slice_get shards m ≡ Some shard → (after m).even ≡ area.faults shard.even
  pub odd_count : (m : ℕ) (shard : Shard R A) → slice_get shards m ≡ Some shard → (after m).odd ≡ area.faults shard.odd
  pub others : (m : ℕ) → length shards ≤ m → CountsLater (before m) (after m)
  pub leaves_own : (m : ℕ) (shard : Shard R A) → slice_get shards m ≡ Some shard → now m ≡ Some (rack.shape shard.rack)
  pub leaves_left : (m : ℕ) → length shards ≤ m → KeepsKnown (leaves m) (now m)

-- ---- refusals

-- why an import is refused where the uberblock wasn't recovered
abbrev pub uber_fault_of : UberFault → ImportFault
uber_fault_of uber_fault.Area = fault.Shelf
uber_fault_of uber_fault.NoMemory = fault.NoMemory
uber_fault_of uber_fault.Empty = fault.NoPool
uber_fault_of (uber_fault.Record place kind) = fault.Record None place kind

-- or a call on the shelf gave nothing
abbrev pub shelf_fault_of : DeviceFault → ImportFault
shelf_fault_of device.Failed = fault.Shelf
shelf_fault_of device.NoMemory = fault.NoMemory

-- or a metaslab wasn't opened
abbrev pub open_fault_of : ℕ → OpenFault → ImportFault
open_fault_of number open_fault.Area = fault.Shelf
open_fault_of number open_fault.NoMemory = fault.NoMemory
open_fault_of number (open_fault.Record place kind) = fault.Record (Some number) place kind

-- why metaslabs are not opened, or their blocks not found: neither that there is no pool, nor its check record
abbrev pub IsShardFault : ImportFault → Type 0
IsShardFault fault.NoPool = ⊥
IsShardFault (fault.Record metaslab place kind) = ⊤
IsShardFault (fault.Check place kind) = ⊥
IsShardFault fault.Shelf = ⊤
IsShardFault fault.NoMemory = ⊤

-- the answer isn't that a record has a fault
abbrev pub NoRecord : {T : Type 0} → Result T ImportFault → Type 0
NoRecord result = (metaslab : Option ℕ) (place : ℕ) (kind : RecordFaultKind) → IsErrOf result (fault.Record metaslab place kind) → ⊥

-- ---- the uberblock

-- an uberblock that was found: its group is one that a metaslab may be opened from
pub record IsFoundUber {A : Type 0} (area : areas.Ghosts A) (uber : Uber A) : Type 0 where
  pub valid : ubers.Valid area.size uber
  pub version : version_of uber ≡ (layout_of uber).props.version
  pub some : 1 ≤ group_of (kept_of uber)
  pub low : group_of (kept_of uber) < LAST_NUMBER

-- the same is held, and the area of the uberblock was left alone, or flushed
pub record SameButFlushed (old new : shelf.Held) : Type 0 where
  pub uber : (new.uber ≡ old.uber) ⊎ (new.uber ≡ option_map flushes old.uber)
  pub checks : new.checks ≡ old.checks
  pub kits : (m : ℕ) → new.kits m ≡ old.kits m

-- what is left where no uberblock was found: so much where it is told, as it is where it was, and no count of its area fell
pub record LeavesUber (old new : Option shelf.Held) (count count' : ℕ) : Type 0 where
  pub held : shelf.OnHeld new (λ y. MatchOption old ⊥ (λ x. SameButFlushed x y))
  pub tells : shelf.OnHeld old (λ x. IsSome new)
  pub later : count ≤ count'

-- an uberblock was recovered from the area that the shelf held: it is what the bytes say, and a crash leaves it alone from then on. It has the areas of the check records that the shelf held.
pub record IsRecovered {A : Type 0} (area : areas.Ghosts A) (held : Option shelf.Held) (count : ℕ) (uber : Uber A) : Type 0 where
  pub content : Option Content
  pub own : shelf.OnHeld held (λ x. content ≡ x.uber)
  pub size : ℕ
  pub counted : OnTold content (IsOfSize size)
  pub finds : OnTold content (λ x. chosen_of x.bytes ≡ option_map read_body (kept_of uber))
  pub flushed : area.told (area_of uber) ≡ option_map flushes content
  pub checks : shelf.OnHeld held (λ x. shelf.checks_of (area.told (areas_of uber).even) (area.told (areas_of uber).odd) ≡ x.checks)
  pub some_checks : shelf.OnHeld held (λ x. IsSome x.checks)
  pub stands : StandsTold (kept_of uber) [] (area.told (area_of uber))
  pub leaf : IsSomeAnd (kept_of uber) (λ body. next_leaf_of uber ≡ body.next_leaf)
  pub later : count ≤ count_of area.faults uber

-- an uberblock was found there, and the count of an area of records rose, of one of the metaslabs that it names
pub record FoundRecordsRose {A : Type 0} (area : areas.Ghosts A) (held : Option shelf.Held) (count : ℕ) (before after : ℕ → shelf.KitCounts) : Type 0 where
  pub uber : Uber A
  pub found : IsFoundUber area uber
  pub recovered : IsRecovered area held count uber
  pub rose : AnyRecordsRose (layout_of uber).props.metaslabs before after

-- the shelf's count rose, or that of the uberblock's area, or that of an area of such a metaslab's records
abbrev pub HasRisen : {A : Type 0} → areas.Ghosts A → Option shelf.Held → ℕ → ℕ → ℕ → ℕ → (ℕ → shelf.KitCounts) → (ℕ → shelf.KitCounts) → Type 0
HasRisen area held faults faults' uber uber' counts counts' = (Rose faults faults' ⊎ Rose uber uber') ⊎ FoundRecordsRose area held uber counts counts'

-- ---- older blocks

-- a live block was freed in a group, in each metaslab that the shard stands for
abbrev pub FreesAt : {R A : Type 0} → racks.Ghosts R → areas.Ghosts A → Pointer → (floor group : ℕ) → Shard R A → Shard R A → Type 0
FreesAt rack area pointer floor group old new = (part : Part) (pieces : Pieces) (x : Metaslab) → IsMetaslab rack area part pieces old x
    → Goes rack area part pieces x new (FreesIn part.number pointer floor group x)

-- a live block was freed, unless it is its object's newest, or the checkpoint keeps it
pub record FreesIfOlder {R A : Type 0} (rack : racks.Ghosts R) (area : areas.Ghosts A) (newest : ℕ → Option Pointer) (own : Option ℕ) (pointer : Pointer) (floor : ℕ) (old new : Shard R A) : Type 0 where
  pub valid : Valid rack new
  pub part : part_of new ≡ part_of old
  pub open_group_is : new.open_group ≡ old.open_group
  pub done : (Stays newest own pointer × (new ≡ old))
      ⊎ ((Stays newest own pointer → ⊥) × ((group : ℕ) × SetsBlock old new pointer (Some (staged (Freed group) pointer)) × FreesAt rack area pointer floor group old new))

-- Blocks of a metaslab were freed, but for those that stay.
pub record FreesOlder {R A : Type 0} (rack : racks.Ghosts R) (newest : ℕ → Option Pointer) (own : Option ℕ) (old new : Shard R A) : Type 0 where
  pub valid : Valid rack new
  pub part : part_of new ≡ part_of old
  pub committed : new.committed ≡ old.committed
  pub slots : KeepsArms old.slots new.slots
  pub kept : (p : Pointer) → Stays newest own p → IsLive old p → IsLive new p
  pub blocks : (first : ℕ) (e : Entry) → entry_at new.entries first ≡ Some e
      → (is_block e.stage ≡ true) × ((e' : Entry) × (entry_at old.entries first ≡ Some e') × (e'.pointer ≡ e.pointer))

-- so in each of some metaslabs
pub record AreFreed {R A : Type 0} (rack : racks.Ghosts R) (newest : ℕ → Option Pointer) (own : Option ℕ) (old new : List (Shard R A)) : Type 0 where
  pub many : length new ≡ length old
  pub each : (m : ℕ) (shard : Shard R A) → slice_get new m ≡ Some shard → (before : Shard R A) × (slice_get old m ≡ Some before) × FreesOlder rack newest own before shard

-- no block of a shard is live but those that stay
abbrev pub HasOnly : {R A : Type 0} → (ℕ → Option Pointer) → Option ℕ → Shard R A → Type 0
HasOnly newest own shard = (first : ℕ) (e : Entry) → entry_at shard.entries first ≡ Some e → e.stage ≡ Live → Stays newest own e.pointer

-- What was found in some shards is found in others, whose uberblock names the group before a floor, and keeps a checkpoint of this group.
abbrev pub KeepsFound : {R A : Type 0} → racks.Ghosts R → areas.Ghosts A → (ℕ → Option Pointer) → Option ℕ → (floor : ℕ) → List (Shard R A) → List (Shard R A) → Type 0
KeepsFound {R} {A} rack area newest own floor old new = (x : State) (uber : Uber A) (pieces : ℕ → Pieces) (seq : ℕ) → (point_of uber).group ≡ own → floor ≡ group_of (kept_of uber) + 1
    → IsFoundOf rack area x uber pieces newest seq old → IsFoundOf rack area x uber pieces newest seq new

-- so with another shard for one of them
abbrev pub KeepsFoundAt : {R A : Type 0} → racks.Ghosts R → areas.Ghosts A → (ℕ → Option Pointer) → Option ℕ → (floor : ℕ) → Shard R A → Shard R A → Type 0
KeepsFoundAt {R} {A} rack area newest own floor old new = (m : ℕ) (shards : List (Shard R A)) → slice_get shards m ≡ Some old → KeepsFound rack area newest own floor shards (slice_set shards m new)
