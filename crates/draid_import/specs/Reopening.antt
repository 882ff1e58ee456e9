-- A metaslab is opened from the record of a group.
use Rattle.std.specs.Prelude.{◌<◌, ◌≡◌, ◌+◌, [], ⊤, ℕ, Bool, List, Option, Err, ◌==◌, ◌≤◌, ◌%◌, Ok, if◌then◌else◌}
use Rattle.draid_names.specs.Faults.{Rose}
use Rattle.draid_spec.specs.declared.layout.Geometry.{Geometry}
use Rattle.draid_spec.specs.Geometry.{metaslab_sectors}
use Rattle.draid_perm.specs.declared.perms.Perms.{Perms}
use Rattle.draid_area.specs.Area as content
use Rattle.draid_rack.specs.declared.Rack.{Ghosts}
use Rattle.draid_shelf.specs.declared.kit.Kit.{Kit}
use Rattle.draid_entries.specs.Entries.{count_of}
use Rattle.draid_entries.specs.History.{events_of, limit_in, owed_of, reserved_of}
use Rattle.draid_entries.specs.declared.history.History.{History}
use Rattle.draid_record.specs.declared.limits.Limits.{Limits}
use Rattle.draid_record.specs.Record.{limits_of, RecordTold}
use Rattle.draid_record.specs.declared.fault.RecordFault.TheVariants.{Bad}
use Rattle.draid_stable.specs.Opening.{AreRead, block_at, has_leaf, opening_of, KeepsCounts, arms_told}
use Rattle.draid_stable.specs.declared.opening.Tables.{Tables}
use Rattle.draid_shard.specs.Fits.{owed_for_pass, IsLeaf}
use Rattle.draid_import.specs.declared.fault.OpenFault.{OpenFault}
use Rattle.draid_import.specs.declared.fault.OpenFault.TheVariants as fault
use Rattle.draid_import.specs.declared.reopening.ReadTables.{ReadTables}
use Rattle.draid_machine.specs.State as machine
use Rattle.draid_segments.specs.Acts.{DropsBut, IsNamed}
use Rattle.draid_entries.specs.Live.{HasLive}
use Rattle.draid_machine.specs.declared.names.Segment.{Segment}
use Rattle.draid_machine.specs.After.{reopen_state}
use Rattle.draid_record.specs.Written.{IsRecord}
use Rattle.draid_stable.specs.Images.{image_by}
use Rattle.draid_rack.specs.Rack.{OnBothTold}
use Rattle.draid_slots.specs.Table.{SlotTable}
use Rattle.draid_shard.specs.States.{IsIn, layout_by, stored_in}
use Rattle.draid_shard.specs.declared.shard.Shard.{Shard}

-- the area of the records of a group
abbrev pub area_of_kit : {R A : Type 0} → Kit R A → ℕ → A
area_of_kit kit group = if group % 2 == 0 then kit.even else kit.odd

-- these bytes are the area's, where it tells them
abbrev pub AreBytes : Option content.Content → List ℕ → Type 0
AreBytes told bytes = content.OnTold told (λ x. x.bytes ≡ bytes)

-- Why a metaslab isn't opened: a call on the area failed; or the bytes that it gave have this fault first; or memory was wanting.
abbrev pub OpenIsRefused : {R A : Type 0} → Ghosts R → (A → ℕ) → (A → Option content.Content) → Geometry → ℕ → Kit R A → Kit R A → ℕ → ℕ → OpenFault → Type 0
OpenIsRefused rack faults told geometry number old new group next fault.Area = Rose (faults (area_of_kit old group)) (faults (area_of_kit new group))
OpenIsRefused rack faults told geometry number old new group next (fault.Record place kind) =
    (bytes : List ℕ) × AreBytes (told (area_of_kit old group)) bytes
    × (opening_of (limits_of geometry number group next) (has_leaf (rack.shape old.rack) (metaslab_sectors geometry)) bytes ≡ Err (Bad place kind))
OpenIsRefused rack faults told geometry number old new group next fault.NoMemory = ⊤

-- the tables are those of a record that was read from these bytes
pub record AreReadFrom (bytes : List ℕ) (t : Tables) : Type 0 where
  pub geometry : Geometry
  pub perms : Perms
  pub limits : Limits
  pub there : ℕ → Bool
  pub read : AreRead geometry perms limits there bytes t

-- the tables of the record that the area gave, and the place of its first block
pub record ReadsTables {R A : Type 0} (rack : Ghosts R) (told : A → Option content.Content) (geometry : Geometry) (perms : Perms) (number : ℕ) (kit : Kit R A) (group next : ℕ) (it : ReadTables) : Type 0 where
  pub bytes : List ℕ
  pub are : AreBytes (told (area_of_kit kit group)) bytes
  pub read : AreRead geometry perms (limits_of geometry number group next) (has_leaf (rack.shape kit.rack) (metaslab_sectors geometry)) bytes it.tables
  pub place : it.blocks_at ≡ block_at bytes read.value.blocks 0

-- no event, with those owed that tables owe, and with this limit
pub record BeginsWith (t : Tables) (limit : ℕ) (history : History) : Type 0 where
  pub events : events_of history ≡ []
  pub owed : owed_of history ≡ count_of t.entries + owed_for_pass t.pass
  pub reserved : reserved_of history ≡ 0
  pub limit_is : limit_in history ≡ limit

-- no arm is detached, and the numbers of leaves are below one
pub record HasLowLeaves (next : ℕ) (slots : SlotTable) : Type 0 where
  pub detached : slots.detached ≡ []
  pub below : (leaf : ℕ) → IsLeaf slots leaf → leaf < next

-- A metaslab is opened from the record of a group, which has no fault to a rack with these leaves: its slots have the record's arms, its entries are the record's
-- blocks, and it stands for what a state's opening from that image gives. Leaves that the image doesn't name went, and no other; the areas tell what they did.
pub record Opens {R A : Type 0} (rack : Ghosts R) (told : A → Option content.Content) (kit : Kit R A) (group next : ℕ) (shard : Shard R A) : Type 0 where
  pub value : RecordTold
  pub in_range : IsRecord (limits_of shard.geometry shard.number group next) value
  pub read : content.OnTold (told (area_of_kit kit group)) (λ x. opening_of (limits_of shard.geometry shard.number group next) (has_leaf (rack.shape kit.rack) (metaslab_sectors shard.geometry)) x.bytes ≡ Ok value)
  pub arms : shard.slots.arms ≡ arms_told value.slots
  pub low : HasLowLeaves next shard.slots
  pub entries : HasLive shard.entries value.blocks
  pub is_in : (w : machine.State) (doubtful : List Segment) → IsIn shard (reopen_state (layout_by shard) w (image_by value) doubtful)
  pub leaves : OnBothTold (rack.told kit.rack) (rack.told shard.rack) (DropsBut (IsNamed (image_by value)))
  -- where the first block of the record stands, behind which the others follow
  pub blocks : content.OnTold (told (area_of_kit kit group)) (λ x. shard.blocks_at ≡ block_at x.bytes value.blocks 0)
  pub none : (stored_in shard ≡ []) × (reserved_of shard.history ≡ 0)
  pub even : told shard.even ≡ told kit.even
  pub odd : told shard.odd ≡ told kit.odd

-- what a refused opening gives back: the rack and the other area as they were, and the area that was read, which tells what it did
pub record GivesBack {R A : Type 0} (told : A → Option content.Content) (old new : Kit R A) (group : ℕ) : Type 0 where
  pub rack : new.rack ≡ old.rack
  pub other : area_of_kit new (group + 1) ≡ area_of_kit old (group + 1)
  pub area : told (area_of_kit new group) ≡ told (area_of_kit old group)

-- no count of a kit's areas falls
pub record KitAreasLater {R A : Type 0} (faults : A → ℕ) (old new : Kit R A) : Type 0 where
  pub even : faults old.even ≤ faults new.even
  pub odd : faults old.odd ≤ faults new.odd

-- No count falls as a metaslab is opened over a kit, but those of leaves that went.
pub record OpensCounts {R A : Type 0} (rack : Ghosts R) (faults : A → ℕ) (kit : Kit R A) (shard : Shard R A) : Type 0 where
  pub on_rack : KeepsCounts shard.slots (rack.faults kit.rack) (rack.faults shard.rack)
  pub even : faults kit.even ≤ faults shard.even
  pub odd : faults kit.odd ≤ faults shard.odd
