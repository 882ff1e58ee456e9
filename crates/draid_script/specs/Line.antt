use Rattle.std.specs.Prelude.{◌+◌, ◌<◌, ◌≤◌, ◌^◌, ⊤, ℕ, List, length, Option, IfSome}
use Rattle.draid_names.specs.declared.numbers.TheConstants.{LONGEST_BLOCK, NUMBERS, OBJECTS}
use Rattle.draid_script.specs.declared.line.Line.{Line}
use Rattle.draid_script.specs.declared.line.Line.TheVariants as line
use Rattle.draid_script.specs.declared.line.PoolKeys.{PoolKeys}
use Rattle.draid_script.specs.declared.line.ArmArgument.{ArmArgument}
use Rattle.draid_script.specs.declared.line.ArmArgument.TheVariants.{Leaf, Spare}
use Rattle.draid_script.specs.declared.line.StatusFormat.{StatusFormat}
use Rattle.draid_script.specs.declared.line.LaneLine.{LaneLine}
use Rattle.draid_script.specs.declared.line.LaneLine.TheVariants as lane

-- What a line asks for.
pub data Command : Type 0 where
  Silent : Command
  CreatePool : List ℕ → ℕ → PoolKeys → Command
  ImportPool : Command
  ExportPool : Command
  SyncPool : Command
  CancelPasses : Command
  CrashPool : Command
  WriteObject : ℕ → List ℕ → Command
  FillObjects : ℕ → ℕ → ℕ → ℕ → Command
  ReadObject : ℕ → Command
  FreeObject : ℕ → Command
  SumObjects : ℕ → ℕ → Command
  TakeOffline : ℕ → Command
  TakeOnline : ℕ → Command
  DamageSector : ℕ → ℕ → Command
  AttachSpare : ℕ → ℕ → Command
  ReplaceDisk : ℕ → Option ℕ → Command
  DetachArm : ArmArgument → Command
  RebuildPool : Option ℕ → Command
  ScrubPool : Option ℕ → Command
  RebalanceSlot : ℕ → Command
  ShowStatus : StatusFormat → Command
  OpenLanes : ℕ → Command
  UpgradePool : Command
  RunAgent : ℕ → Command
  ShowJournal : Command
  TakeCheckpoint : Command
  RewindPool : Command
  DiscardCheckpoint : Command

-- what the line asks for, without where its bytes lie in memory
abbrev pub command_in : Line → Command
command_in line.Nothing = Silent
command_in (line.Create spec children keys) = CreatePool spec.items children keys
command_in line.Import = ImportPool
command_in line.Export = ExportPool
command_in line.Sync = SyncPool
command_in line.Cancel = CancelPasses
command_in line.Crash = CrashPool
command_in (line.Write object bytes) = WriteObject object bytes.items
command_in (line.Fill first count len seed) = FillObjects first count len seed
command_in (line.Read object) = ReadObject object
command_in (line.Free object) = FreeObject object
command_in (line.Sum first count) = SumObjects first count
command_in (line.Offline leaf) = TakeOffline leaf
command_in (line.Online leaf) = TakeOnline leaf
command_in (line.Damage leaf sector) = DamageSector leaf sector
command_in (line.Spare slot spare) = AttachSpare slot spare
command_in (line.Replace slot sectors) = ReplaceDisk slot sectors
command_in (line.Detach arm) = DetachArm arm
command_in (line.Rebuild limit) = RebuildPool limit
command_in (line.Scrub limit) = ScrubPool limit
command_in (line.Rebalance slot) = RebalanceSlot slot
command_in (line.Status format) = ShowStatus format
command_in (line.Lanes count) = OpenLanes count
command_in line.Upgrade = UpgradePool
command_in (line.Agent least) = RunAgent least
command_in line.AgentLog = ShowJournal
command_in line.Checkpoint = TakeCheckpoint
command_in line.Rewind = RewindPool
command_in line.Discard = DiscardCheckpoint

-- What a line of a section asks for.
pub data LaneCommand : Type 0 where
  SectionEnd : LaneCommand
  SilentLane : LaneCommand
  InLane : ℕ → Command → LaneCommand

abbrev pub lane_command_in : LaneLine → LaneCommand
lane_command_in lane.End = SectionEnd
lane_command_in lane.Nothing = SilentLane
lane_command_in (lane.Lane number line) = InLane number (command_in line)

-- how many objects one command may name, and how many lanes a section has
abbrev pub most_objects : ℕ
most_objects = 65_536

abbrev pub most_lanes : ℕ
most_lanes = 16

-- Objects are below 2^32, and a block has 1 to 131,072 bytes.
abbrev pub IsObject : ℕ → Type 0
IsObject object = object < OBJECTS

-- 1 to 65,536 objects from the first on
abbrev pub AreObjects : ℕ → ℕ → Type 0
AreObjects first count = (1 ≤ count) × (count ≤ most_objects) × (first + count ≤ OBJECTS)

abbrev pub IsBlockLength : ℕ → Type 0
IsBlockLength len = (1 ≤ len) × (len ≤ LONGEST_BLOCK)

-- the values of the keys of `create`
pub record AreKeys (keys : PoolKeys) : Type 0 where
  pub sector : keys.sector < 2 ^ 32
  pub height : keys.height < 2 ^ 32
  pub metaslabs : keys.metaslabs < 2 ^ 32
  pub slices : keys.slices < 2 ^ 32
  pub seed : keys.seed < 2 ^ 64
  pub version : keys.version < 2 ^ 32

-- a leaf below 2^48, or a spare below 2^32 of a parity from 1 to 3
abbrev pub IsArmArgument : ArmArgument → Type 0
IsArmArgument (Leaf leaf) = leaf < NUMBERS
IsArmArgument (Spare parity spare) = (1 ≤ parity) × (parity ≤ 3) × (spare < 2 ^ 32)

-- at most so many units, 1 to 2^48 - 1
abbrev pub IsLimit : Option ℕ → Type 0
IsLimit limit = IfSome limit (λ n. (1 ≤ n) × (n < NUMBERS))

-- the ranges of a command's numbers
abbrev pub IsInRange : Command → Type 0
IsInRange (CreatePool spec children keys) = (children < 2 ^ 32) × AreKeys keys
IsInRange (WriteObject object bytes) = IsObject object × (1 ≤ length bytes) × (length bytes ≤ LONGEST_BLOCK)
IsInRange (FillObjects first count len seed) = AreObjects first count × IsBlockLength len × (seed < 2 ^ 64)
IsInRange (ReadObject object) = IsObject object
IsInRange (FreeObject object) = IsObject object
IsInRange (SumObjects first count) = AreObjects first count
IsInRange (TakeOffline leaf) = leaf < NUMBERS
IsInRange (TakeOnline leaf) = leaf < NUMBERS
IsInRange (DamageSector leaf sector) = (leaf < NUMBERS) × (sector < 2 ^ 26)
IsInRange (AttachSpare slot spare) = (slot < 2 ^ 32) × (spare < 2 ^ 32)
IsInRange (ReplaceDisk slot sectors) = (slot < 2 ^ 32) × IfSome sectors (λ n. n < NUMBERS)
IsInRange (DetachArm arm) = IsArmArgument arm
IsInRange (RebuildPool limit) = IsLimit limit
IsInRange (ScrubPool limit) = IsLimit limit
IsInRange (RebalanceSlot slot) = slot < 2 ^ 32
IsInRange (OpenLanes count) = (1 ≤ count) × (count ≤ most_lanes)
IsInRange (RunAgent least) = (1 ≤ least) × (least < 2 ^ 32)
IsInRange _ = ⊤

-- a line of a section of so many lanes
abbrev pub IsLaneLine : ℕ → LaneCommand → Type 0
IsLaneLine lanes (InLane lane command) = (lane < lanes) × IsInRange command
IsLaneLine lanes _ = ⊤
