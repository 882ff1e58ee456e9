use Rattle.std.specs.Prelude.{◌≢◌, ⊤, ℕ, All, List, [], ◌∷◌, ◌++◌, codes, Option, None, Some}
use Rattle.std.specs.List.{join_with_byte}
use Rattle.std.specs.Fmt.{decimal}
use Rattle.hex.specs.Hex.{encode_lower, IsBytes}
use Rattle.draid_script.specs.declared.line.PoolKeys.{PoolKeys}
use Rattle.draid_script.specs.declared.line.StatusFormat.TheVariants.{Text, Json}
use Rattle.draid_script.specs.Line.{Command, Silent, CreatePool, ImportPool, ExportPool, SyncPool, CancelPasses, CrashPool, WriteObject, FillObjects, ReadObject, FreeObject, SumObjects, TakeOffline, TakeOnline, DamageSector, AttachSpare, ReplaceDisk, DetachArm, RebuildPool, ScrubPool, RebalanceSlot, ShowStatus, OpenLanes, UpgradePool, RunAgent, ShowJournal, TakeCheckpoint, RewindPool, DiscardCheckpoint, IsInRange}
use Rattle.draid_script.specs.Name.{arm_of}

-- a word `key=value`
abbrev pub setting : List ℕ → ℕ → List ℕ
setting key value = key ++ (61 ∷ decimal value)

abbrev pub settings : PoolKeys → List (List ℕ)
settings keys =
    setting (codes "sector") keys.sector ∷ setting (codes "height") keys.height ∷ setting (codes "metaslabs") keys.metaslabs
    ∷ setting (codes "slices") keys.slices ∷ setting (codes "seed") keys.seed
    ∷ setting (codes "version") keys.version ∷ []

-- a word that may be left out
abbrev pub optional : Option ℕ → List (List ℕ)
optional None = []
optional (Some n) = decimal n ∷ []

-- the words of a line that asks for this
abbrev pub written_words : Command → List (List ℕ)
written_words Silent = []
written_words (CreatePool spec children keys) = codes "create" ∷ spec ∷ decimal children ∷ settings keys
written_words ImportPool = codes "import" ∷ []
written_words ExportPool = codes "export" ∷ []
written_words SyncPool = codes "sync" ∷ []
written_words CancelPasses = codes "cancel" ∷ []
written_words CrashPool = codes "crash" ∷ []
written_words (WriteObject object bytes) = codes "write" ∷ decimal object ∷ encode_lower bytes ∷ []
written_words (FillObjects first count len seed) = codes "fill" ∷ decimal first ∷ decimal count ∷ decimal len ∷ decimal seed ∷ []
written_words (ReadObject object) = codes "read" ∷ decimal object ∷ []
written_words (FreeObject object) = codes "free" ∷ decimal object ∷ []
written_words (SumObjects first count) = codes "sum" ∷ decimal first ∷ decimal count ∷ []
written_words (TakeOffline leaf) = codes "offline" ∷ decimal leaf ∷ []
written_words (TakeOnline leaf) = codes "online" ∷ decimal leaf ∷ []
written_words (DamageSector leaf sector) = codes "damage" ∷ decimal leaf ∷ decimal sector ∷ []
written_words (AttachSpare slot spare) = codes "spare" ∷ decimal slot ∷ decimal spare ∷ []
written_words (ReplaceDisk slot sectors) = codes "replace" ∷ decimal slot ∷ optional sectors
written_words (DetachArm arm) = codes "detach" ∷ arm_of arm ∷ []
written_words (RebuildPool limit) = codes "rebuild" ∷ optional limit
written_words (ScrubPool limit) = codes "scrub" ∷ optional limit
written_words (RebalanceSlot slot) = codes "rebalance" ∷ decimal slot ∷ []
written_words (ShowStatus Text) = codes "status" ∷ []
written_words (ShowStatus Json) = codes "status" ∷ codes "json" ∷ []
written_words (OpenLanes count) = codes "lanes" ∷ decimal count ∷ []
written_words UpgradePool = codes "upgrade" ∷ []
written_words (RunAgent least) = codes "agent" ∷ decimal least ∷ []
written_words ShowJournal = codes "agent" ∷ codes "log" ∷ []
written_words TakeCheckpoint = codes "checkpoint" ∷ []
written_words RewindPool = codes "rewind" ∷ []
written_words DiscardCheckpoint = codes "discard" ∷ []

-- the line that a writer would write: the words, joined by single spaces
abbrev pub written_line : Command → List ℕ
written_line command = join_with_byte 32 (written_words command)

-- what a line can ask for: numbers in their ranges, the bytes of a block, and a spec without a space
abbrev pub IsWritable : Command → Type 0
IsWritable (CreatePool spec children keys) = IsInRange (CreatePool spec children keys) × All (λ byte. byte ≢ 32) spec
IsWritable (WriteObject object bytes) = IsInRange (WriteObject object bytes) × IsBytes bytes
IsWritable command = IsInRange command

-- the commands that may stand in a section
abbrev pub IsForLanes : Command → Type 0
IsForLanes SyncPool = ⊤
IsForLanes (WriteObject object bytes) = ⊤
IsForLanes (FillObjects first count len seed) = ⊤
IsForLanes (ReadObject object) = ⊤
IsForLanes (FreeObject object) = ⊤
IsForLanes (SumObjects first count) = ⊤
IsForLanes (TakeOffline leaf) = ⊤
IsForLanes (TakeOnline leaf) = ⊤
IsForLanes (RebuildPool limit) = ⊤
IsForLanes (ScrubPool limit) = ⊤
IsForLanes _ = ⊥

-- the line of a section that a writer would write: the lane's number, a space, and the command
abbrev pub written_lane_line : ℕ → Command → List ℕ
written_lane_line lane command = decimal lane ++ (32 ∷ written_line command)
