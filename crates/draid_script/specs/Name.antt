use Rattle.std.specs.Prelude.{ℕ, Bool, true, false, List, [], ◌∷◌, ◌++◌, codes, Option}
use Rattle.std.specs.Fmt.{decimal}
use Rattle.std.specs.List.{find}
use Rattle.std.specs.Str.{bytes_eq}
use Rattle.draid_script.specs.declared.line.ArmArgument.{ArmArgument}
use Rattle.draid_script.specs.declared.line.ArmArgument.TheVariants as arm
use Rattle.draid_script.specs.declared.name.CommandName.{CommandName}
use Rattle.draid_script.specs.declared.name.CommandName.TheVariants.{Create, Import, Export, Sync, Cancel, Crash, Write, Fill, Read, Free, Sum, Offline, Online, Damage, Spare, Replace, Detach, Rebuild, Scrub, Rebalance, Status, Lanes, Upgrade, Agent, Checkpoint, Rewind, Discard}

-- the first word of a command
abbrev pub name_text : CommandName → List ℕ
name_text Create = codes "create"
name_text Import = codes "import"
name_text Export = codes "export"
name_text Sync = codes "sync"
name_text Cancel = codes "cancel"
name_text Crash = codes "crash"
name_text Write = codes "write"
name_text Fill = codes "fill"
name_text Read = codes "read"
name_text Free = codes "free"
name_text Sum = codes "sum"
name_text Offline = codes "offline"
name_text Online = codes "online"
name_text Damage = codes "damage"
name_text Spare = codes "spare"
name_text Replace = codes "replace"
name_text Detach = codes "detach"
name_text Rebuild = codes "rebuild"
name_text Scrub = codes "scrub"
name_text Rebalance = codes "rebalance"
name_text Status = codes "status"
name_text Lanes = codes "lanes"
name_text Upgrade = codes "upgrade"
name_text Agent = codes "agent"
name_text Checkpoint = codes "checkpoint"
name_text Rewind = codes "rewind"
name_text Discard = codes "discard"

abbrev pub all_names : List CommandName
all_names = Create ∷ Import ∷ Export ∷ Sync ∷ Cancel ∷ Crash ∷ Write ∷ Fill ∷ Read ∷ Free ∷ Sum ∷ Offline ∷ Online ∷ Damage ∷ Spare ∷ Replace ∷ Detach ∷ Rebuild ∷ Scrub ∷ Rebalance ∷ Status ∷ Lanes ∷ Upgrade ∷ Agent ∷ Checkpoint ∷ Rewind ∷ Discard ∷ []

-- the command whose first word the text is
unfoldable pub name_of : List ℕ → Option CommandName
name_of text = find (λ name. bytes_eq (name_text name) text) all_names

-- the commands that may stand in a section
abbrev pub is_for_lanes : CommandName → Bool
is_for_lanes Write = true
is_for_lanes Fill = true
is_for_lanes Read = true
is_for_lanes Sum = true
is_for_lanes Free = true
is_for_lanes Sync = true
is_for_lanes Offline = true
is_for_lanes Online = true
is_for_lanes Rebuild = true
is_for_lanes Scrub = true
is_for_lanes _ = false

-- an arm as `detach` names it
abbrev pub arm_of : ArmArgument → List ℕ
arm_of (arm.Leaf leaf) = decimal leaf
arm_of (arm.Spare parity spare) = codes "draid" ++ (decimal parity ++ (codes "-0-" ++ decimal spare))
