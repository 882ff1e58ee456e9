-- What the calls that change a pool's arms say, by their answers.
use Rattle.std.specs.Prelude.{◌≡◌, ◌⊎◌, ℕ, Bool, List, Option, Result, Ok, Err}
use Rattle.draid_names.specs.declared.refusal.SlotFault.{SlotFault}
use Rattle.draid_session.specs.Arms as arms
use Rattle.draid_session.specs.Holds.{Hold, UberView, View}
use Rattle.draid_session.specs.Looks.{OnlyLooks}
use Rattle.draid_session.specs.Phases.{End, Went, WasWorn, Starved, Broke}
use Rattle.draid_session.specs.State.{State, Store}
use Rattle.draid_pool.specs.declared.fault.SyncFault.{SyncFault}
use Rattle.draid_pool.specs.declared.fault.SyncFault.TheVariants as sync
use Rattle.draid_changes.specs.Walks.{switch_event}
use Rattle.draid_changes.specs.declared.fault.ArmFault.{ArmFault}
use Rattle.draid_changes.specs.declared.fault.ArmFault.TheVariants as fault

-- a closing group couldn't be committed before a change, which is refused for the same reason; it is never the last group
abbrev pub IsFor : SyncFault → ArmFault → Type 0
IsFor sync.Worn why = why ≡ fault.Worn
IsFor sync.Last why = ⊥
IsFor sync.Shelf why = why ≡ fault.Shelf
IsFor sync.NoMemory why = why ≡ fault.NoMemory

-- Why a change was refused or stopped, by the rules on it and by what it does where none is broken. Nothing of the thread's own is changed.
abbrev pub ChangeStops : State → (List View → UberView → SlotFault → Type 0) → (List View → UberView → List Hold → End → Type 0) → ArmFault → List Hold → Store → Type 0
ChangeStops x Breaks Does (fault.Slot why) holds new = (new ≡ x.store) × arms.Refuses x.geometry x.perms Breaks why holds
ChangeStops x Breaks Does fault.Worn holds new = (new ≡ x.store) × arms.Comes x.geometry x.perms Breaks Does holds WasWorn
ChangeStops x Breaks Does fault.Shelf holds new = (new ≡ x.store) × arms.Comes x.geometry x.perms Breaks Does holds Broke
ChangeStops x Breaks Does fault.NoMemory holds new = (new ≡ x.store) × (arms.Comes x.geometry x.perms Breaks Does holds Starved ⊎ OnlyLooks holds)

-- It was made in all metaslabs, or why not.
abbrev pub ChangeDoes : State → (List View → UberView → SlotFault → Type 0) → (List View → UberView → List Hold → End → Type 0) → Result Unit ArmFault → List Hold → Store → Type 0
ChangeDoes x Breaks Does (Ok done) holds new = (new ≡ x.store) × arms.Comes x.geometry x.perms Breaks Does holds Went
ChangeDoes x Breaks Does (Err why) holds new = ChangeStops x Breaks Does why holds new

-- how a change ends that is stopped for this reason; one that is refused has no end
abbrev pub EndsIn : ArmFault → End → Type 0
EndsIn (fault.Slot why) end = ⊥
EndsIn fault.Worn end = end ≡ WasWorn
EndsIn fault.Shelf end = end ≡ Broke
EndsIn fault.NoMemory end = end ≡ Starved

-- a leaf goes offline or comes back in all metaslabs, or in none
abbrev pub SwitchDoes : State → ℕ → Bool → Result Unit ArmFault → List Hold → Store → Type 0
SwitchDoes x leaf offline = ChangeDoes x (arms.NoLeaf x.geometry x.perms leaf) (arms.Switches x.geometry x.perms (switch_event leaf offline))

-- a slot gets a spare in all metaslabs, or in none
abbrev pub SpareDoes : State → ℕ → ℕ → Result Unit ArmFault → List Hold → Store → Type 0
SpareDoes x slot spare = ChangeDoes x (arms.BreaksSpare x.geometry x.perms slot spare) (arms.AttachesSpare x.geometry x.perms slot spare)

-- a slot gets a new disk in all metaslabs, as a leaf of this number, or in none
abbrev pub ReplaceDoes : State → ℕ → Option ℕ → Result ℕ ArmFault → List Hold → Store → Type 0
ReplaceDoes x slot sectors (Ok leaf) holds new = (new ≡ x.store) × arms.TakesDisk x.geometry x.perms slot sectors leaf holds Went
ReplaceDoes x slot sectors (Err why) holds new = (leaf : ℕ) × ChangeStops x (arms.BreaksDisk x.geometry x.perms slot sectors) (arms.AttachesDisk x.geometry x.perms slot leaf) why holds new
