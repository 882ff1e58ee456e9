-- What an export makes safe, and what its reply and that of a crash say.
use Rattle.std.specs.Prelude.{◌≡◌, ⊤, ℕ, Bool, List, true, false, Some, Result, Ok, Err, slice_get}
use Rattle.draid_rack.specs.declared.Rack as racks
use Rattle.draid_area.specs.declared.Area as areas
use Rattle.draid_names.specs.declared.fault.Failed.{Failed}
use Rattle.draid_script.specs.declared.name.CommandName.TheVariants as name
use Rattle.draid_reply.specs.declared.reply.Reply.{Reply}
use Rattle.draid_reply.specs.declared.reply.Reply.TheVariants as replies
use Rattle.draid_session.specs.Groups as groups
use Rattle.draid_session.specs.Follows.{Follows}
use Rattle.draid_session.specs.Holds.{Hold}
use Rattle.draid_session.specs.Phases.{Went, WasWorn, WasLast, Starved, Broke}
use Rattle.draid_session.specs.State.{Metaslab, State, Store}
use Rattle.draid_shard.specs.States.{stored_in}
use Rattle.draid_shard.specs.declared.shard.Shard.{Shard}
use Rattle.draid_pool.specs.Carries.{CarriesOut}
use Rattle.draid_pool.specs.Returning.{GivesBack}
use Rattle.draid_pool.specs.Shelves.{OnShelf}
use Rattle.draid_pool.specs.declared.fault.SyncFault.{SyncFault}
use Rattle.draid_pool.specs.declared.fault.SyncFault.TheVariants as sync
use Rattle.draid_export.specs.declared.replies.ExportRefused.{ExportRefused}
use Rattle.draid_session.specs.Points.{HasLateMark}

-- ---- what isn't safe

-- one of the shards stores something that no sync has made safe, or none does
abbrev pub FoundUnsynced : {R A : Type 0} → List (Shard R A) → Bool → Type 0
FoundUnsynced {R = R} {A = A} shards true =
    (m : ℕ) × (shard : Shard R A) × (slice_get shards m ≡ Some shard) × (groups.is_unsynced shard.committed (stored_in shard) ≡ true)
FoundUnsynced {R = R} {A = A} shards false = (m : ℕ) (shard : Shard R A) → slice_get shards m ≡ Some shard → groups.is_unsynced shard.committed (stored_in shard) ≡ false

-- a metaslab of a state has something that no sync has made safe
abbrev pub HasUnsynced : State → Type 0
HasUnsynced x = (m : ℕ) × (y : Metaslab) × (slice_get x.metaslabs m ≡ Some y) × (groups.is_unsynced y.world.committed y.events ≡ true)

-- nothing isn't safe: of no metaslab, and of the checkpoint nothing since the committed group
abbrev pub IsSafe : State → Type 0
IsSafe x = (HasUnsynced x → ⊥) × (HasLateMark x.committed x.store.marks → ⊥)

-- what an export does before the pool is given back, and why it was stopped; the answer is the committed group
abbrev pub ExportDoes : State → Result ℕ SyncFault → List Hold → Store → Type 0
ExportDoes x (Ok group) holds new = (new ≡ x.store) × groups.Exports x.geometry x.perms x.store.marks group holds Went
ExportDoes x (Err sync.Worn) holds new = (new ≡ x.store) × groups.ExportStops x.geometry x.perms x.store.marks holds WasWorn
ExportDoes x (Err sync.Last) holds new = (new ≡ x.store) × groups.ExportStops x.geometry x.perms x.store.marks holds WasLast
ExportDoes x (Err sync.Shelf) holds new = (new ≡ x.store) × groups.ExportStops x.geometry x.perms x.store.marks holds Broke
ExportDoes x (Err sync.NoMemory) holds new = (new ≡ x.store) × groups.ExportStops x.geometry x.perms x.store.marks holds Starved

-- ---- the replies

-- why a sync was refused, in a reply. There is none where a device failed
abbrev pub IsRefusal : SyncFault → Result Reply Failed → Type 0
IsRefusal sync.Worn said = said ≡ Ok (replies.Worn name.Export)
IsRefusal sync.Last said = said ≡ Ok (replies.Last name.Export)
IsRefusal sync.NoMemory said = said ≡ Ok (replies.NoMemory name.Export)
IsRefusal sync.Shelf (Ok reply) = ⊥
IsRefusal sync.Shelf (Err failed) = ⊤

-- a sync was refused, and the reply says why; or a device failed
abbrev pub WasRefused : Result Reply Failed → Type 0
WasRefused said = (why : SyncFault) × IsRefusal why said

-- a reply names a group
abbrev pub TellsGroup : Reply → Type 0
TellsGroup said = (group : ℕ) × (said ≡ replies.Exported group)

-- All was made safe, in the committed group that the reply names, and the pool of the state to which that led was given back.
pub record IsExported (x : State) (before now : OnShelf) (said : Reply) : Type 0 where
  pub group : ℕ
  pub reply_is : said ≡ replies.Exported group
  pub holds : List Hold
  pub reached : State
  pub store : Store
  pub follows : Follows holds x reached
  pub done : ExportDoes x (Ok group) holds store
  pub back : GivesBack (record reached { store = store }) false now.held now.leaves now.counts now.own

-- A sync was refused, as the reply says, or a device failed.
abbrev pub RefusalSays : Result Reply Failed → State → List Hold → Store → Type 0
RefusalSays said x holds store = (why : SyncFault) × IsRefusal why said × ExportDoes x (Err why) holds store

-- The pool was given back, or it comes back to the caller.
abbrev pub ExportIs : {R A : Type 0} → racks.Ghosts R → areas.Ghosts A → State → OnShelf → OnShelf → Result Reply (ExportRefused R A) → Type 0
ExportIs rack area x before now (Ok said) = IsExported x before now said
ExportIs rack area x before now (Err refused) = CarriesOut rack area refused.pool x (RefusalSays refused.reply x)
