-- What an export and a crash come to.
use Rattle.std.specs.Prelude.{◌≡◌, ℕ, true, false, List, Option, Some, None, Result, Ok, Err}
use Rattle.draid_names.specs.declared.fault.Failed.{Failed}
use Rattle.draid_rack.specs.declared.Rack as racks
use Rattle.draid_area.specs.declared.Area as areas
use Rattle.draid_script.specs.declared.name.CommandName.TheVariants as name
use Rattle.draid_reply.specs.declared.reply.Reply.{Reply}
use Rattle.draid_reply.specs.declared.reply.Reply.TheVariants.{Crashed, Exported, Last, NoMemory, NoPool, Worn}
use Rattle.draid_session.specs.Follows.{Follows}
use Rattle.draid_session.specs.Holds.{Hold}
use Rattle.draid_session.specs.Known.{Known}
use Rattle.draid_session.specs.Session.{Desk, Open, Shut, Foreign, Unknown}
use Rattle.draid_session.specs.State.{State, Store}
use Rattle.draid_export.specs.Exporting.{ExportDoes}
use Rattle.draid_pool.specs.declared.fault.SyncFault.{SyncFault}
use Rattle.draid_pool.specs.declared.fault.SyncFault.TheVariants as sync
use Rattle.draid_pool.specs.declared.pool.Pool.{Pool}
use Rattle.draid_run.specs.Crashes.{IsFirmShut}
use Rattle.draid_run.specs.Desks.{IsDesk}
use Rattle.draid_pool.specs.Shelves.{OnShelf}
use Rattle.draid_run.specs.Shelves.{PoolFails}
use Rattle.draid_run.specs.declared.answer.Stop.{Stop}
use Rattle.draid_run.specs.declared.answer.Stop.TheVariants as stop

-- ---- an export, a crash

-- why the sync of an export was refused, in a reply; a failing device has none
abbrev pub refusal_of : SyncFault → Option Reply
refusal_of sync.Worn = Some (Worn name.Export)
refusal_of sync.Last = Some (Last name.Export)
refusal_of sync.NoMemory = Some (NoMemory name.Export)
refusal_of sync.Shelf = None

-- the reply of an export: the group that was committed last, or why a sync was refused
abbrev pub export_reply : Result ℕ SyncFault → Option Reply
export_reply (Ok group) = Some (Exported group)
export_reply (Err why) = refusal_of why

-- a reply, if there is one
abbrev pub reply_in : Result Reply Failed → Option Reply
reply_in (Ok reply) = Some reply
reply_in (Err failed) = None

-- it gives the pool back, unless its sync was refused
abbrev pub desk_left : Result ℕ SyncFault → State → Desk
desk_left (Ok group) y = Shut false y
desk_left (Err why) y = Open y

-- Holds led from one state to another, and are so.
pub record Leads (x y : State) (does : List Hold → Store → Type 0) : Type 0 where
  pub holds : List Hold
  pub mid : State
  pub store : Store
  pub follows : Follows holds x mid
  pub done : does holds store
  pub made : y ≡ record mid { store = store }

-- the pool did what the answer of its export says, which has this reply
pub record Exports (x : State) (reply : Option Reply) (new : Desk) : Type 0 where
  pub answer : Result ℕ SyncFault
  pub reply_is : export_reply answer ≡ reply
  pub y : State
  pub new_is : new ≡ desk_left answer y
  pub leads : Leads x y (ExportDoes x answer)

-- so of a pool that no known session left
abbrev pub foreign_left : Result ℕ SyncFault → Known → Desk
foreign_left (Ok group) known = Unknown
foreign_left (Err why) known = Foreign known

pub record ForeignExports (known : Known) (reply : Option Reply) (new : Desk) : Type 0 where
  pub answer : Result ℕ SyncFault
  pub reply_is : export_reply answer ≡ reply
  pub new_is : new ≡ foreign_left answer known

abbrev pub ExportTurns : Desk → Option Reply → Desk → Type 0
ExportTurns (Open x) reply new = Exports x reply new
ExportTurns (Foreign known) reply new = ForeignExports known reply new
ExportTurns desk reply new = (reply ≡ Some (NoPool name.Export)) × (new ≡ desk)

-- so where it has a reply, and where a device failed
pub record ExportDid {R A : Type 0} (rack : racks.Ghosts R) (area : areas.Ghosts A) (entry : OnShelf) (old : Desk) (reply : Option Reply) (now : OnShelf) (pool : Option (Pool R A)) : Type 0 where
  pub new : Desk
  pub desk : IsDesk rack area entry now pool new
  pub turns : ExportTurns old reply new
  pub failed : reply ≡ None → (known : Known) → new ≡ Foreign known → PoolFails area pool

abbrev pub ExportIs : {R A : Type 0} → racks.Ghosts R → areas.Ghosts A → OnShelf → Desk → OnShelf → Option (Pool R A) → Result Reply Stop → Type 0
ExportIs rack area entry old now pool (Ok reply) = ExportDid rack area entry old (Some reply) now pool
ExportIs rack area entry old now pool (Err stop.Shelf) = ExportDid rack area entry old None now pool
ExportIs rack area entry old now pool (Err (stop.Record which place kind)) = ⊥

-- a crash gives the pool back as it is
abbrev pub CrashTurns : Desk → Reply → Desk → Type 0
CrashTurns (Open x) reply new = (reply ≡ Crashed) × (new ≡ Shut true x)
CrashTurns (Foreign known) reply new = (reply ≡ Crashed) × (new ≡ Unknown)
CrashTurns desk reply new = (reply ≡ NoPool name.Crash) × (new ≡ desk)

pub record CrashDid {R A : Type 0} (rack : racks.Ghosts R) (area : areas.Ghosts A) (entry : OnShelf) (old : Desk) (reply : Reply) (now : OnShelf) (pool : Option (Pool R A)) : Type 0 where
  pub new : Desk
  pub desk : IsDesk rack area entry now pool new
  pub turns : CrashTurns old reply new
  pub firm : reply ≡ Crashed → IsFirmShut now pool
