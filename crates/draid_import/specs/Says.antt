-- What the reply of an import says, by the answer of the call.
use Rattle.std.specs.Prelude.{◌≡◌, ◌⊎◌, ℕ, false, Option, Some, None, Result, Ok, Err, IfOk, IsErrOf, IsSomeAnd, OnOk, is_some, nat_eq, string_bytes}
use Rattle.std.specs.HashMap.{get}
use Rattle.std.specs.declared.alloc.Global.{Global}
use Rattle.std.specs.declared.string.String.{String}
use Rattle.draid_rack.specs.declared.Rack as racks
use Rattle.draid_area.specs.declared.Area as areas
use Rattle.draid_spec.specs.declared.layout.Geometry.{Geometry}
use Rattle.draid_record.specs.declared.fault.RecordFaultKind.{RecordFaultKind}
use Rattle.draid_segments.specs.Segments.{Pieces}
use Rattle.draid_shelf.specs.Kits.{OnHeld}
use Rattle.draid_script.specs.declared.name.CommandName.TheVariants as name
use Rattle.draid_reply.specs.declared.reply.Reply.{Reply}
use Rattle.draid_reply.specs.declared.reply.Reply.TheVariants as replies
use Rattle.draid_session.specs.Making.{vdev_name_of}
use Rattle.draid_session.specs.Opening.{HasObjects}
use Rattle.draid_session.specs.State.{State}
use Rattle.draid_pool.specs.Pools.{HasNames, Represents, group_in}
use Rattle.draid_pool.specs.Returning.{GivesBack, own_count}
use Rattle.draid_pool.specs.Shelves.{OnShelf}
use Rattle.draid_pool.specs.Taking.{HoldsMade, IsAsBefore}
use Rattle.draid_pool.specs.Whole.{IsWhole}
use Rattle.draid_pool.specs.declared.pool.Pool.{Pool}
use Rattle.draid_import.specs.Checking.{CheckIsBad}
use Rattle.draid_import.specs.Faulty.{HoldsNoGroup, RecordIsBad}
use Rattle.draid_import.specs.Findings.{IsReadPool}
use Rattle.draid_import.specs.Found.{HasRisen}
use Rattle.draid_import.specs.Importing.{ImportIs, LeavesMade, RestsThere}
use Rattle.draid_import.specs.declared.fault.ImportFault.{ImportFault}
use Rattle.draid_import.specs.declared.fault.ImportFault.TheVariants as fault
use Rattle.draid_import.specs.declared.replies.ImportStop.{ImportStop}
use Rattle.draid_import.specs.declared.replies.ImportStop.TheVariants as stop

-- ---- the call

-- What an import came to, by its answer: a whole pool that was read there, no group, or the first fault; and what the shelf holds then.
pub record ImportGives {R A : Type 0} (rack : racks.Ghosts R) (area : areas.Ghosts A) (before now : OnShelf) (answer : Result (Pool R A) ImportFault) : Type 0 where
  pub whole : IfOk answer (IsWhole rack area)
  pub none : OnHeld before.held (λ held. held.uber ≡ None → IsErrOf answer fault.NoPool × IsAsBefore before.held now.held before.counts now.counts before.own now.own)
  pub read : IfOk answer (IsReadPool rack area before.held before.leaves before.counts (own_count before.own))
  pub empty : IsErrOf answer fault.NoPool → HoldsNoGroup before.held
  pub faulty : (metaslab : Option ℕ) (place : ℕ) (kind : RecordFaultKind) → IsErrOf answer (fault.Record metaslab place kind) → RecordIsBad rack area before.held before.leaves before.counts metaslab place kind
  pub check : (place : ℕ) (kind : RecordFaultKind) → IsErrOf answer (fault.Check place kind) → CheckIsBad rack area before.held before.leaves before.counts place kind
  pub imports : (x : State) (pieces : ℕ → Pieces) → RestsThere x pieces before.held before.leaves before.counts (own_count before.own) → ImportIs rack area x pieces now.held now.leaves now.counts (own_count now.own) answer
  pub tells : OnOk answer (is_some now.held ≡ is_some before.held)
  pub cause : IsErrOf answer fault.Shelf → HasRisen area before.held before.faults now.faults (own_count before.own) (own_count now.own) before.counts now.counts
  pub made : (geometry : Geometry) → IsSomeAnd before.held (HoldsMade geometry) → LeavesMade geometry answer now.held before.counts now.counts before.own now.own

-- ---- the reply

-- A reply tells of an open pool its name, its committed group, and how many objects it has.
pub record IsTold {R A : Type 0} (rack : racks.Ghosts R) (area : areas.Ghosts A) (pool : Pool R A) (said : Reply) : Type 0 where
  pub called : String Global
  pub group : ℕ
  pub objects : ℕ
  pub reply_is : said ≡ replies.Imported called group objects
  pub name_is : string_bytes called ≡ vdev_name_of pool.geometry.spec
  pub group_is : group ≡ group_in pool
  pub names : HasNames (get nat_eq pool.own.objects) objects
  pub layout : (x : State) → Represents rack area pool x → pool.geometry ≡ x.geometry
  pub committed : (x : State) → Represents rack area pool x → group ≡ x.committed
  pub counted : (x : State) → Represents rack area pool x → HasObjects x.store.changes objects

-- A pool that was open was given back to a shelf, without a crash.
pub record IsBack {R A : Type 0} (rack : racks.Ghosts R) (area : areas.Ghosts A) (pool : Pool R A) (before now : OnShelf) : Type 0 where
  pub back : (x : State) → Represents rack area pool x → GivesBack x false now.held now.leaves now.counts now.own
  pub tells : is_some now.held ≡ is_some before.held

-- what is said of a shelf without a pool to open, or why nothing is
abbrev pub IsUnopened : ImportFault → Result Reply ImportStop → Type 0
IsUnopened fault.NoPool said = said ≡ Ok (replies.NoPool name.Import)
IsUnopened fault.NoMemory said = said ≡ Ok (replies.NoMemory name.Import)
IsUnopened fault.Shelf said = said ≡ Err stop.Shelf
IsUnopened (fault.Record metaslab place kind) said = said ≡ Err (stop.Record metaslab place kind)
IsUnopened (fault.Check place kind) said = said ≡ Err (stop.Check place kind)

-- A reply is that of an answer, behind which the shelf held this. The pool that was found is open; or it was given back in want of memory for its name.
abbrev pub IsImportReply : {R A : Type 0} → racks.Ghosts R → areas.Ghosts A → OnShelf → OnShelf → Option (Pool R A) → Result (Pool R A) ImportFault → Result Reply ImportStop → Type 0
IsImportReply rack area mid now pool (Ok found) said =
    ((pool ≡ Some found) × (now ≡ mid) × (reply : Reply) × (said ≡ Ok reply) × IsTold rack area found reply)
    ⊎ ((pool ≡ None) × (said ≡ Ok (replies.NoMemory name.Import)) × IsBack rack area found mid now)
IsImportReply rack area mid now pool (Err why) said = (pool ≡ None) × (now ≡ mid) × IsUnopened why said

-- the call did what its answer says, and the reply is that of the answer
abbrev pub ImportSays : {R A : Type 0} → racks.Ghosts R → areas.Ghosts A → OnShelf → OnShelf → Option (Pool R A) → Result Reply ImportStop → Type 0
ImportSays {R} {A} rack area before now pool said =
    (answer : Result (Pool R A) ImportFault) × (mid : OnShelf) × ImportGives rack area before mid answer × IsImportReply rack area mid now pool answer said
