-- What an import comes to.
use Rattle.std.specs.Prelude.{◌≡◌, ℕ, Option, Some, None, Result, Ok, Err}
use Rattle.draid_rack.specs.declared.Rack as racks
use Rattle.draid_area.specs.declared.Area as areas
use Rattle.draid_script.specs.Line.{ImportPool}
use Rattle.draid_script.specs.declared.name.CommandName.TheVariants as name
use Rattle.draid_reply.specs.declared.reply.Reply.{Reply}
use Rattle.draid_reply.specs.declared.reply.Reply.TheVariants.{PoolOpen}
use Rattle.draid_session.specs.Session.{Desk, Open, Foreign, ImportTurns, RecordFails, ShelfFails}
use Rattle.draid_import.specs.declared.replies.ImportStop.{ImportStop}
use Rattle.draid_import.specs.declared.replies.ImportStop.TheVariants as import
use Rattle.draid_pool.specs.declared.pool.Pool.{Pool}
use Rattle.draid_run.specs.Desks.{Broken, IsDesk}
use Rattle.draid_pool.specs.Shelves.{OnShelf}
use Rattle.draid_run.specs.Shelves.{HoldsFault, MayFind}
use Rattle.draid_run.specs.declared.answer.Stop.{Stop}
use Rattle.draid_run.specs.declared.answer.Stop.TheVariants as stop
use Rattle.draid_exits.specs.declared.status.RecordName.{RecordName}
use Rattle.draid_exits.specs.declared.status.RecordName.TheVariants as record_name

-- what `import` does where a pool is open, or none is
abbrev pub ImportDoes : {R A : Type 0} → racks.Ghosts R → areas.Ghosts A → OnShelf → Desk → Reply → Desk → Type 0
ImportDoes rack area entry (Open x) reply new = (reply ≡ PoolOpen name.Import) × (new ≡ Open x)
ImportDoes rack area entry (Foreign known) reply new = (reply ≡ PoolOpen name.Import) × (new ≡ Foreign known)
ImportDoes rack area entry old reply new = ImportTurns (MayFind rack area entry) old reply new

-- it was done, and this is its reply
pub record ImportDid {R A : Type 0} (rack : racks.Ghosts R) (area : areas.Ghosts A) (entry : OnShelf) (old : Desk) (reply : Reply) (now : OnShelf) (pool : Option (Pool R A)) : Type 0 where
  pub new : Desk
  pub desk : IsDesk rack area entry now pool new
  pub turns : ImportDoes rack area entry old reply new

-- or the shelf failed, or a record has a fault
abbrev pub ImportIs : {R A : Type 0} → racks.Ghosts R → areas.Ghosts A → OnShelf → OnShelf → Desk → OnShelf → Option (Pool R A) → Result Reply Stop → Type 0
ImportIs rack area entry before old now pool (Ok reply) = ImportDid rack area entry old reply now pool
ImportIs rack area entry before old now pool (Err stop.Shelf) = Broken rack area ShelfFails ImportPool entry before old now pool
ImportIs rack area entry before old now pool (Err (stop.Record which place kind)) =
    Broken rack area RecordFails ImportPool entry before old now pool × HoldsFault rack area before which place kind

-- the record of a metaslab, or the uberblock's slot
abbrev pub name_of : Option ℕ → RecordName
name_of None = record_name.Uber
name_of (Some metaslab) = record_name.Metaslab metaslab

-- why a run ends at an import that has no reply
abbrev pub stop_of_import : ImportStop → Stop
stop_of_import import.Shelf = stop.Shelf
stop_of_import (import.Record metaslab place kind) = stop.Record (name_of metaslab) place kind
stop_of_import (import.Check place kind) = stop.Record record_name.Check place kind

-- an import's reply, or that the run ends
abbrev pub given_by : Result Reply ImportStop → Result Reply Stop
given_by (Ok reply) = Ok reply
given_by (Err why) = Err (stop_of_import why)
