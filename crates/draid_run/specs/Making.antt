-- What a create comes to.
use Rattle.std.specs.Prelude.{◌≡◌, ℕ, List, Option, Result, Ok, Err}
use Rattle.draid_rack.specs.declared.Rack as racks
use Rattle.draid_area.specs.declared.Area as areas
use Rattle.draid_script.specs.Line.{CreatePool}
use Rattle.draid_script.specs.declared.line.PoolKeys.{PoolKeys}
use Rattle.draid_script.specs.declared.name.CommandName.TheVariants as name
use Rattle.draid_reply.specs.declared.reply.Reply.{Reply}
use Rattle.draid_reply.specs.declared.reply.Reply.TheVariants.{PoolOpen}
use Rattle.draid_session.specs.Session.{Desk, Open, Foreign, Creates, ShelfFails}
use Rattle.draid_pool.specs.Shelves.{OnShelf}
use Rattle.draid_pool.specs.declared.pool.Pool.{Pool}
use Rattle.draid_run.specs.Desks.{Broken, IsDesk}
use Rattle.draid_run.specs.declared.answer.Stop.{Stop}
use Rattle.draid_run.specs.declared.answer.Stop.TheVariants as stop

-- what `create` does where a pool is open, or none is
abbrev pub CreateTurns : List ℕ → ℕ → PoolKeys → Desk → Reply → Desk → Type 0
CreateTurns text children keys (Open x) reply new = (reply ≡ PoolOpen name.Create) × (new ≡ Open x)
CreateTurns text children keys (Foreign known) reply new = (reply ≡ PoolOpen name.Create) × (new ≡ Foreign known)
CreateTurns text children keys old reply new = Creates text children keys old reply new

-- it was done, and this is its reply
pub record CreateDid {R A : Type 0} (rack : racks.Ghosts R) (area : areas.Ghosts A) (text : List ℕ) (children : ℕ) (keys : PoolKeys) (entry : OnShelf) (old : Desk) (reply : Reply) (now : OnShelf)
    (pool : Option (Pool R A)) : Type 0 where
  pub new : Desk
  pub desk : IsDesk rack area entry now pool new
  pub turns : CreateTurns text children keys old reply new

-- or the shelf failed
abbrev pub CreateIs : {R A : Type 0} → racks.Ghosts R → areas.Ghosts A → List ℕ → ℕ → PoolKeys → OnShelf → OnShelf → Desk → OnShelf → Option (Pool R A) → Result Reply Stop → Type 0
CreateIs rack area text children keys entry before old now pool (Ok reply) = CreateDid rack area text children keys entry old reply now pool
CreateIs rack area text children keys entry before old now pool (Err (stop.Record which place kind)) = ⊥
CreateIs rack area text children keys entry before old now pool (Err stop.Shelf) = Broken rack area ShelfFails (CreatePool text children keys) entry before old now pool
