-- What a call of a pool does to the state for which the pool stands.
use Rattle.std.specs.Prelude.{List}
use Rattle.draid_rack.specs.declared.Rack as racks
use Rattle.draid_area.specs.declared.Area as areas
use Rattle.draid_session.specs.Choices.{Choices}
use Rattle.draid_session.specs.State.{State, Store}
use Rattle.draid_session.specs.Holds.{Hold}
use Rattle.draid_session.specs.Follows.{Follows}
use Rattle.draid_pool.specs.Pools.{Represents}
use Rattle.draid_pool.specs.declared.pool.Pool.{Pool}
use Rattle.draid_script.specs.Line.{Command}
use Rattle.draid_reply.specs.declared.reply.Reply.{Reply}
use Rattle.draid_session.specs.Does.{Does}
use Rattle.draid_session.specs.Making.{content_of}

-- A call made holds, one after another. They are what it is said to do, with what the pool has of its own then, and the pool stands for the state to which
-- they led.
pub record CarriesOut {R A : Type 0} (rack : racks.Ghosts R) (area : areas.Ghosts A) (new : Pool R A) (x : State) (does : List Hold → Store → Type 0) : Type 0 where
  pub holds : List Hold
  pub reached : State
  pub store : Store
  pub follows : Follows holds x reached
  pub done : does holds store
  pub represents : Represents rack area new (record reached { store = store })

-- what a command does to the open pool, by its reply
abbrev pub ReplyDoes : State → Choices → Command → Reply → List Hold → Store → Type 0
ReplyDoes x choices command reply holds store = Does x.geometry x.perms choices content_of command x.store holds reply store
