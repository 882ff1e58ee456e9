-- Which object an event concerns, and what kind of event it is.
use Rattle.std.specs.Prelude.{ℕ, Bool, true, false, Option, None, Some}
use Rattle.draid_machine.specs.declared.event.Event.{Event}
use Rattle.draid_machine.specs.declared.event.Event.TheVariants.{Begin, Put, Finish, Abort, Free, Fetch, Done, Reopen}
use Rattle.draid_machine.specs.declared.names.Held.{Held}
use Rattle.draid_machine.specs.declared.names.Stage.{Stage}
use Rattle.draid_machine.specs.declared.names.Stage.TheVariants.{Freed}

-- the object of the ticket or block that the event is of. What befalls leaves, arms, groups and passes concerns none
abbrev pub object_of : Event → Option ℕ
object_of (Begin key first stripes len birth digest) = Some key.object
object_of (Put key landed failed) = Some key.object
object_of (Finish key) = Some key.object
object_of (Abort key) = Some key.object
object_of (Free key group) = Some key.object
object_of (Fetch key failed) = Some key.object
object_of _ = None

abbrev pub is_opening : Event → Bool
is_opening (Reopen group doubtful) = true
is_opening _ = false

-- an event is the end of a pass, at which it has done its work
abbrev pub is_done : Event → Bool
is_done (Done failed) = true
is_done _ = false

abbrev pub is_freed_stage : Stage → Bool
is_freed_stage (Freed group) = true
is_freed_stage _ = false

-- a block that was freed, and whose stripes wait for a commit
abbrev pub is_freed : Option Held → Bool
is_freed None = false
is_freed (Some h) = is_freed_stage h.stage
