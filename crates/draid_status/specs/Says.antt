-- What the replies of commands say for which no metaslab is chosen, by the answers of the pool's calls.
use Rattle.std.specs.Prelude.{◌≡◌, ℕ, List, [], Result, Ok, Err}
use Rattle.std.specs.declared.vec.Vec.{Vec}
use Rattle.std.specs.declared.alloc.Global.{Global}
use Rattle.draid_names.specs.declared.fault.NoMemory.{NoMemory as Starved}
use Rattle.draid_script.specs.declared.line.StatusFormat.{StatusFormat}
use Rattle.draid_script.specs.declared.name.CommandName.TheVariants as name
use Rattle.draid_reply.specs.declared.reply.Reply.{Reply}
use Rattle.draid_reply.specs.declared.reply.Reply.TheVariants.{NoMemory, Status}
use Rattle.draid_session.specs.Holds.{Hold}
use Rattle.draid_session.specs.State.{State, Store}
use Rattle.draid_session.specs.Status.{IsPoolView, Tells, text_by}
use Rattle.draid_status.specs.Views.{uber_view, views_of}
use Rattle.draid_report.specs.declared.view.View.{View as PoolView}

abbrev pub status_reply : Result (Vec ℕ Global) Starved → Reply
status_reply (Ok text) = Status text
status_reply (Err starved) = NoMemory name.Status

-- ---- a status

-- this text shows what a pool is that stands for the state
pub record ShowsPool (x : State) (form : StatusFormat) (text : List ℕ) : Type 0 where
  pub view : PoolView
  pub is : IsPoolView x.geometry x.perms x.store (uber_view x) (views_of x) view
  pub text_is : text ≡ text_by x.geometry x.perms form view

-- its holds are looks, if it gets a text
abbrev pub StatusDoes : State → StatusFormat → Result (Vec ℕ Global) Starved → List Hold → Store → Type 0
StatusDoes x form (Ok text) holds new = (new ≡ x.store) × Tells x.geometry x.perms x.store form text.items holds
StatusDoes x form (Err starved) holds new = (new ≡ x.store) × (holds ≡ [])

-- ---- replies

abbrev pub StatusSays : StatusFormat → Reply → State → List Hold → Store → Type 0
StatusSays form reply x holds store = (answer : Result (Vec ℕ Global) Starved) × (reply ≡ status_reply answer) × StatusDoes x form answer holds store
