-- What a lane knows, and what its commands do by that.
use Rattle.std.specs.Prelude.{ℕ, Bool, Option, true, List}
use Rattle.draid_names.specs.declared.pointer.Pointer.{Pointer}
use Rattle.draid_rack.specs.declared.Rack as racks
use Rattle.draid_area.specs.declared.Area as areas
use Rattle.draid_script.specs.Line.{Command}
use Rattle.draid_reply.specs.declared.reply.Reply.{Reply}
use Rattle.draid_session.specs.Holds.{Hold}
use Rattle.draid_session.specs.Known.{Known, Learns}
use Rattle.draid_session.specs.State.{State, Store}
use Rattle.draid_pool.specs.Knows.{KnowsTable}
use Rattle.draid_pool.specs.Threads.{CarriesBy, Knows}
use Rattle.draid_lanes.specs.Governing.{lane_last}
use Rattle.draid_lanes.specs.Knowing.{KnowsLater}
use Rattle.draid_lanes.specs.Lanes.{table_of}
use Rattle.draid_lanes.specs.Locks.{owned_by}
use Rattle.draid_lanes.specs.Telling.{beside}
use Rattle.draid_lanes.specs.Waits.{LaneWent}
use Rattle.draid_lanes.specs.declared.lane.Lane.{Lane}

-- what is known behind a reply is so of a table of pointers
pub record KnowsReply (command : Command) (reply : Reply) (old : Known) (table : ℕ → Option Pointer) : Type 0 where
  pub new : Known
  pub learns : Learns command reply old new
  pub fits : KnowsTable table new

-- a reply says of a thread's objects what is allowed by whatever was known of them, and what it adds is so
abbrev pub TeachesTable : Command → Reply → (table now : ℕ → Option Pointer) → Type 0
TeachesTable command reply table now = (known : Known) → KnowsTable table known → KnowsReply command reply known now

-- so it is of a lane's own objects, whatever other objects there are
abbrev pub TeachesOwn : (owns : ℕ → Bool) → Command → Reply → (table now : ℕ → Option Pointer) → Type 0
TeachesOwn owns command reply table now = (rest : ℕ → Option Pointer) → TeachesTable command reply (beside owns table rest) (beside owns now rest)

module _ {R A G W : Type 0} (rack : racks.Ghosts R) (area : areas.Ghosts A) where
  -- a lane knows the state of a pool as far as its own objects and what it left go
  abbrev pub LaneKnows : Lane R A G W → State → Type 0
  LaneKnows lane x = Knows rack area (owned_by lane.metaslabs.passes.items) (lane_last lane.metaslabs) (table_of lane) lane.own.seq lane.own.floor x

  -- it knows one that came from this one
  abbrev pub LaneKnowsLater : Lane R A G W → State → Type 0
  LaneKnowsLater lane x = KnowsLater rack area (owned_by lane.metaslabs.passes.items) (lane_last lane.metaslabs) (table_of lane) lane.own.seq lane.own.floor x

  -- A lane's holds of its metaslabs led to a state that it knows, and are what is said to be done. Between them other lanes may have held the metaslabs.
  abbrev pub LaneCarries : (old new : Lane R A G W) → State → (List Hold → Store → Type 0) → Type 0
  LaneCarries old new x does =
      CarriesBy rack area (LaneWent rack area) true (owned_by old.metaslabs.passes.items) (lane_last new.metaslabs) (table_of new) new.own.seq new.own.floor old.metaslabs new.metaslabs x does
