-- What is said of a lane, with looks at all its metaslabs behind it.
use Rattle.std.proofs.Common.{◌≡◌, ◌++◌, [], ℕ, List, Some, refl, length}
use Rattle.std.specs.Prelude.{slice_get}
use Rattle.draid_rack.specs.declared.Rack as racks
use Rattle.draid_area.specs.declared.Area as areas
use Rattle.draid_session.specs.Holds.{Hold}
use Rattle.draid_session.specs.State.{Metaslab, State}
use Rattle.draid_shard.specs.declared.shard.Shard.{Shard}
use Rattle.draid_turn.specs.Calls.{Caller}
use Rattle.draid_turn.specs.declared.past.Past.{Past}
use Rattle.draid_pool.specs.declared.cell.Cell.{Cell}
use Rattle.draid_pool.proofs.Looking.{looks_at}
use Rattle.draid_lanes.specs.Governing.{lane_last}
use Rattle.draid_lanes.specs.declared.locked.Locked.{Locked}
use Rattle.draid_lanes.proofs.LooksBehind.{look_turns, now_all, traced_looks}
use Rattle.draid_lanes.proofs.OneTurn.{CameTo}
use Rattle.draid_lanes.proofs.RoundWords.{Says}

module _ {R A G W : Type 0} (rack : racks.Ghosts R) (area : areas.Ghosts A) (x : State) (old b : Locked R A G W) (count : ℕ) (all : count ≡ length old.turns.now) (many : length old.passes.items ≡ length old.turns.now) where
  -- it is so, and then each metaslab is looked at
  pub record LooksBut (P : List Hold → Type 0) (hs : List Hold) : Type 0 where
    pub front : List Hold
    pub ys : List Metaslab
    pub are : hs ≡ front ++ looks_at 0 ys
    pub so : P front
    pub long : length ys ≡ count
    pub each : (m : ℕ) (y : Metaslab) → slice_get ys m ≡ Some y → (shard : Shard R A) → lane_last b m ≡ Some shard → CameTo rack area x m shard y

  -- where the lane had a turn of each lock before
  pub looks_said : (us : List Hold) (P : List Hold → Type 0) (s : Says rack area x old b us P) → ((m : ℕ) (pass : Caller (Past (Cell R A))) → slice_get old.passes.items m ≡ Some pass → s.turns m ≡ [] → ⊥) → Says rack area x old b us (LooksBut P)
  looks_said us P s some =
      let now = now_all rack area x old b s.turns s.holds us s.traced count all many some s.came in
      record {
        turns = look_turns rack area x old b s.turns s.holds us s.traced count all many some s.came;
        holds = s.holds ++ looks_at 0 now.list;
        traced = traced_looks rack area x old b s.turns s.holds us s.traced count all many some s.came;
        done = record { front = s.holds; ys = now.list; are = refl; so = s.done; long = now.many; each = now.each };
        came = s.came;
      }
