use Rattle.std.specs.Prelude.{◌&&◌, not, ℕ, Bool, List, Vec}
use Rattle.std.specs.Global.{Global}
use Rattle.draid_machine.specs.declared.names.ArmName.{ArmName}
use Rattle.draid_machine.specs.declared.names.Segment.{Segment}
use Rattle.draid_machine.specs.State.{Layout, Core}
use Rattle.draid_machine.specs.Arms.{has_column, leaf_at, same_leaf}
use Rattle.draid_machine.specs.Claims.{is_at_held}
use Rattle.draid_world.specs.declared.world.Tables.{Tables}
use Rattle.draid_world.specs.World.{core_of, names_at}

-- the tables with the arms of each slot as they were before
abbrev pub core_before : Tables → List (Vec ArmName Global) → Core
core_before t before = record (core_of t) { order = names_at before }

-- an arm keeps a stripe, of which its slot has a column, on another leaf than before
abbrev pub moved_at : Layout → (ℕ → List ArmName) → Core → ArmName → ℕ → Bool
moved_at l before q n x = has_column l q n x && not (same_leaf (leaf_at l before n x) (leaf_at l q.order n x))

-- a segment was at a place before and isn't now
abbrev pub is_lost : Layout → (ℕ → List ArmName) → Core → Segment → Bool
is_lost l before q s = is_at_held l before s (q.held s.key) && not (is_at_held l q.order s (q.held s.key))
