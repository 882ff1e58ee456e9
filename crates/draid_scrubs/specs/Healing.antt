use Rattle.std.specs.Prelude.{◌&&◌, not, ℕ, Bool, List}
use Rattle.draid_machine.specs.declared.names.Segment.{Segment}
use Rattle.draid_machine.specs.declared.event.Patched.{Patched}
use Rattle.draid_machine.specs.State.{Core}
use Rattle.draid_machine.specs.After.{has_landed}
use Rattle.draid_machine.specs.Arms.{logged}

-- a segment on an arm that isn't clean, which didn't land
abbrev pub is_dubious : Core → ℕ → List Patched → Segment → Bool
is_dubious q birth patched s = logged (q.arm s.arm) birth && not (has_landed patched s.column s.arm s.row)
