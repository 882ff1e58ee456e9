use Rattle.std.specs.Prelude.{◌+◌, ◌&&◌, ℕ, Bool, nat_lt, Option, Some, None, List, [], ◌∷◌, if◌then◌else◌}
use Rattle.draid_machine.specs.declared.names.Key.{Key}
use Rattle.draid_machine.specs.declared.names.Held.{Held}

-- a block or a ticket has a stripe of a run
abbrev pub meets : ℕ → ℕ → Held → Bool
meets x n h = nat_lt h.first (x + n) && nat_lt x (h.first + h.stripes) && nat_lt 0 h.stripes

-- the first entry that meets a run
abbrev pub first_meeting : ℕ → ℕ → List (Key × Held) → Option Held
first_meeting x n [] = None
first_meeting x n (e ∷ es) = if meets x n e.1 then Some e.1 else first_meeting x n es
