use Rattle.std.specs.Prelude.{◌==◌, ◌+◌, ◌&&◌, ℕ, Bool, false, List, Option, Some, None, is_none, if◌then◌else◌}
use Rattle.draid_machine.specs.declared.names.ArmName.{ArmName}
use Rattle.draid_machine.specs.declared.names.Segment.{Segment}
use Rattle.draid_machine.specs.Names.{any_below, has_name}
use Rattle.draid_machine.specs.State.{Layout, Core, Loan}
use Rattle.draid_machine.specs.Arms.{answers, leaf_at, passes}

-- a segment lies in a stripe, on a target that answers there
abbrev pub is_in_stripe : Layout → Core → List ArmName → ℕ → ℕ → Segment → Bool
is_in_stripe l q targets first x s = (first + s.row == x) && has_name targets s.arm && answers l q s.arm x

-- the reading from which a column is taken is aside
abbrev pub is_taken_aside : Layout → Core → (Segment → Bool) → Loan → Segment → ℕ → Option ArmName → Bool
is_taken_aside l q aside n s c None = false
is_taken_aside l q aside n s c (Some m) =
    passes (leaf_at l q.order m n.stripe) (λ leaf. aside (record { key = s.key; column = c; arm = m; leaf = leaf; row = s.row }))

-- a segment's source is aside, or, where it has none, any reading
abbrev pub is_doubtful : Layout → Core → (Segment → Bool) → Loan → Segment → Bool
is_doubtful l q aside n s =
    if is_none (n.chosen s.column) then any_below l.columns (λ c. is_taken_aside l q aside n s c (n.chosen c))
    else is_taken_aside l q aside n s s.column (n.chosen s.column)
