use Rattle.std.proofs.Common.{◌≤◌, ◌+◌, ◌||◌, ℕ, nat_le, count_by, take}
use Rattle.draid_metaslab.specs.declared.space.Deferred.{Deferred}
use Rattle.draid_metaslab.specs.Spaces.{IsMapped, is_due}
use Rattle.draid_ranges.specs.Numbers.{Has, has}
use Rattle.draid_metaslab.proofs.due.free_all_due.Given as goal

abbrev pub invariant-loop-entry : goal.invariant-loop-entry
invariant-loop-entry l =
    Has l.free (λ x. has l.initial.free x || is_due l.group (take l.entry-index l.deferred) x)
    × (l.initial.free.room ≤ l.free.room + count_by (λ (entry : Deferred). nat_le entry.group l.group) (take l.entry-index l.deferred))
    × ((total : ℕ) → IsMapped total l.initial.free l.initial.map → IsMapped total l.free l.map)
    × (l.initial.map.room ≤ l.map.room + count_by (λ (entry : Deferred). nat_le entry.group l.group) (take l.entry-index l.deferred))
