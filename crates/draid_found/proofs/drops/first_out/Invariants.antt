use Rattle.std.proofs.Common.{◌≡◌, ◌<◌, ◌≤◌, ℕ, Some, true, length}
use Rattle.std.specs.Prelude.{slice_get}
use Rattle.draid_record.specs.declared.checks.Dropped.{Dropped}
use Rattle.draid_found.specs.Drops.{key_in}
use Rattle.draid_found.specs.Together.{noted_in}
use Rattle.draid_found.proofs.drops.first_out.Given as goal

-- those so far are noted
abbrev pub invariant-loop-at : goal.invariant-loop-at
invariant-loop-at l = record {
  there : (k : ℕ) (d : Dropped) → k < l.at → slice_get l.drops k ≡ Some d → noted_in l.keys (key_in d) ≡ true;
  bound : l.at ≤ length l.drops;
}
