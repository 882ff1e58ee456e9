use Rattle.std.proofs.Common.{◌≡◌, ◌≤◌, ◌-◌, ℕ}
use Rattle.draid_names.specs.declared.numbers.TheConstants.{NUMBERS}
use Rattle.draid_spec.specs.declared.layout.Geometry.{Geometry}
use Rattle.draid_shard.specs.Fits.{Tables, AreFitting}
use Rattle.draid_pool.specs.Committing.{DropsSome, NoneFreed}
use Rattle.draid_pool.proofs.committing.release_freed.Given as goal

abbrev pub decreases-loop-entry : goal.decreases-loop-entry
decreases-loop-entry l = NUMBERS - l.stripe

abbrev pub invariant-loop-entry : goal.invariant-loop-entry
invariant-loop-entry l = record {
  fits : AreFitting l.space l.entries;
  tables : (geometry : Geometry) (open_group : ℕ) → Tables geometry open_group l.initial.space l.initial.entries → Tables geometry open_group l.space l.entries;
  drops : DropsSome l.group l.initial.entries l.entries;
  below : NoneFreed l.group l.entries l.stripe;
  low : l.stripe ≤ NUMBERS;
  disabled : l.space.disabled ≡ l.initial.space.disabled;
}
