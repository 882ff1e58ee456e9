use Rattle.std.proofs.Common.{◌≤◌, ◌-◌}
use Rattle.draid_names.specs.declared.numbers.TheConstants.{NUMBERS}
use Rattle.draid_views.specs.Views.{IsLiveAt}
use Rattle.draid_views.proofs.Counts.{CountsBelow}
use Rattle.draid_views.proofs.metaslabs.live_blocks.Given as goal

abbrev pub decreases-loop-pointer : goal.decreases-loop-pointer
decreases-loop-pointer g l = NUMBERS - l.stripe

abbrev pub invariant-loop-pointer : goal.invariant-loop-pointer
invariant-loop-pointer g l = record {
  counts : CountsBelow (IsLiveAt l.shard) l.stripe l.blocks;
  low : l.stripe ≤ NUMBERS;
}
