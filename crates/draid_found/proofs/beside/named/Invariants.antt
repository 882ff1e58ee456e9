use Rattle.std.proofs.Common.{◌≤◌, length}
use Rattle.draid_found.specs.Together.{noted_in}
use Rattle.draid_found.proofs.NewestBeside.{NotesThose}
use Rattle.draid_found.proofs.beside.named.Given as goal

-- those so far are noted
abbrev pub invariant-loop-block : goal.invariant-loop-block
invariant-loop-block l = record {
  noted : NotesThose l.drops l.block-index (noted_in l.keys);
  bound : l.block-index ≤ length l.drops;
}
