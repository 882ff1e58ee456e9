use Rattle.std.specs.Prelude.{◌≡◌, ◌≤◌, length, take}
use Rattle.draid_shard.specs.States.{part_of}
use Rattle.draid_mend.specs.Stripes.{sources_below}
use Rattle.draid_mend.proofs.columns.list_sources.Given as goal

abbrev pub invariant-loop-column : goal.invariant-loop-column
invariant-loop-column g l = record {
  long : length l.list ≡ length l.initial.list;
  upto : l.count ≤ l.column;
  listed : take l.count l.list ≡ sources_below (part_of l.shard) l.pointer l.chosen l.column;
}
