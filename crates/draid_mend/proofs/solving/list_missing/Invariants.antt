use Rattle.std.specs.Prelude.{◌≡◌, ◌≤◌, length, take}
use Rattle.draid_mend.specs.Missing.{missing_in}
use Rattle.draid_mend.proofs.solving.list_missing.Given as goal

abbrev pub invariant-loop-column : goal.invariant-loop-column
invariant-loop-column l = record {
  long : length l.list ≡ 3;
  upto : l.count ≤ l.column;
  count : l.count ≡ length (missing_in l.chosen l.column);
  listed : l.count ≤ 3 → take l.count l.list ≡ missing_in l.chosen l.column;
}
