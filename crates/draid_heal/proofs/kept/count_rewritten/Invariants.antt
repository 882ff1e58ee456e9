use Rattle.std.proofs.Common.{◌≡◌, ◌≤◌, take}
use Rattle.std.specs.Prelude.{count_by}
use Rattle.draid_heal.specs.Lands.{is_rewritten}
use Rattle.draid_heal.proofs.kept.count_rewritten.Given as goal

abbrev pub invariant-loop-part : goal.invariant-loop-part
invariant-loop-part l = record {
  low : l.count ≤ l.part-index;
  counted : l.count ≡ count_by is_rewritten (take l.part-index l.parts);
}
