use Rattle.draid_marks.specs.Counting.{LacksClean}
use Rattle.draid_marks.proofs.counts.lacks_clean.Given as goal

abbrev pub invariant-loop-column : goal.invariant-loop-column
invariant-loop-column l = record {
  none : LacksClean l.slots l.pointer l.column → ⊥;
}
