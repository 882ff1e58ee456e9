use Rattle.std.proofs.Common.{◌≡◌, ◌&&◌, false}
use Rattle.draid_machine.specs.Names.{any_below}
use Rattle.draid_marks.specs.Lying.{keeps_in}
use Rattle.draid_marks.specs.Silent.{has_column_in}
use Rattle.draid_marks.proofs.lying.keeps.Given as goal

abbrev pub invariant-loop-slice : goal.invariant-loop-slice
invariant-loop-slice l = any_below l.slice (λ slice. has_column_in l.slots l.at.slot slice && keeps_in l.slots l.leaf l.at slice) ≡ false
