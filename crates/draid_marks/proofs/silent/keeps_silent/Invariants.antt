use Rattle.std.proofs.Common.{◌≡◌, ◌&&◌, false}
use Rattle.draid_machine.specs.Names.{any_below}
use Rattle.draid_marks.specs.Silent.{has_column_in, is_silent_in}
use Rattle.draid_marks.proofs.silent.keeps_silent.Given as goal

abbrev pub invariant-loop-slice : goal.invariant-loop-slice
invariant-loop-slice l = any_below l.slice (λ slice. has_column_in l.slots l.at.slot slice && is_silent_in l.slots l.failed l.at slice) ≡ false
