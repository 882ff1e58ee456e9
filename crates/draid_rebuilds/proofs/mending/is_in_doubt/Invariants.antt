use Rattle.std.proofs.Common.{◌≡◌, false}
use Rattle.draid_machine.specs.Names.{any_below, has_segment}
use Rattle.draid_rebuilds.specs.Mending.{is_taken_aside}
use Rattle.draid_world.specs.World.{core_of, loan_of, name_at, site_layout}
use Rattle.draid_rebuilds.proofs.mending.is_in_doubt.Given as goal

abbrev pub invariant-loop-column : goal.invariant-loop-column
invariant-loop-column l =
    any_below l.column (λ c. is_taken_aside (site_layout l.site) (core_of l.tables) (has_segment l.aside.keys) (loan_of l.loan) l.segment c (name_at l.loan.chosen.items c)) ≡ false
