use Rattle.draid_loans.specs.Lending.{AreReadings}
use Rattle.draid_world.specs.World.{core_of, pass_of, site_layout}
use Rattle.draid_loans.proofs.readings.read_columns.Given as goal

abbrev pub invariant-loop-column : goal.invariant-loop-column
invariant-loop-column l =
    AreReadings (site_layout l.site) (core_of l.tables) (pass_of l.pass) l.held l.stripe l.failed l.column l.read.items l.names.items
