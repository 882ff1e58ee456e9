use Rattle.draid_world.specs.World.{core_of, site_layout}
use Rattle.draid_loans.specs.Lending.{IsReady}
use Rattle.draid_loans.proofs.Firsts.{IsRest}
use Rattle.draid_loans.proofs.sources.first_ready.Given as goal

abbrev pub invariant-loop-name : goal.invariant-loop-name
invariant-loop-name l = IsRest (IsReady (site_layout l.site) (core_of l.tables) l.stripe) l.names l.name-index
