use Rattle.std.proofs.Common.{◌<◌, ℕ}
use Rattle.draid_loans.specs.Lending.{ReadsAt}
use Rattle.draid_world.specs.World.{core_of, pass_of, site_layout}
use Rattle.draid_loans.proofs.failing.reads_there.Given as goal

abbrev pub invariant-loop-column : goal.invariant-loop-column
invariant-loop-column l = (c : ℕ) → c < l.column → ReadsAt (site_layout l.site) (core_of l.tables) (pass_of l.pass) l.held l.stripe c l.leaf → ⊥
