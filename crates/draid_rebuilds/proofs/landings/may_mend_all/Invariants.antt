use Rattle.std.proofs.Common.{◌<◌, ℕ, get_or}
use Rattle.draid_rebuilds.specs.Landings.{MayMend}
use Rattle.draid_world.specs.World.{core_of, loan_of, pass_of, site_layout}
use Rattle.draid_rebuilds.proofs.landings.may_mend_all.Given as goal

abbrev pub invariant-loop-leaf : goal.invariant-loop-leaf
invariant-loop-leaf l = (i : ℕ) → i < l.leaf-index → MayMend (site_layout l.site) (core_of l.tables) (pass_of l.pass) (loan_of l.loan) (get_or l.leaves i 0)
