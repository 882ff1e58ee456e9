use Rattle.std.proofs.Common.{◌∙◌, sym, subst}
use Rattle.draid_shard.proofs.Over.{if_none}
use Rattle.draid_restore.specs.Loans.{IsUnit}
use Rattle.draid_restore.proofs.Units.{none_there, unit_found}
use Rattle.draid_restore.proofs.loans.next_unit.Goals as goal

pub returns-in_err-entry-clause-none : goal.returns-in_err-entry-clause-none
returns-in_err-entry-clause-none g c w is p there =
    if_none c.from_residual-in_err-entry.result _
    (none_there g.R.Rack c.args.shard.now c.requires.valid c.place_of-at.result.0 c.place_of-at.result.1 c.place_of-at.ensures c.in_ok-found.found c.in_ok-found.ensures.some (sym c.at.ensures ∙ c.in_err-entry.was))

pub returns-clause-some : goal.returns-clause-some
returns-clause-some g c =
    subst (IsUnit c.args.shard.now c.in_ok-entry.entry) (sym c.max.ensures)
    (unit_found g.R.Rack c.args.shard.now c.requires.valid c.place_of-at.result.0 c.place_of-at.result.1 c.place_of-at.ensures c.in_ok-found.found c.in_ok-found.ensures.some c.in_ok-entry.entry (sym c.at.ensures ∙ c.in_ok-entry.was))
