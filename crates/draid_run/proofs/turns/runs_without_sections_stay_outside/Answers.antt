use Rattle.draid_run.specs.Shelves.{MayFind}
use Rattle.draid_run.proofs.Turned.{runs_back, runs_outside}
use Rattle.draid_run.proofs.turns.runs_without_sections_stay_outside.Goals as goal

pub returns-clause-outside : goal.returns-clause-outside
returns-clause-outside g c entry tells to lines replies old new runs none = runs_outside (g.D.Decides.choices c.args.decider.now) (MayFind g.R.Rack g.A.Area entry) tells to lines replies old new runs none

pub returns-clause-back : goal.returns-clause-back
returns-clause-back g c entry tells lines replies old new runs = runs_back (g.D.Decides.choices c.args.decider.now) (MayFind g.R.Rack g.A.Area entry) tells lines replies old new runs
