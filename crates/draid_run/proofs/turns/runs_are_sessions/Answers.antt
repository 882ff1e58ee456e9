use Rattle.draid_run.specs.Shelves.{MayFind}
use Rattle.draid_run.proofs.Turned.{any_runs}
use Rattle.draid_run.proofs.turns.runs_are_sessions.Goals as goal

pub returns : goal.returns
returns g c entry tells from to lines replies old new runs = any_runs (g.D.Decides.choices c.args.decider.now) (MayFind g.R.Rack g.A.Area entry) tells from to lines replies old new runs
