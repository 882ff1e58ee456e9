use Rattle.draid_run.specs.Shelves.{MayFind}
use Rattle.draid_run.proofs.Remembered.{read_read, written_read}
use Rattle.draid_run.proofs.kept.known_objects_are_read.Goals as goal

pub returns-clause-written : goal.returns-clause-written
returns-clause-written g c entry tells write read lines replies object o p bytes got known journal last is_write is_read spare same runs =
    written_read (g.D.Decides.choices c.args.decider.now) (MayFind g.R.Rack g.A.Area entry) tells lines replies object o p known journal last spare same write read got is_read bytes is_write runs

pub returns-clause-again : goal.returns-clause-again
returns-clause-again g c entry tells first read lines replies object o p was got known journal last is_first is_read spare same runs =
    read_read (g.D.Decides.choices c.args.decider.now) (MayFind g.R.Rack g.A.Area entry) tells lines replies object o p known journal last spare same first read got is_read was is_first runs
