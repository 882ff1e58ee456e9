use Rattle.draid_session.specs.Session.{IsAnything}
use Rattle.draid_run.specs.Shelves.{MayFind}
use Rattle.draid_run.proofs.Turned.{one_turn}
use Rattle.draid_run.proofs.turns.each_line_is_a_turn.Goals as goal

pub returns-clause-run : goal.returns-clause-run
returns-clause-run g c entry tells first last front back line said behind saids to same runs =
    one_turn (g.D.Decides.choices c.args.decider.now) (MayFind g.R.Rack g.A.Area entry) tells line saids back behind to last front said first same runs

pub returns-clause-session : goal.returns-clause-session
returns-clause-session g c tells first last front back line said behind saids to same runs =
    one_turn (g.D.Decides.choices c.args.decider.now) IsAnything tells line saids back behind to last front said first same runs
