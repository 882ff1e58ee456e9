use Rattle.draid_session.proofs.Finishing.{finished_by}
use Rattle.draid_session.proofs.laws.closing_groups_are_synced.Goals as goal

pub returns : goal.returns
returns g c reply old new book it keeps may = finished_by old book keeps may (g.D.Decides.choices c.args.decider.now) reply new it
