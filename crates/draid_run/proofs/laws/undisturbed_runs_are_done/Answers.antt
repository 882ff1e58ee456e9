use Rattle.draid_run.proofs.Ending.{ends_well}
use Rattle.draid_run.proofs.laws.undisturbed_runs_are_done.Goals as goal

pub returns : goal.returns
returns g c words status input old new entry now first it session can quiet =
    ends_well g.R.Rack g.A.Area (g.D.Decides.choices c.args.decider.now) words input session can status old new entry now first it quiet
