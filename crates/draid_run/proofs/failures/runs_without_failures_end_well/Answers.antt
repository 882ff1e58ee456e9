use Rattle.draid_run.proofs.WorkloadEnds.{run_unfailing}
use Rattle.draid_run.proofs.failures.runs_without_failures_end_well.Goals as goal

pub returns : goal.returns
returns g c words status given input old new entry now first source_was source_is sink_was sink_is run same reads writes at tells known makes source_none sink_none none = record {
  source = λ is. source_none (reads is);
  sink = λ is. sink_none (writes is);
  shelf = λ is. run_unfailing g.R.Rack g.A.Area (g.D.Decides.choices c.args.decider.now) words status given input old new entry now first run same at tells known makes none is;
}
