use Rattle.draid_pool.proofs.Rises.{areas_still}
use Rattle.draid_run.proofs.Ran.{same_pool}
use Rattle.draid_run.proofs.sections.NoSectionsSections.run_section.Goals as goal

pub returns : goal.returns
returns g c = record {
  whole = c.requires.whole;
  refused = same_pool c.args.pool;
  stops = tt;
  runs = tt;
  teach = tt;
  cause = tt;
  later = areas_still g.A.Area.faults c.args.pool;
}
