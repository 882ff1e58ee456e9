use Rattle.std.proofs.Common.{◌≡◌}
use Rattle.draid_shard.specs.Fits.{Valid}
use Rattle.draid_pool.specs.Rounds.{EachIs}
use Rattle.draid_pool.specs.Threads.{AllStay, KeepsWhole, all_of}
use Rattle.draid_visits.proofs.LookHolds.{MarksAt}
use Rattle.draid_visits.proofs.looks.find_marks.Given as goal

abbrev pub invariant-loop-metaslab : goal.invariant-loop-metaslab
invariant-loop-metaslab g l = record {
  fits : g.M.Metaslabs.fits l.metaslabs;
  locks : g.M.Metaslabs.locks l.metaslabs ≡ g.M.Metaslabs.locks l.initial.metaslabs;
  owns : g.M.Metaslabs.owns l.metaslabs ≡ g.M.Metaslabs.owns l.initial.metaslabs;
  valid : EachIs l.count (Valid g.R.Rack) (g.M.Metaslabs.last l.metaslabs);
  stay : AllStay (g.M.Metaslabs.owns l.initial.metaslabs) (g.M.Metaslabs.last l.initial.metaslabs) (g.M.Metaslabs.last l.metaslabs);
  whole : KeepsWhole g.R.Rack (g.M.Metaslabs.owns l.initial.metaslabs) (all_of (g.M.Metaslabs.owns l.initial.metaslabs)) (g.M.Metaslabs.last l.initial.metaslabs) (g.M.Metaslabs.last l.metaslabs);
  found : MarksAt g.R.Rack g.A.Area g.M.Metaslabs.last g.M.Metaslabs.went g.M.Metaslabs.shared (g.M.Metaslabs.owns l.initial.metaslabs) l.initial.metaslabs l.marks l.some l.metaslab l.metaslabs;
}
