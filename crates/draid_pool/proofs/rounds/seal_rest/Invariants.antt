use Rattle.std.proofs.Common.{◌≡◌}
use Rattle.draid_pool.specs.GoingOn.{SealsFrom, StandsIn}
use Rattle.draid_pool.proofs.rounds.seal_rest.Given as goal

abbrev pub invariant-loop-metaslab : goal.invariant-loop-metaslab
invariant-loop-metaslab g l = record {
  fits : g.M.Metaslabs.fits l.metaslabs;
  locks : g.M.Metaslabs.locks l.metaslabs ≡ g.M.Metaslabs.locks l.initial.metaslabs;
  owns : g.M.Metaslabs.owns l.metaslabs ≡ g.M.Metaslabs.owns l.initial.metaslabs;
  next : l.syncing.next ≡ l.metaslab;
  stands : StandsIn g.R.Rack l.count l.syncing (g.M.Metaslabs.last l.metaslabs);
  from : SealsFrom g.R.Rack g.A.Area g.M.Metaslabs.last g.M.Metaslabs.went g.M.Metaslabs.shared (g.M.Metaslabs.owns l.initial.metaslabs) l.initial.metaslabs l.initial.syncing l.metaslabs l.syncing;
}
