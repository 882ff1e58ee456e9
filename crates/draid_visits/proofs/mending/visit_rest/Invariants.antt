use Rattle.std.proofs.Common.{◌≡◌}
use Rattle.draid_visits.proofs.MendHolds.{VisitedSoFar}
use Rattle.draid_visits.proofs.mending.visit_rest.Given as goal

abbrev pub invariant-loop-metaslab : goal.invariant-loop-metaslab
invariant-loop-metaslab g l = record {
  fits : g.M.Metaslabs.fits l.metaslabs;
  locks : g.M.Metaslabs.locks l.metaslabs ≡ g.M.Metaslabs.locks l.initial.metaslabs;
  owns : g.M.Metaslabs.owns l.metaslabs ≡ g.M.Metaslabs.owns l.initial.metaslabs;
  visited : VisitedSoFar g.R.Rack g.A.Area g.M.Metaslabs.last g.M.Metaslabs.went g.M.Metaslabs.shared (g.M.Metaslabs.owns l.initial.metaslabs) (λ owns. g.S.Syncs.relates owns l.geometry.props.metaslabs) l.geometry l.initial.metaslabs l.initial.uber l.initial.mending l.metaslab l.metaslabs l.uber l.mending;
}
