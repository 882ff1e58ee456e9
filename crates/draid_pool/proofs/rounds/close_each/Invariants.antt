use Rattle.std.proofs.Common.{◌≡◌, Ok}
use Rattle.draid_pool.specs.Grouping.{ClosesIn, ClosesNext, SealsNext}
use Rattle.draid_pool.specs.Rounds.{EachIs, HeldEach}
use Rattle.draid_pool.proofs.rounds.close_each.Given as goal

abbrev pub invariant-loop-metaslab : goal.invariant-loop-metaslab
invariant-loop-metaslab g l = record {
  fits : g.M.Metaslabs.fits l.metaslabs;
  locks : g.M.Metaslabs.locks l.metaslabs ≡ g.M.Metaslabs.locks l.initial.metaslabs;
  owns : g.M.Metaslabs.owns l.metaslabs ≡ g.M.Metaslabs.owns l.initial.metaslabs;
  ready : EachIs l.count (ClosesNext g.R.Rack l.group) (g.M.Metaslabs.last l.metaslabs);
  done : EachIs l.metaslab (SealsNext g.R.Rack l.group) (g.M.Metaslabs.last l.metaslabs);
  each : HeldEach g.R.Rack g.A.Area g.M.Metaslabs.last g.M.Metaslabs.went g.M.Metaslabs.shared (g.M.Metaslabs.owns l.initial.metaslabs) (λ none x y. ClosesIn g.R.Rack g.A.Area l.group x (Ok tt) y) l.metaslab l.initial.metaslabs 0 l.metaslabs;
}
