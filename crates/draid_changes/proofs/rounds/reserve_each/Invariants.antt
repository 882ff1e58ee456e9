use Rattle.std.proofs.Common.{◌≡◌, Ok}
use Rattle.draid_shard.specs.Fits.{Valid}
use Rattle.draid_pool.specs.Rounds.{EachIs, HeldEach}
use Rattle.draid_changes.specs.Switching.{HasReserved, ReservesOne}
use Rattle.draid_changes.proofs.rounds.reserve_each.Given as goal

abbrev pub invariant-loop-metaslab : goal.invariant-loop-metaslab
invariant-loop-metaslab g l = record {
  fits : g.M.Metaslabs.fits l.metaslabs;
  locks : g.M.Metaslabs.locks l.metaslabs ≡ g.M.Metaslabs.locks l.initial.metaslabs;
  owns : g.M.Metaslabs.owns l.metaslabs ≡ g.M.Metaslabs.owns l.initial.metaslabs;
  valid : EachIs l.count (Valid g.R.Rack) (g.M.Metaslabs.last l.metaslabs);
  done : EachIs l.metaslab (HasReserved g.R.Rack) (g.M.Metaslabs.last l.metaslabs);
  each : HeldEach g.R.Rack g.A.Area g.M.Metaslabs.last g.M.Metaslabs.went g.M.Metaslabs.shared (g.M.Metaslabs.owns l.initial.metaslabs) (λ none x y. ReservesOne g.R.Rack x (Ok tt) y) l.metaslab l.initial.metaslabs 0 l.metaslabs;
}
