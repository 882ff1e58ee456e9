use Rattle.std.proofs.Common.{◌≡◌, ◌≤◌, ℕ, None}
use Rattle.draid_shard.specs.declared.shard.Shard.{Shard}
use Rattle.draid_pool.specs.Rounds.{EachIs}
use Rattle.draid_pool.specs.Threads.{AllStay, KeepsWhole, all_of}
use Rattle.draid_visits.specs.Cancelling.{CancelsEach}
use Rattle.draid_visits.proofs.cancelling.cancel_each.Given as goal

abbrev pub invariant-loop-metaslab : goal.invariant-loop-metaslab
invariant-loop-metaslab g l = record {
  fits : g.M.Metaslabs.fits l.metaslabs;
  locks : g.M.Metaslabs.locks l.metaslabs ≡ g.M.Metaslabs.locks l.initial.metaslabs;
  owns : g.M.Metaslabs.owns l.metaslabs ≡ g.M.Metaslabs.owns l.initial.metaslabs;
  rest : (k : ℕ) → l.metaslab ≤ k → g.M.Metaslabs.last l.metaslabs k ≡ g.M.Metaslabs.last l.initial.metaslabs k;
  low : l.ended ≤ l.metaslab;
  stay : AllStay (g.M.Metaslabs.owns l.initial.metaslabs) (g.M.Metaslabs.last l.initial.metaslabs) (g.M.Metaslabs.last l.metaslabs);
  whole : KeepsWhole g.R.Rack (g.M.Metaslabs.owns l.initial.metaslabs) (all_of (g.M.Metaslabs.owns l.initial.metaslabs)) (g.M.Metaslabs.last l.initial.metaslabs) (g.M.Metaslabs.last l.metaslabs);
  none : EachIs l.metaslab (λ (shard : Shard g.row.R.Denot g.row.A.Denot). shard.pass ≡ None) (g.M.Metaslabs.last l.metaslabs);
  each : CancelsEach g.R.Rack g.A.Area g.M.Metaslabs.last g.M.Metaslabs.went g.M.Metaslabs.shared (g.M.Metaslabs.owns l.initial.metaslabs) l.metaslab l.initial.metaslabs l.ended l.metaslabs;
}
