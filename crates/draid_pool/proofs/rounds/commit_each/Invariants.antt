use Rattle.std.proofs.Common.{◌≡◌, ◌≤◌, ℕ}
use Rattle.draid_pool.specs.Syncing.{Commits}
use Rattle.draid_pool.specs.Rounds.{HeldEach}
use Rattle.draid_pool.proofs.rounds.commit_each.Given as goal

abbrev pub invariant-loop-metaslab : goal.invariant-loop-metaslab
invariant-loop-metaslab g l = record {
  fits : g.M.Metaslabs.fits l.metaslabs;
  locks : g.M.Metaslabs.locks l.metaslabs ≡ g.M.Metaslabs.locks l.initial.metaslabs;
  owns : g.M.Metaslabs.owns l.metaslabs ≡ g.M.Metaslabs.owns l.initial.metaslabs;
  rest : (k : ℕ) → l.metaslab ≤ k → g.M.Metaslabs.last l.metaslabs k ≡ g.M.Metaslabs.last l.initial.metaslabs k;
  each : HeldEach g.R.Rack g.A.Area g.M.Metaslabs.last g.M.Metaslabs.went g.M.Metaslabs.shared (g.M.Metaslabs.owns l.initial.metaslabs) (λ none x y. Commits g.R.Rack l.group x y) l.metaslab l.initial.metaslabs 0 l.metaslabs;
}
