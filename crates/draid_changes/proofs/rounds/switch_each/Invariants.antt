use Rattle.std.proofs.Common.{◌≡◌, ◌≤◌, ℕ}
use Rattle.draid_shard.specs.declared.shard.Shard.{Shard}
use Rattle.draid_pool.specs.Rounds.{EachIs, HeldEach}
use Rattle.draid_changes.specs.Behind.{IsSwitched}
use Rattle.draid_changes.specs.Walks.{Switches}
use Rattle.draid_changes.proofs.rounds.switch_each.Given as goal

abbrev pub invariant-loop-metaslab : goal.invariant-loop-metaslab
invariant-loop-metaslab g l = record {
  fits : g.M.Metaslabs.fits l.metaslabs;
  locks : g.M.Metaslabs.locks l.metaslabs ≡ g.M.Metaslabs.locks l.initial.metaslabs;
  owns : g.M.Metaslabs.owns l.metaslabs ≡ g.M.Metaslabs.owns l.initial.metaslabs;
  rest : (k : ℕ) → l.metaslab ≤ k → g.M.Metaslabs.last l.metaslabs k ≡ g.M.Metaslabs.last l.initial.metaslabs k;
  done : EachIs l.metaslab (λ (shard : Shard g.row.R.Denot g.row.A.Denot). IsSwitched shard.slots l.leaf l.offline) (g.M.Metaslabs.last l.metaslabs);
  each : HeldEach g.R.Rack g.A.Area g.M.Metaslabs.last g.M.Metaslabs.went g.M.Metaslabs.shared (g.M.Metaslabs.owns l.initial.metaslabs) (λ none x y. Switches g.R.Rack l.leaf l.offline x y) l.metaslab l.initial.metaslabs 0 l.metaslabs;
}
