use Rattle.std.proofs.Common.{◌≡◌, ◌≤◌, ◌-◌, nat_eq}
use Rattle.std.specs.HashMap.{get}
use Rattle.draid_pool.specs.Threads.{AllStay, IsWholeBy}
use Rattle.draid_store.proofs.PointedSums.{Sofar}
use Rattle.draid_store.proofs.Sums.{Summing}
use Rattle.draid_store.proofs.summing.sum_objects.Given as goal

-- the objects so far gave their bytes, and the hasher was given these
abbrev pub invariant-loop-summed : goal.invariant-loop-summed
invariant-loop-summed g l = record {
  fit : g.M.Metaslabs.fits l.metaslabs;
  same_locks : g.M.Metaslabs.locks l.metaslabs ≡ g.M.Metaslabs.locks l.initial.metaslabs;
  owned : g.M.Metaslabs.owns l.metaslabs ≡ g.M.Metaslabs.owns l.initial.metaslabs;
  stay : AllStay (g.M.Metaslabs.owns l.initial.metaslabs) (g.M.Metaslabs.last l.initial.metaslabs) (g.M.Metaslabs.last l.metaslabs);
  whole : IsWholeBy g.R.Rack (g.M.Metaslabs.owns l.initial.metaslabs) (g.M.Metaslabs.last l.metaslabs) (λ o. get nat_eq l.own.objects o) l.own.seq l.own.floor;
  summing : Summing g.R.Rack g.A.Area g.M.Metaslabs.went g.M.Metaslabs.shared (g.M.Metaslabs.owns l.initial.metaslabs) (λ o. get nat_eq l.own.objects o) l.own.seq l.own.floor l.geometry (g.M.Metaslabs.last l.initial.metaslabs) (g.M.Metaslabs.last l.metaslabs) l.initial.metaslabs l.metaslabs l.first l.summed l.hasher;
  sofar : Sofar (λ o. get nat_eq l.own.objects o) l.first l.summed l.hasher;
  bound : l.summed ≤ l.count;
}

abbrev pub decreases-loop-summed : goal.decreases-loop-summed
decreases-loop-summed g l = l.count - l.summed
