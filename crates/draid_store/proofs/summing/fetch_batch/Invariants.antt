use Rattle.std.proofs.Common.{◌≤◌, ◌<◌, ◌+◌, ◌^◌, nat_eq}
use Rattle.std.specs.HashMap.{get}
use Rattle.draid_store.proofs.Batched.{BatchAt}
use Rattle.draid_store.proofs.summing.fetch_batch.Given as goal

-- the blocks of the objects so far were fetched
abbrev pub invariant-loop-object : goal.invariant-loop-object
invariant-loop-object g l = record {
  so_far : BatchAt g.R.Rack g.A.Area g.M.Metaslabs.went g.M.Metaslabs.shared (g.M.Metaslabs.locks l.metaslabs) (g.M.Metaslabs.locks l.initial.metaslabs) (g.M.Metaslabs.owns l.initial.metaslabs) (g.M.Metaslabs.owns l.metaslabs) (g.M.Metaslabs.fits l.metaslabs)
      (g.M.Metaslabs.last l.initial.metaslabs) (g.M.Metaslabs.last l.metaslabs) (λ o. get nat_eq l.own.objects o) l.own.seq l.own.floor l.initial.metaslabs l.metaslabs l.first l.object l.blocks.items;
  few : l.bytes < 2 ^ 20;
  bound : l.object ≤ l.first + l.count;
}
