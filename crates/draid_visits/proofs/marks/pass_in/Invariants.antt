use Rattle.draid_session.specs.Passes as passes
use Rattle.draid_visits.proofs.Found.{OnlyBelow}
use Rattle.draid_visits.proofs.marks.pass_in.Given as goal

abbrev pub invariant-loop-metaslab : goal.invariant-loop-metaslab
invariant-loop-metaslab g l = record {
  below : OnlyBelow (passes.other_kind l.kind) l.pool.metaslabs.shards.items l.metaslab;
}
