use Rattle.draid_store.specs.Putting.{Putting}
use Rattle.draid_store.proofs.putting.put_all.Given as goal

abbrev pub invariant-columns : goal.invariant-columns
invariant-columns g l = Putting g.R.Rack g.A.Area g.M.Metaslabs.went g.M.Metaslabs.shared (g.M.Metaslabs.locks l.metaslabs) (g.M.Metaslabs.locks l.initial.metaslabs) (g.M.Metaslabs.owns l.initial.metaslabs) (g.M.Metaslabs.owns l.metaslabs) (g.M.Metaslabs.fits l.metaslabs)
    (g.M.Metaslabs.last l.initial.metaslabs) (g.M.Metaslabs.last l.metaslabs) l.initial.metaslabs l.metaslabs l.metaslab l.columns l.initial.op.ticket l.op.ticket l.block l.op.block.now l._column
