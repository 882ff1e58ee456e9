use Rattle.draid_pool.proofs.LookRooms.{LookingAt}
use Rattle.draid_pool.proofs.room.look_for_room.Given as goal

-- the metaslabs so far were looked at
abbrev pub invariant-loop-metaslab : goal.invariant-loop-metaslab
invariant-loop-metaslab g l = LookingAt g.R.Rack g.A.Area g.M.Metaslabs.went g.M.Metaslabs.shared (g.M.Metaslabs.locks l.metaslabs) (g.M.Metaslabs.locks l.initial.metaslabs) (g.M.Metaslabs.owns l.initial.metaslabs) (g.M.Metaslabs.owns l.metaslabs) (g.M.Metaslabs.fits l.metaslabs)
    (g.M.Metaslabs.last l.initial.metaslabs) (g.M.Metaslabs.last l.metaslabs) l.initial.metaslabs l.metaslabs l.count l.need l.metaslab l.rooms
