use Rattle.std.proofs.Common.{List, All, subst, sym}
use Rattle.std.specs.declared.vec.Vec.{Vec}
use Rattle.std.specs.declared.alloc.Global.{Global}
use Rattle.draid_turn.specs.Calls.{Caller, Lock}
use Rattle.draid_turn.specs.declared.past.Past.{Past}
use Rattle.draid_pool.specs.declared.cell.Cell.{Cell}
use Rattle.draid_section.specs.Opening.{BelongTo}
use Rattle.draid_section.proofs.Unlocking.{joined_own, unlocked}
use Rattle.draid_section.proofs.locks.unlock_each.Goals as goal

pub join_lanes-requires-clause-fits : goal.join_lanes-requires-clause-fits
join_lanes-requires-clause-fits g c = subst (λ ls. BelongTo ls c.args.firsts.items) (sym c.deref.ensures.value) c.requires.fits

pub join_lanes-requires-clause-fits_lanes : goal.join_lanes-requires-clause-fits_lanes
join_lanes-requires-clause-fits_lanes g c =
    subst (λ (ls : List (Lock (Cell g.row.R.Denot g.row.A.Denot))). All (λ (lane : Vec (Caller (Past (Cell g.row.R.Denot g.row.A.Denot))) Global). BelongTo ls lane.items) c.args.lanes.items) (sym c.deref.ensures.value) c.requires.fits_lanes

pub take_back-shards-requires-clause-fits : goal.take_back-shards-requires-clause-fits
take_back-shards-requires-clause-fits g c = joined_own c.args.turns.items c.args.firsts.items c.args.lanes.items c.join_lanes.new.firsts.items c.requires.fits c.join_lanes.ensures

pub returns : goal.returns
returns g c =
    unlocked g.R.Rack g.A.Area c.args.turns.items c.args.firsts.items c.join_lanes.new.firsts.items c.args.lanes.items c.args.back.items c.take_back-shards.result.items c.reverse.new.self.items c.requires.fits c.requires.all c.join_lanes.ensures c.requires.none c.take_back-shards.ensures c.reverse.ensures.items
