use Rattle.draid_create.proofs.Creation.{still_new}
use Rattle.draid_pool.proofs.Rooms.{still_of}
use Rattle.draid_create.proofs.metaslab.new_slots.Goals as goal

pub returns-clause-of : goal.returns-clause-of
returns-clause-of c =
    still_of c.in_ok-slots.slots c.reserve.new.self c.args.geometry c.args.perms c.args.number c.reserve.ensures.kept c.in_ok-slots.ensures.of

pub returns-clause-new : goal.returns-clause-new
returns-clause-new c = still_new c.in_ok-slots.slots c.reserve.new.self c.args.geometry.spec.children c.reserve.ensures.kept c.in_ok-slots.ensures.new
