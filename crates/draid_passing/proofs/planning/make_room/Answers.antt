use Rattle.draid_passing.proofs.Roomy.{roomy_nothing, roomy_valid}
use Rattle.draid_passing.proofs.planning.make_room.Goals as goal

pub returns-in_default-clause-none : goal.returns-in_default-clause-none
returns-in_default-clause-none g c = roomy_nothing c.args.shard.now c.room.new.slots c.ask.new.self c.room.ensures.kept c.ask.ensures.same

pub returns-in_default-room_for_leaves-clause-valid : goal.returns-in_default-room_for_leaves-clause-valid
returns-in_default-room_for_leaves-clause-valid g c = roomy_valid c.args.shard.now c.room.new.slots c.ask.new.self c.room.ensures.kept c.ask.ensures.same g.R.Rack c.requires.valid c.room.ensures.roomier

pub returns-in_default-room_for_leaves-clause-none : goal.returns-in_default-room_for_leaves-clause-none
returns-in_default-room_for_leaves-clause-none g c = roomy_nothing c.args.shard.now c.room.new.slots c.ask.new.self c.room.ensures.kept c.ask.ensures.same

pub returns-clause-valid : goal.returns-clause-valid
returns-clause-valid g c = roomy_valid c.args.shard.now c.room.new.slots c.ask.new.self c.room.ensures.kept c.ask.ensures.same g.R.Rack c.requires.valid c.room.ensures.roomier

pub returns-clause-none : goal.returns-clause-none
returns-clause-none g c = roomy_nothing c.args.shard.now c.room.new.slots c.ask.new.self c.room.ensures.kept c.ask.ensures.same
