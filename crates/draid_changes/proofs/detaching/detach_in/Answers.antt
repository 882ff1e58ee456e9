use Rattle.draid_disks.proofs.Refused.{goes_unrefused}
use Rattle.draid_changes.proofs.detaching.detach_in.Goals as goal

pub unreachable-requires : goal.unreachable-requires
unreachable-requires g c = goes_unrefused c.args.shard.now.slots c.args.at c.in-Err.field-0 c.requires.may.may c.in-Err.ensures.refused
