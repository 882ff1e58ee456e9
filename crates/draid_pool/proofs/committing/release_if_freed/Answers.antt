use Rattle.draid_pool.proofs.committing.release_if_freed.Goals as goal

pub release-requires-clause-there : goal.release-requires-clause-there
release-requires-clause-there c = record { stage = c.args.entry.now.stage; there = c.requires.there }
