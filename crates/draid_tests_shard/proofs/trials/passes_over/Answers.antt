use Rattle.std.proofs.Common.{sym}
use Rattle.draid_tests_shard.proofs.trials.passes_over.Goals as goal

pub does-done-requires-clause-empty : goal.does-done-requires-clause-empty
does-done-requires-clause-empty g c key = sym (c.in-Ok.ensures.created.held key)
