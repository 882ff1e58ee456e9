use Rattle.std.specs.Prelude.{nat_eq}
use Rattle.std.specs.HashMap.{get}
use Rattle.draid_import.proofs.PointDrops.{empty_drops, none_beside}
use Rattle.draid_import.proofs.pointing.count_beside.Goals as goal

pub returns-then-is_empty-clause-newest : goal.returns-then-is_empty-clause-newest
returns-then-is_empty-clause-newest g c = none_beside c.args.shards.now c.args.drops.now (get nat_eq c.args.found.now.newest) c.args.found.now.seq c.requires.found (empty_drops c.args.drops.now c.is_empty.result c.is_empty.ensures c.if-is_empty.true)
