use Rattle.std.proofs.Common.{nat_eq}
use Rattle.draid_names.specs.Numbers.{most_held}
use Rattle.draid_entries.specs.Entries.{count_of}
use Rattle.draid_shard.proofs.FreeRuns.{full_by, same_test}
use Rattle.draid_shard.proofs.shard.Shard.is_full.Goals as goal

pub returns-clause-held : goal.returns-clause-held
returns-clause-held g c w is_in = full_by c.args.self.now w (nat_eq c.count.result c.most_held.result) is_in c.requires.valid.few
    (same_test c.count.result c.most_held.result (count_of c.args.self.now.entries) (most_held c.args.self.now.version) c.count.ensures c.most_held.ensures)
