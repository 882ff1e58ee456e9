use Rattle.std.proofs.Common.{◌≡◌, rules}
use Rattle.std.proofs.lemmas.Fn.{always_returns_same}
use Rattle.draid_record.specs.declared.checks.Dropped.{Dropped}
use Rattle.draid_uber.proofs.Ascending.{sorted_is}
use Rattle.draid_uber.proofs.checks.ascending.Goals as goal

pub returns : goal.returns
returns c = sorted_is c.args.blocks.items _ c.sort_unstable_by_key.ensures.permutation
    (c.sort_unstable_by_key.ensures.sorted (λ (d : Dropped). (d.object, d.seq)) (always_returns_same _ (λ a r. r ≡ (a.0.now.object, a.0.now.seq)) _ (λ a r q k. search rules)))
