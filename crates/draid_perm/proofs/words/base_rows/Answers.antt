use Rattle.std.proofs.Common.{refl, rules}
use Rattle.draid_perm.proofs.BaseRows.{none_so_far, more_so_far}
use Rattle.draid_perm.proofs.words.base_rows.Goals as goal

pub loop-r-init : goal.loop-r-init
loop-r-init c = none_so_far _ _ _ _ _ c.requires.most c.in_order-row.ensures c.seed_from_u64-rng.ensures refl

pub loop-r-preserved : goal.loop-r-preserved
loop-r-preserved c =
    more_so_far _ _ _ _ _ _ _ _ c.loop-r-test.true c.requires.least c.requires.most
    c.shuffle_front.ensures.front c.shuffle_front.ensures.permutation c.shuffle_front.ensures.rest c.shuffle_front.ensures.state (search rules) c.loop-r.invariant
