use Rattle.draid_shard.proofs.shard.Shard.next_held.Goals as goal

pub returns-clause-some : goal.returns-clause-some
returns-clause-some g c =
    let e = c.in_ok-entry.ensures in
    record { entered = record { stage = c.in_ok-entry.entry.stage; there = e.there }; behind = e.from; first = e.first }
