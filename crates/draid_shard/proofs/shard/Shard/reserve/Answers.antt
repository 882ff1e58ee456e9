use Rattle.draid_shard.proofs.Changed.{same_arms, same_entries}
use Rattle.std.proofs.Common.{ap, length, refl, arith}
use Rattle.draid_shard.proofs.Kept.{history_in, valid_with}
use Rattle.draid_shard.proofs.shard.Shard.reserve.Goals as goal

pub returns-clause-valid : goal.returns-clause-valid
returns-clause-valid g c =
    let v = c.requires.valid in
    valid_with g.R.Rack c.args.self.now c.args.self.now.space c.args.self.now.entries c.reserve.new.self v v.tables refl v.few v.here (λ from low was. was)
    (let owed = c.reserve.ensures.owed in omega (arith, owed)) (let stored = ap length c.reserve.ensures.events in omega (arith, stored))

pub returns-clause-none : goal.returns-clause-none
returns-clause-none g c = record { part = refl; stored = c.reserve.ensures.events; stays = history_in c.args.self.now c.reserve.new.self }

pub returns-clause-kit : goal.returns-clause-kit
returns-clause-kit g c = record { rack = refl; areas = record { even = refl; odd = refl } }

pub returns-clause-keeps : goal.returns-clause-keeps
returns-clause-keeps g c = record { entries = same_entries c.args.self.now.entries; groups = record { open_group_is = refl; closing = refl; sealed = refl; committed = refl } }

pub returns-clause-limit : goal.returns-clause-limit
returns-clause-limit g c = c.reserve.ensures.limit

pub returns-clause-slots : goal.returns-clause-slots
returns-clause-slots g c = same_arms c.args.self.now.slots
