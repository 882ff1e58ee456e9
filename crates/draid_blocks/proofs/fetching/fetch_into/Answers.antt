use Rattle.std.proofs.Common.{sym, ◌∙◌, subst, arith, ap}
use Rattle.draid_entries.specs.History.{limit_in, reserved_of, IsAsked}
use Rattle.draid_shard.specs.declared.shard.Shard.{Shard}
use Rattle.draid_machine.specs.declared.names.Stage.TheVariants.{Live}
use Rattle.draid_entries.specs.Maps.{staged}
use Rattle.draid_shard.specs.States.{part_of}
use Rattle.draid_blocks.proofs.Fetches.{fetches_stored, valid_stored}
use Rattle.draid_shard.proofs.Kept.{stored_more}
use Rattle.draid_blocks.proofs.ReadSteps.{reads_none}
use Rattle.draid_blocks.proofs.fetching.fetch_into.Goals as goal

pub read_columns-requires-clause-run : goal.read_columns-requires-clause-run
read_columns-requires-clause-run g c = let tables = c.requires.valid.tables in (tables.placed c.args.pointer.now.first (staged Live c.args.pointer.now) c.requires.live).run

pub read_columns-requires-clause-none : goal.read_columns-requires-clause-none
read_columns-requires-clause-none g c =
    reads_none (part_of c.args.shard.now) c.args.shard.now.slots c.args.pointer.now (g.R.Rack.told c.args.shard.now.rack) c.args.room.columns.items c.args.room.failed.items c.requires.columns c.requires.long c.requires.failed

pub returns-clause-valid : goal.returns-clause-valid
returns-clause-valid g c =
    valid_stored g.R.Rack c.args.shard.now c.read_columns.new.shard c.requires.valid c.read_columns.ensures.rack c.add_asked.new.self c.read_columns.ensures.shape c.add_asked.ensures.owed c.add_asked.ensures.reserved (stored_more c.read_columns.new.shard.history c.add_asked.new.self _ c.add_asked.ensures.stored)

pub returns-clause-fetches : goal.returns-clause-fetches
returns-clause-fetches g c =
    fetches_stored g.R.Rack c.args.shard.now c.read_columns.new.shard c.requires.valid c.read_columns.ensures.rack c.add_asked.new.self c.args.pointer.now c.key_of.result c.read_columns.new.columns c.read_columns.new.failed
    c.requires.live c.key_of.ensures c.read_columns.ensures.read c.read_columns.ensures.counts c.add_asked.ensures.stored

pub read_columns-requires-clause-valid : goal.read_columns-requires-clause-valid
read_columns-requires-clause-valid g c = c.requires.valid

pub read_columns-requires-clause-no_leaf : goal.read_columns-requires-clause-no_leaf
read_columns-requires-clause-no_leaf g c = c.requires.failed

pub read_columns-requires-clause-room : goal.read_columns-requires-clause-room
read_columns-requires-clause-room g c = c.requires.room

pub returns-clause-told : goal.returns-clause-told
returns-clause-told g c = c.read_columns.ensures.told

pub add_asked-requires-clause-some : goal.add_asked-requires-clause-some
add_asked-requires-clause-some g c = omega arith

pub add_asked-requires-clause-asked : goal.add_asked-requires-clause-asked
add_asked-requires-clause-asked g c = subst (λ (s : Shard g.row.R.Denot g.row.A.Denot). IsAsked s.history 1) (sym c.read_columns.ensures.rack) c.requires.asked

pub returns-clause-areas : goal.returns-clause-areas
returns-clause-areas g c =
    let e = c.read_columns.ensures.rack in
    record { even = ap (λ (s : Shard g.row.R.Denot g.row.A.Denot). s.even) e; odd = ap (λ (s : Shard g.row.R.Denot g.row.A.Denot). s.odd) e }

pub returns-clause-reserve : goal.returns-clause-reserve
returns-clause-reserve g c =
    let e = c.read_columns.ensures.rack in
    let stored = c.add_asked.ensures in
    record {
      reserved = stored.reserved ∙ ap (λ (s : Shard g.row.R.Denot g.row.A.Denot). reserved_of s.history) e;
      limit = stored.limit ∙ ap (λ (s : Shard g.row.R.Denot g.row.A.Denot). limit_in s.history) e;
    }

pub returns-clause-pass : goal.returns-clause-pass
returns-clause-pass g c = ap (λ (s : Shard g.row.R.Denot g.row.A.Denot). s.pass) c.read_columns.ensures.rack
