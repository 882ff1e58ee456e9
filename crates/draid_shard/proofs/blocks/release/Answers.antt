use Rattle.std.proofs.Common.{arith}
use Rattle.draid_shard.proofs.Tables.{released_tables, space_of}
use Rattle.draid_shard.proofs.blocks.release.Goals as goal

pub release-requires-clause-span : goal.release-requires-clause-span
release-requires-clause-span c =
    let t = c.requires.tables.tables in
    let run = (t.placed c.args.pointer.now.first _ c.requires.there.there).run in
    let some = run.some in
    let inside = run.inside in
    let total = t.total in
    let same = c.from.ensures in
    record { some = omega (arith, some, same); below = omega (arith, inside, total, same) }

pub returns-clause-tables : goal.returns-clause-tables
returns-clause-tables c geometry group t =
    let len = c.remove.ensures.count in
    let count = c.release.ensures.held in
    let held = t.count in
    released_tables geometry group c.args.space.now c.release.new.self c.args.entries.now c.remove.new.self c.args.pointer.now c.requires.there.stage t c.requires.there.there
    (rw c.from.ensures at c.release.ensures.freed) c.remove.ensures.entered
    (space_of geometry group c.args.space.now c.release.new.self c.args.entries.now _ t c.release.ensures.kept (omega (arith, len, count, held)))
