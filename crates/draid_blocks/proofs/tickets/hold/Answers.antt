use Rattle.draid_shard.proofs.Changed.{same_entries}
use Rattle.std.proofs.Common.{◌∙◌, arith, refl, subst}
use Rattle.draid_metaslab.specs.Spaces.{is_free}
use Rattle.draid_metaslab.specs.Spots.{IsLowest}
use Rattle.draid_blocks.proofs.Begins.{hold_refused}
use Rattle.draid_blocks.proofs.Placing.{allocated, back_again, held_tables, kept_tables, none_at}
use Rattle.draid_shard.proofs.Tables.{space_of}
use Rattle.draid_blocks.proofs.tickets.hold.Goals as goal

pub returns-in-Err-NoRoom-clause-tables : goal.returns-in-Err-NoRoom-clause-tables
returns-in-Err-NoRoom-clause-tables c geometry group t sized =
    let e = c.in-Err-NoRoom.ensures in
    kept_tables geometry group c.args.space.now c.allocate.new.self c.args.entries.now c.args.entries.now t (λ k. refl) e.same.0
    (space_of geometry group c.args.space.now c.allocate.new.self c.args.entries.now _ t e.kept (e.same.1 ∙ t.count))

pub returns-in-Err-NoMemory-clause-tables : goal.returns-in-Err-NoMemory-clause-tables
returns-in-Err-NoMemory-clause-tables c geometry group t sized =
    let e = c.in-Err-NoMemory.ensures in
    kept_tables geometry group c.args.space.now c.allocate.new.self c.args.entries.now c.args.entries.now t (λ k. refl) e.same.0
    (space_of geometry group c.args.space.now c.allocate.new.self c.args.entries.now _ t e.kept (e.same.1 ∙ t.count))

pub enter-requires-clause-free : goal.enter-requires-clause-free
enter-requires-clause-free c =
    let r = c.requires.tables in
    none_at r.geometry r.open_group c.args.space.now c.args.entries.now c.in-Ok.first c.args.pointer.stripes r.tables
    (allocated r.geometry r.open_group c.args.space.now c.args.entries.now c.in-Ok.first c.args.pointer.stripes c.from.result r.tables c.from.ensures c.requires.some
    c.in-Ok.ensures.lowest c.in-Ok.ensures.inside)

pub returns-in-Ok-enter-clause-was : goal.returns-in-Ok-enter-clause-was
returns-in-Ok-enter-clause-was c =
    let r = c.requires.tables in
    none_at r.geometry r.open_group c.args.space.now c.args.entries.now c.in-Ok.first c.args.pointer.stripes r.tables
    (allocated r.geometry r.open_group c.args.space.now c.args.entries.now c.in-Ok.first c.args.pointer.stripes c.from.result r.tables c.from.ensures c.requires.some
    c.in-Ok.ensures.lowest c.in-Ok.ensures.inside)

pub returns-in-Ok-enter-clause-tables : goal.returns-in-Ok-enter-clause-tables
returns-in-Ok-enter-clause-tables c geometry group t sized =
    let placed = record c.args.pointer { first = c.in-Ok.first } in
    let e = c.in-Ok-enter.ensures in
    let len = e.count in
    let count = c.in-Ok.ensures.held in
    let held = t.count in
    held_tables geometry group c.args.space.now c.allocate.new.self c.args.entries.now c.enter.new.entries placed t
    (allocated geometry group c.args.space.now c.args.entries.now c.in-Ok.first c.args.pointer.stripes c.from.result t c.from.ensures c.requires.some
    c.in-Ok.ensures.lowest c.in-Ok.ensures.inside)
    (record { object_small = sized.object_small; some_seq = sized.some_seq; most_seq = sized.most_seq; digest_len = sized.digest_len; some = sized.some; short = sized.short; stripes = sized.stripes; born = sized.born; low = sized.low })
    (rw c.from.ensures at c.in-Ok.ensures.taken) e.entered
    (space_of geometry group c.args.space.now c.allocate.new.self c.args.entries.now _ t c.in-Ok.ensures.kept (omega (arith, len, count, held)))

pub returns-in-Err-clause-tables : goal.returns-in-Err-clause-tables
returns-in-Err-clause-tables c geometry group t sized =
    let fits = allocated geometry group c.args.space.now c.args.entries.now c.in-Ok.first c.args.pointer.stripes c.from.result t c.from.ensures c.requires.some
    c.in-Ok.ensures.lowest c.in-Ok.ensures.inside in
    let free = back_again (is_free c.args.space.now) (is_free c.allocate.new.self) (is_free c.release.new.self) c.in-Ok.first c.args.pointer.stripes fits.was
    (rw c.from.ensures at c.in-Ok.ensures.taken) (rw c.from-in-Err.ensures at c.release.ensures.freed) in
    let same = c.in-Err.ensures.same in
    let up = c.in-Ok.ensures.held in
    let down = c.release.ensures.held in
    let held = t.count in
    let len = same.count in
    kept_tables geometry group c.args.space.now c.release.new.self c.args.entries.now c.enter.new.entries t same.at free
    (record {
      height = c.release.ensures.kept.height ∙ c.in-Ok.ensures.kept.height ∙ t.height;
      total = c.release.ensures.kept.total ∙ c.in-Ok.ensures.kept.total ∙ t.total;
      count = omega (arith, up, down, held, len);
    })

pub allocate-requires : goal.allocate-requires
allocate-requires c = let some = c.requires.some in let same = c.from.ensures in record { some = omega (arith, some, same); enabled = c.requires.enabled }

pub enter-requires-clause-low : goal.enter-requires-clause-low
enter-requires-clause-low c =
    let some = c.requires.some in
    let same = c.from.ensures in
    let inside = c.in-Ok.ensures.inside in
    let total = c.requires.tables.tables.total in
    let low = c.requires.tables.low in
    omega (arith, some, same, inside, total, low)

pub enter-requires-clause-unused : goal.enter-requires-clause-unused
enter-requires-clause-unused c = c.requires.unused

pub enter-requires-clause-asked : goal.enter-requires-clause-asked
enter-requires-clause-asked c = c.requires.asked

pub release-requires : goal.release-requires
release-requires c =
    let some = c.requires.some in
    let was = c.from.ensures in
    let same = c.from-in-Err.ensures in
    let inside = c.in-Ok.ensures.inside in
    let total = c.in-Ok.ensures.kept.total in
    let held = c.in-Ok.ensures.held in
    record { span = record { some = omega (arith, some, same); below = omega (arith, inside, total, was, same) }; held = omega (arith, held) }

pub returns-in-Err-clause-same : goal.returns-in-Err-clause-same
returns-in-Err-clause-same c = c.in-Err.ensures.same

pub returns-in-Err-clause-kept : goal.returns-in-Err-clause-kept
returns-in-Err-clause-kept c = c.in-Err.ensures.kept

pub returns-in-Err-clause-refused : goal.returns-in-Err-clause-refused
returns-in-Err-clause-refused c =
    let inside = c.in-Ok.ensures.inside in
    let same = c.from.ensures in
    hold_refused c.args.space.now c.args.history.now c.args.pointer.stripes c.args.asked c.in-Err.fault c.in-Ok.first
    (subst (λ n. IsLowest (is_free c.args.space.now) c.args.space.now.height n c.in-Ok.first) same c.in-Ok.ensures.lowest) (omega (arith, inside, same)) c.in-Err.ensures.refused

pub returns-in-Ok-enter-clause-placed : goal.returns-in-Ok-enter-clause-placed
returns-in-Ok-enter-clause-placed c = refl

pub returns-in-Ok-enter-clause-lowest : goal.returns-in-Ok-enter-clause-lowest
returns-in-Ok-enter-clause-lowest c = subst (λ n. IsLowest (is_free c.args.space.now) c.args.space.now.height n c.in-Ok.first) c.from.ensures c.in-Ok.ensures.lowest

pub returns-in-Ok-enter-clause-inside : goal.returns-in-Ok-enter-clause-inside
returns-in-Ok-enter-clause-inside c = let inside = c.in-Ok.ensures.inside in let same = c.from.ensures in omega (arith, inside, same)

pub returns-in-Ok-enter-clause-entered : goal.returns-in-Ok-enter-clause-entered
returns-in-Ok-enter-clause-entered c = c.in-Ok-enter.ensures.entered

pub returns-in-Ok-enter-clause-count : goal.returns-in-Ok-enter-clause-count
returns-in-Ok-enter-clause-count c = c.in-Ok-enter.ensures.count

pub returns-in-Ok-enter-clause-stored : goal.returns-in-Ok-enter-clause-stored
returns-in-Ok-enter-clause-stored c = c.in-Ok-enter.ensures.stored

pub returns-in-Ok-enter-clause-not_worn : goal.returns-in-Ok-enter-clause-not_worn
returns-in-Ok-enter-clause-not_worn c = c.in-Ok-enter.ensures.not_worn

pub returns-in-Err-NoRoom-clause-same : goal.returns-in-Err-NoRoom-clause-same
returns-in-Err-NoRoom-clause-same c = same_entries c.args.entries.now

pub returns-in-Err-NoRoom-clause-kept : goal.returns-in-Err-NoRoom-clause-kept
returns-in-Err-NoRoom-clause-kept c = record { events = refl; stored = refl; owed = refl; reserved = refl; limit = refl }

pub returns-in-Err-NoRoom-clause-disabled : goal.returns-in-Err-NoRoom-clause-disabled
returns-in-Err-NoRoom-clause-disabled c = c.in-Err-NoRoom.ensures.kept.disabled

pub returns-in-Err-NoMemory-clause-same : goal.returns-in-Err-NoMemory-clause-same
returns-in-Err-NoMemory-clause-same c = same_entries c.args.entries.now

pub returns-in-Err-NoMemory-clause-kept : goal.returns-in-Err-NoMemory-clause-kept
returns-in-Err-NoMemory-clause-kept c = record { events = refl; stored = refl; owed = refl; reserved = refl; limit = refl }

pub returns-in-Err-NoMemory-clause-refused : goal.returns-in-Err-NoMemory-clause-refused
returns-in-Err-NoMemory-clause-refused c = tt

pub returns-in-Err-NoMemory-clause-disabled : goal.returns-in-Err-NoMemory-clause-disabled
returns-in-Err-NoMemory-clause-disabled c = c.in-Err-NoMemory.ensures.kept.disabled

pub returns-in-Ok-enter-clause-disabled : goal.returns-in-Ok-enter-clause-disabled
returns-in-Ok-enter-clause-disabled c = c.in-Ok.ensures.kept.disabled

pub returns-in-Err-clause-disabled : goal.returns-in-Err-clause-disabled
returns-in-Err-clause-disabled c = c.release.ensures.kept.disabled ∙ c.in-Ok.ensures.kept.disabled
