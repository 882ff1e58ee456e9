use Rattle.std.proofs.Common.{◌≡◌, ◌<◌, ℕ, ap₂, ◌+◌, ◌*◌, ◌∙◌, ◌++◌, None, Some, Option, arith, ap, drop, length, refl, subst, sym, take}
use Rattle.draid_rack.specs.Rack.{Told}
use Rattle.draid_shard.specs.Calls.{CountsFailed}
use Rattle.draid_shard.specs.States.{part_of}
use Rattle.draid_blocks.proofs.ReadSteps.{counts_after, reads_more, replaces_twice}
use Rattle.draid_shard.proofs.Fitted.{fits_rows}
use Rattle.draid_blocks.proofs.Taking.{reads_buffer, whole}
use Rattle.draid_blocks.proofs.fetching.read_next.Goals as goal

pub read_column-outcome-requires-clause-fits : goal.read_column-outcome-requires-clause-fits
read_column-outcome-requires-clause-fits g c =
    let v = c.requires.valid in
    fits_rows (part_of c.args.shard.now) v.part c.args.shard.now.slots v.slots (g.R.Rack.shape c.args.shard.now.rack) c.args.pointer.now c.requires.run c.args.column c.requires.less c.rows_of-rows.result c.rows_of-rows.ensures v.leaves

pub returns-clause-read : goal.returns-clause-read
returns-clause-read g c =
    let was = c.requires.before in
    let e = c.read_column-outcome.ensures in
    let now = c.note_read.ensures in
    let rows = c.rows_of-rows.ensures in
    let bytes = c.in-Some.bytes in
    let told : Option Told = g.R.Rack.told c.args.shard.now.rack in
    let taken : c.take_column.result ≡ Some bytes = c.in-Some.is in
    let long : length bytes.items ≡ c.args.pointer.now.stripes * c.args.shard.now.geometry.props.sector = was.long c.args.column bytes (c.take_column.ensures.taken ∙ ap Some taken) in
    let kept : length c.read_column-outcome.new.into ≡ length bytes.items = e.whole ∙ ap length c.deref_mut.ensures.value in
    let fits : length bytes.items ≡ bytes.len = omega (arith, bytes.ok.0) in
    let all : length (take bytes.len (c.read_column-outcome.new.into ++ drop (length c.read_column-outcome.new.into) bytes.items)) ≡ length c.read_column-outcome.new.into
    = ap length (whole bytes.len c.read_column-outcome.new.into bytes.items kept fits) in
    reads_more (part_of c.args.shard.now) c.args.shard.now.slots c.args.pointer.now c.args.column told c.args.columns.now.items c.note_read.new.columns.items c.args.failed.now.items c.rows_of-rows.result rows
    c.read_column-outcome.result _ was (reads_buffer c.args.shard.now.slots c.rows_of-rows.result c.read_column-outcome.result told bytes.len c.read_column-outcome.new.into bytes.items kept fits e.reads) (all ∙ kept ∙ long)
    (replaces_twice c.args.columns.now.items c.take_column.new.columns.items c.note_read.new.columns.items c.args.column None _ c.take_column.ensures.left now.columns) (c.args.column + 1) c.note_read.new.failed.items
    refl now.failed

pub returns-clause-counts : goal.returns-clause-counts
returns-clause-counts g c first was =
    subst (λ failed. CountsFailed failed first (g.R.Rack.faults c.read_column-outcome.new.rack)) (sym c.note_read.ensures.failed)
    (counts_after c.read_column-outcome.result c.args.failed.now.items first (g.R.Rack.faults c.args.shard.now.rack) (g.R.Rack.faults c.read_column-outcome.new.rack) c.read_column-outcome.ensures.counts was)

pub take_column-requires : goal.take_column-requires
take_column-requires g c = subst (λ n. c.args.column < n) (sym c.requires.before.all) c.requires.less

pub read_column-outcome-requires-clause-long : goal.read_column-outcome-requires-clause-long
read_column-outcome-requires-clause-long g c =
    let rows = c.rows_of-rows.ensures in
    let bytes = c.in-Some.bytes in
    let taken : c.take_column.result ≡ Some bytes = c.in-Some.is in
    let long : length bytes.items ≡ c.args.pointer.now.stripes * c.args.shard.now.geometry.props.sector = c.requires.before.long c.args.column bytes (c.take_column.ensures.taken ∙ ap Some taken) in
    ap length c.deref_mut.ensures.value ∙ long ∙ sym (ap₂ (λ (a b : ℕ). a * b) rows.count_is rows.size_is)

pub note_read-requires : goal.note_read-requires
note_read-requires g c =
    let few = c.requires.before.few in
    let less = c.requires.less in
    let room = c.requires.room in
    let ok = c.args.failed.now.ok.0 in
    record { taken = c.take_column.ensures.left.here; room = omega (arith, few, less, room, ok) }

pub rows_of-rows-requires : goal.rows_of-rows-requires
rows_of-rows-requires g c = record { part = c.requires.valid.part; run = c.requires.run; column = c.requires.less }

pub returns-clause-told : goal.returns-clause-told
returns-clause-told g c = c.read_column-outcome.ensures.told

pub returns-clause-rack : goal.returns-clause-rack
returns-clause-rack g c = refl

pub returns-clause-shape : goal.returns-clause-shape
returns-clause-shape g c = c.read_column-outcome.ensures.shape

pub returns-clause-room : goal.returns-clause-room
returns-clause-room g c = c.note_read.ensures.room

pub returns-in_default : goal.returns-in_default
returns-in_default g c = absurd (c.requires.before.rest c.args.column (omega arith) (c.take_column.ensures.taken ∙ ap Some c.in_default.is))
