use Rattle.std.proofs.Common.{◌*◌, ◌∙◌, None, Some, ap, subst, sym, true}
use Rattle.std.proofs.lemmas.Option.{slice_get-get_or}
use Rattle.draid_columns.specs.Columns.{HasRows, RowsStand}
use Rattle.draid_columns.specs.declared.rows.Rows.{Rows}
use Rattle.draid_machine.proofs.Small.{some_same}
use Rattle.draid_rack.specs.Rack.{OnTold}
use Rattle.draid_shard.specs.Losing.{failed_if}
use Rattle.draid_restore.specs.Reading.{column_if}
use Rattle.draid_restore.proofs.ArmsRead.{buffer_long, own_buffer, reads_other, reads_own, sets_twice}
use Rattle.draid_restore.proofs.reading.read_next.Goals as goal

pub read_noted-requires-clause-there : goal.read_noted-requires-clause-there
read_noted-requires-clause-there g c =
    subst (HasRows (g.R.Rack.shape c.args.rack.now)) (sym c.rows_of-rows.ensures) (c.requires.spots.there c.args.i _ (slice_get-get_or c.args.spots.now c.args.i _ c.requires.less))

pub read_noted-done-requires-clause-there : goal.read_noted-done-requires-clause-there
read_noted-done-requires-clause-there g c =
    subst (HasRows (g.R.Rack.shape c.args.rack.now)) (sym c.rows_of-rows.ensures) (c.requires.spots.there c.args.i _ (slice_get-get_or c.args.spots.now c.args.i _ c.requires.less))

pub take_column-requires : goal.take_column-requires
take_column-requires g c = c.requires.spots.column c.args.i _ (slice_get-get_or c.args.spots.now c.args.i _ c.requires.less)

pub returns-then-not-is_reading-clause-reads : goal.returns-then-not-is_reading-clause-reads
returns-then-not-is_reading-clause-reads g c =
    reads_other c.args.extent.count c.args.extent.size c.args.spots.now c.requires.spots.apart (g.R.Rack.told c.args.rack.now) c.args.i _ (slice_get-get_or c.args.spots.now c.args.i _ c.requires.less)
    c.args.lent.now.columns.items c.args.lent.now.failed.items c.requires.before c.read_noted.result (sym c.is_reading.ensures ∙ c.if-not-is_reading.true) c.read_noted.new.failed.items
    (c.read_noted.ensures.failed ∙ ap (λ (rows : Rows). failed_if c.read_noted.result rows.leaf c.args.lent.now.failed.items) c.rows_of-rows.ensures)

pub unreachable-requires : goal.unreachable-requires
unreachable-requires g c =
    let z = own_buffer c.args.extent.count c.args.extent.size c.args.spots.now c.requires.spots.apart (g.R.Rack.told c.args.rack.now) c.args.i _ (slice_get-get_or c.args.spots.now c.args.i _ c.requires.less)
    c.args.lent.now.columns.items c.args.lent.now.failed.items c.requires.before true (sym c.is_reading.ensures ∙ c.if-not-is_reading.false) in
    c.in_default.not-Some z.0 (some_same _ c.take_column.result (Some z.0) c.take_column.ensures.taken z.1)

pub read_noted-done-requires-clause-long : goal.read_noted-done-requires-clause-long
read_noted-done-requires-clause-long g c =
    let z = own_buffer c.args.extent.count c.args.extent.size c.args.spots.now c.requires.spots.apart (g.R.Rack.told c.args.rack.now) c.args.i _ (slice_get-get_or c.args.spots.now c.args.i _ c.requires.less)
    c.args.lent.now.columns.items c.args.lent.now.failed.items c.requires.before true (sym c.is_reading.ensures ∙ c.if-not-is_reading.false) in
    buffer_long (c.args.extent.count * c.args.extent.size) _ c.take_column.result c.in-Some.bytes z c.take_column.ensures.taken c.in-Some.is ∙ ap (λ (rows : Rows). rows.count * rows.size) (sym c.rows_of-rows.ensures)

pub returns-clause-reads : goal.returns-clause-reads
returns-clause-reads g c =
    let e = c.read_noted-done.ensures in
    let z = own_buffer c.args.extent.count c.args.extent.size c.args.spots.now c.requires.spots.apart (g.R.Rack.told c.args.rack.now) c.args.i _ (slice_get-get_or c.args.spots.now c.args.i _ c.requires.less)
    c.args.lent.now.columns.items c.args.lent.now.failed.items c.requires.before true (sym c.is_reading.ensures ∙ c.if-not-is_reading.false) in
    let long = buffer_long (c.args.extent.count * c.args.extent.size) _ c.take_column.result c.in-Some.bytes z c.take_column.ensures.taken c.in-Some.is in
    reads_own c.args.extent.count c.args.extent.size c.args.spots.now c.requires.spots.apart (g.R.Rack.told c.args.rack.now) c.args.i _ (slice_get-get_or c.args.spots.now c.args.i _ c.requires.less)
    c.args.lent.now.columns.items c.args.lent.now.failed.items c.requires.before c.read_noted-done.result (sym c.is_reading.ensures ∙ c.if-not-is_reading.false)
    c.put_column.new.columns.items c.read_noted-done.new.bytes (e.whole ∙ long)
    (sets_twice c.args.lent.now.columns.items c.take_column.new.columns.items c.put_column.new.columns.items _ None (column_if c.read_noted-done.result c.read_noted-done.new.bytes) c.take_column.ensures.left c.put_column.ensures)
    (λ done. subst (λ (rows : Rows). OnTold (g.R.Rack.told c.args.rack.now) (λ x. RowsStand rows x.reads c.read_noted-done.new.bytes.items rows.count)) c.rows_of-rows.ensures (e.read done))
    c.read_noted-done.new.failed.items (e.failed ∙ ap (λ (rows : Rows). failed_if c.read_noted-done.result rows.leaf c.args.lent.now.failed.items) c.rows_of-rows.ensures)
