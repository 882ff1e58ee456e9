use Rattle.draid_world.specs.World.{core_of, pass_of, site_layout}
use Rattle.draid_loans.proofs.Loaned.{readings_pushed}
use Rattle.draid_loans.proofs.readings.read_columns.Goals as goal

pub loop-column-preserved : goal.loop-column-preserved
loop-column-preserved c =
    readings_pushed (site_layout c.args.site.now) (core_of c.args.tables.now) (pass_of c.args.pass.now) c.args.held c.args.stripe c.args.failed.now c.loop-column.column
    c.loop-column.read.items c.push.new.self.items c.loop-column.names.items c.push-in-loop-column.new.self.items c.in_ok-read_for.field-0 c.chosen-name.result c.loop-column.invariant c.chosen-name.ensures
    c.in_ok-read_for.ensures c.in_ok-push.ensures.items c.in_ok-push-2.ensures.items
