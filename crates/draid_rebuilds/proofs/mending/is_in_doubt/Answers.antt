use Rattle.std.proofs.Common.{◌≡◌, ◌∙◌, ap, sym, is_some, false}
use Rattle.draid_machine.specs.Names.{has_segment}
use Rattle.draid_world.specs.World.{core_of, loan_of, name_at, site_layout}
use Rattle.draid_rebuilds.proofs.Doubts.{doubt_any}
use Rattle.draid_rebuilds.proofs.mending.is_in_doubt.Goals as goal

pub returns-then-is_aside_at : goal.returns-then-is_aside_at
returns-then-is_aside_at c =
    let none : is_some (name_at c.args.loan.now.chosen.items c.args.segment.column) ≡ false = ap is_some (sym c.taken_from.ensures) ∙ sym c.is_some.ensures ∙ c.if-is_some.false in
    doubt_any (site_layout c.args.site.now) (core_of c.args.tables.now) (has_segment c.args.aside.now.keys) (loan_of c.args.loan.now) c.args.segment c.loop-column.column none c.loop-column-test.true
    (sym c.is_aside_at-in-loop-column.ensures ∙ c.if-is_aside_at.true)
