use Rattle.std.proofs.Common.{ap, arith, Some}
use Rattle.draid_mend.proofs.Aimed.{column_once, no_column}
use Rattle.draid_mend.proofs.aiming.column_on.Goals as goal

pub returns-then-position-geometry-clause-only : goal.returns-then-position-geometry-clause-only
returns-then-position-geometry-clause-only c column is =
    absurd (no_column c.args.geometry.now c.args.perms.now c.requires.layout c.args.front c.args.slot c.position-position.result c.position-position.ensures.only c.if-position-geometry.true column is)

pub returns-then-column-geometry-clause-only : goal.returns-then-column-geometry-clause-only
returns-then-column-geometry-clause-only c column is =
    ap Some (column_once c.args.geometry.now c.args.perms.now c.requires.layout c.args.front c.args.slot c.position-position.result c.position-position.ensures.only c.steps_to-column.result c.requires.front c.steps_to-column.ensures.below
    c.steps_to-column.ensures.reached column is)

pub returns-else-column-geometry-clause-only : goal.returns-else-column-geometry-clause-only
returns-else-column-geometry-clause-only c column is =
    let same = column_once c.args.geometry.now c.args.perms.now c.requires.layout c.args.front c.args.slot c.position-position.result c.position-position.ensures.only c.steps_to-column.result c.requires.front c.steps_to-column.ensures.below
    c.steps_to-column.ensures.reached column is in
    let past = c.if-column-geometry.false in
    let below = is.below in
    absurd (omega (arith, same, past, below))
