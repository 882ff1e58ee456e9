use Rattle.draid_marked.proofs.Ended.{breaks_ends, left_keeps}
use Rattle.draid_marked.proofs.laws.marked_endings_keep_the_book.Goals as goal

pub returns-clause-breaks : goal.returns-clause-breaks
returns-clause-breaks c cause old new m command keeps breaks agrees =
    let ends = breaks_ends cause old new m command keeps breaks agrees in
    (ends.last, ends.breaks, ends.keeps)

pub returns-clause-left : goal.returns-clause-left
returns-clause-left c desk m keeps = left_keeps desk m keeps
