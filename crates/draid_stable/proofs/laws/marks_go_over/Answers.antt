use Rattle.draid_stable.proofs.Made.{marked_told}
use Rattle.draid_stable.proofs.laws.marks_go_over.Goals as goal

pub returns : goal.returns
returns c = λ head entries table pass last it marks test made marked. marked_told table it.slots.items marks test made.slots_are marked
