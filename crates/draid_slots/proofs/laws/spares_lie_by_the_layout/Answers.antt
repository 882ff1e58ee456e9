use Rattle.draid_slots.proofs.Slices.{layout_slot}
use Rattle.draid_slots.proofs.laws.spares_lie_by_the_layout.Goals as goal

pub returns : goal.returns
returns c = layout_slot
