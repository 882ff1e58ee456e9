use Rattle.draid_marks.proofs.Marking.{leaf_lies, spare_lies_so}
use Rattle.draid_marks.proofs.silent.lies_silent.Goals as goal

pub is_silent-requires : goal.is_silent-requires
is_silent-requires c = record { there = c.requires.there; slice = c.requires.table.layout.geometry_is.props.some_slices }

pub returns-in-Leaf : goal.returns-in-Leaf
returns-in-Leaf c = leaf_lies c.args.slots.now c.args.failed.now c.args.at c.arms.result.now _ c.is_silent.result c.arms.ensures.arms c.requires.there c.in-Leaf.is c.is_silent.ensures

pub returns-in-Spare : goal.returns-in-Spare
returns-in-Spare c = spare_lies_so c.args.slots.now c.args.failed.now c.args.at c.arms.result.now _ c.keeps_silent.result c.arms.ensures.arms c.requires.there c.in-Spare.is c.keeps_silent.ensures
