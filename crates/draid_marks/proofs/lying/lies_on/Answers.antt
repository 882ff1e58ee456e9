use Rattle.draid_marks.proofs.Lies.{leaf_there, lies_all, spare_there}
use Rattle.draid_marks.proofs.lying.lies_on.Goals as goal

pub returns-in-Leaf-clause-is : goal.returns-in-Leaf-clause-is
returns-in-Leaf-clause-is c = leaf_there c.args.slots.now c.args.leaf c.args.at c.arms.result.now _ c.arms.ensures.arms c.requires.there c.in-Leaf.is

pub returns-in-Spare-clause-is : goal.returns-in-Spare-clause-is
returns-in-Spare-clause-is c = spare_there c.args.slots.now c.args.leaf c.args.at c.arms.result.now _ c.arms.ensures.arms c.requires.there c.keeps.result c.in-Spare.is c.keeps.ensures

pub returns-in-Leaf-clause-lies : goal.returns-in-Leaf-clause-lies
returns-in-Leaf-clause-lies c =
    lies_all c.args.slots.now c.args.leaf c.args.at _ c.requires.table.layout (leaf_there c.args.slots.now c.args.leaf c.args.at c.arms.result.now _ c.arms.ensures.arms c.requires.there c.in-Leaf.is)

pub returns-in-Spare-clause-lies : goal.returns-in-Spare-clause-lies
returns-in-Spare-clause-lies c =
    lies_all c.args.slots.now c.args.leaf c.args.at c.keeps.result c.requires.table.layout
    (spare_there c.args.slots.now c.args.leaf c.args.at c.arms.result.now _ c.arms.ensures.arms c.requires.there c.keeps.result c.in-Spare.is c.keeps.ensures)
