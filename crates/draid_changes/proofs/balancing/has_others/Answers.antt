use Rattle.std.proofs.Common.{arith, false}
use Rattle.std.specs.Prelude.{IsTrue}
use Rattle.draid_names.specs.declared.arm.ArmKind.TheVariants as kind
use Rattle.draid_changes.proofs.HasThem.{leaf_looked, spare_looked}
use Rattle.draid_changes.proofs.balancing.has_others.Goals as goal

pub returns-in-Leaf : goal.returns-in-Leaf
returns-in-Leaf c =
    leaf_looked c.args.slots.now c.args.slot c.arms-arms.result.now (record { kind = kind.Leaf; number = 0; offline = false; fresh = false }) c.arms-arms.ensures.arms (let many = c.if-arms-lt2.false in omega (arith, many))
    c.log.result.now c.in-Leaf.is c.log.ensures c.count.ensures.low c.count.result c.count.ensures.count

pub returns-in-Spare : goal.returns-in-Spare
returns-in-Spare c = (
  λ is. absurd (let both : IsTrue false = is in cc),
  λ has. absurd (spare_looked c.args.slots.now c.args.slot c.arms-arms.result.now (record { kind = kind.Leaf; number = 0; offline = false; fresh = false }) c.arms-arms.ensures.arms (let many = c.if-arms-lt2.false in omega (arith, many)) c.in-Spare.is has),
)
