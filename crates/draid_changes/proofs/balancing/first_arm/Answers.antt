use Rattle.std.proofs.Common.{arith, length, ap, false}
use Rattle.draid_names.specs.declared.arm.ArmKind.TheVariants as kind
use Rattle.draid_changes.proofs.HasThem.{first_is}
use Rattle.draid_changes.proofs.balancing.first_arm.Goals as goal

pub returns : goal.returns
returns c =
    first_is c.args.slots.now c.args.slot c.arms.result.now (record { kind = kind.Leaf; number = 0; offline = false; fresh = false }) c.name_of.result c.requires.sound c.requires.slot c.arms.ensures.arms
    (let long = ap length c.arms.ensures.arms in let some = c.requires.there in omega (arith, long, some)) c.name_of.ensures
