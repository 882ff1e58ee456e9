use Rattle.std.proofs.Common.{ap}
use Rattle.byteorder.specs.Endian.{big_bytes}
use Rattle.draid_record.specs.Written.{target_bytes}
use Rattle.draid_record.proofs.Adding.{all_more, as_is, both, nothing, one_more}
use Rattle.draid_record.proofs.writing.put_targets.Goals as goal

pub loop-target-init : goal.loop-target-init
loop-target-init c = nothing _

pub loop-target-preserved : goal.loop-target-preserved
loop-target-preserved c =
    one_more target_bytes c.args.targets.now c.loop-target.target-index _ _ _ _ c.loop-target-test.true c.loop-target.invariant
    (both _ _ _ _ _ (as_is _ _ _ _ c.put.ensures (ap (big_bytes 2) c.from.ensures)) (as_is _ _ _ _ c.put-in-loop-target.ensures (ap (big_bytes 1) c.from-in-loop-target.ensures)))

pub returns : goal.returns
returns c = all_more target_bytes c.args.targets.now c.loop-target.target-index _ _ c.loop-target-test.false c.loop-target.invariant
