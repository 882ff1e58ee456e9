use Rattle.draid_record.specs.Written.{space_bytes}
use Rattle.draid_record.proofs.Adding.{all_more, both, nothing, one_more}
use Rattle.draid_record.proofs.writing.put_spaces.Goals as goal

pub loop-run-init : goal.loop-run-init
loop-run-init c = nothing _

pub loop-run-preserved : goal.loop-run-preserved
loop-run-preserved c =
    one_more space_bytes c.args.runs.now c.loop-run.run-index (record { first = 0; len = 0 }) _ _ _ c.loop-run-test.true c.loop-run.invariant
    (both _ _ _ _ _ c.put-in-loop-run.ensures c.put-in-loop-run-2.ensures)

pub returns : goal.returns
returns c =
    both _ _ _ _ _ c.put.ensures (all_more space_bytes c.args.runs.now c.loop-run.run-index _ _ c.loop-run-test.false c.loop-run.invariant)
