use Rattle.std.proofs.Common.{List, subst}
use Rattle.draid_ranges.specs.declared.run.Run.{Run}
use Rattle.draid_record.specs.Writer.{Writes, text_of}
use Rattle.draid_record.specs.Written.{log_bytes, run_bytes}
use Rattle.draid_record.proofs.Joined.{run_within}
use Rattle.draid_record.proofs.Adding.{all_more, both, nothing, one_more}
use Rattle.draid_record.proofs.writing.put_log.Goals as goal

pub loop-run-init : goal.loop-run-init
loop-run-init c = nothing _

pub put_run-requires : goal.put_run-requires
put_run-requires c = run_within 0 c.runs-runs.result.now 281474976710656 c.loop-run.run-index (record { first = 0; len = 0 }) c.runs-runs.ensures.maximal.apart c.loop-run-test.true

pub loop-run-preserved : goal.loop-run-preserved
loop-run-preserved c = one_more run_bytes c.runs-runs.result.now c.loop-run.run-index _ _ _ _ c.loop-run-test.true c.loop-run.invariant c.put_run.ensures

pub returns : goal.returns
returns c =
    let L : List Run → Type 0 = λ runs. Writes (text_of c.args.out.now) (text_of c.loop-run.out) (log_bytes runs) in
    subst L c.runs-runs.ensures.same
    (both _ _ _ _ _ c.put.ensures (all_more run_bytes c.runs-runs.result.now c.loop-run.run-index _ _ c.loop-run-test.false c.loop-run.invariant))
