use Rattle.std.specs.Option.{IsSomeAnd}
use Rattle.std.specs.Prelude.{Option, None, Some}
use Rattle.draid_works.proofs.job.LaneCommandsLaneJob.run.Goals as goal

fact_of : {T : Type 0} (o : Option T) (P : Type 0) (Q : T → Type 0) → IsSomeAnd o (λ x. P × Q x) → P
fact_of None P Q is = absurd is
fact_of (Some x) P Q is = is.0

-- src/job.rt:244:13
pub do_commands-lane-requires-sync-W : goal.do_commands-lane-requires-sync-W
do_commands-lane-requires-sync-W g c κs within = fact_of c.args.place.now _ _ c.requires.needed
