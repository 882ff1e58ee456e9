use Rattle.std.proofs.Common.{refl}
use Rattle.std.specs.Option.{IsSome, IsSomeAnd}
use Rattle.std.specs.Prelude.{Option, None, Some}
use Rattle.draid_lanes.proofs.running.InLaneJobLane.run.Goals as goal

some_from : {T : Type 0} (o : Option T) (P : T → Type 0) → IsSomeAnd o P → IsSome o
some_from None P is = absurd is
some_from (Some x) P is = refl

-- src/running.rt:45:9
pub unwrap-requires : goal.unwrap-requires
unwrap-requires g c = some_from c.run.new.place _ (c.run.ensures.related c.args.lane refl)
