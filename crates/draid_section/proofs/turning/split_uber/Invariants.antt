use Rattle.std.proofs.Common.{◌≡◌, vec_len, vec_capacity}
use Rattle.draid_section.proofs.LanePasses.{LanesSplit}
use Rattle.draid_section.proofs.turning.split_uber.Given as goal

abbrev pub invariant-loop-lane : goal.invariant-loop-lane
invariant-loop-lane g l = LanesSplit l.turn l.lane l.passes.items l.first × (vec_len l.passes ≡ l.lane) × (vec_capacity l.passes ≡ vec_capacity l.initial.passes)
