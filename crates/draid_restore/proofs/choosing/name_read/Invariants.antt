use Rattle.std.specs.Prelude.{◌≡◌, ◌≤◌, ◌++◌, drop, vec_capacity, vec_len}
use Rattle.draid_restore.specs.Reading.{read_of}
use Rattle.draid_restore.proofs.choosing.name_read.Given as goal

abbrev pub invariant-loop-spot : goal.invariant-loop-spot
invariant-loop-spot l = record {
  listed : l.read.items ++ read_of (drop l.spot-index l.spots) l.failed ≡ read_of l.spots l.failed;
  few : vec_len l.read ≤ l.spot-index;
  room : vec_capacity l.read ≡ vec_capacity l.initial.read;
}
