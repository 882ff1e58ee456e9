use Rattle.std.proofs.Common.{◌≤◌, ◌+◌, length, nat_eq}
use Rattle.std.specs.HashMap.{get, hash_map_len, spare}
use Rattle.draid_tables.proofs.Dealing.{Puts}
use Rattle.draid_tables.proofs.tables.take_objects.Given as goal

abbrev pub invariant-loop-object : goal.invariant-loop-object
invariant-loop-object l = record {
  puts : Puts l.fn.numbers (get nat_eq l.dealt) (get nat_eq l.fn.objects) (get nat_eq l.objects) l.object-iterator;
  room : spare l.fn.objects + length l.object-iterator ≤ spare l.objects + hash_map_len l.dealt;
}
