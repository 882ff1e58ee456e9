use Rattle.std.proofs.Common.{◌≡◌, drop}
use Rattle.draid_record.specs.Record.{stands, told_slot, told_slots}
use Rattle.draid_record.proofs.arm.stands.Given as goal

abbrev pub invariant-loop-list : goal.invariant-loop-list
invariant-loop-list l =
    stands (told_slots (drop l.list-index l.before)) (told_slot l.here) l.kind l.number ≡ stands (told_slots l.before) (told_slot l.here) l.kind l.number
