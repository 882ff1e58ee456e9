use Rattle.std.proofs.Common.{◌-◌}
use Rattle.draid_record.specs.Grammar.{many}
use Rattle.draid_record.specs.Reader.{state_of}
use Rattle.draid_record.specs.Record.{some_target, target, targets_of, told_slots}
use Rattle.draid_record.proofs.Loop.{Still}
use Rattle.draid_record.proofs.pass.targets_of.Given as goal

abbrev pub invariant-loop : goal.invariant-loop
invariant-loop l = record {
  still : Still (state_of l.fn.reader) (targets_of (told_slots l.all) l.count) l.targets.items (state_of l.reader)
      (many (l.count - l.counter) (target (told_slots l.all)) some_target l.before);
}
