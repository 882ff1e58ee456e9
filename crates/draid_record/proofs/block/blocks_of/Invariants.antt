use Rattle.std.proofs.Common.{◌≤◌, ◌+◌, ◌-◌, ◌^◌, length}
use Rattle.std.specs.Prelude.{All}
use Rattle.draid_names.specs.declared.pointer.Pointer.{Pointer}
use Rattle.draid_record.specs.Grammar.{many}
use Rattle.draid_record.specs.Reader.{state_of}
use Rattle.draid_record.specs.Record.{block, blocks_of, end_of}
use Rattle.draid_record.proofs.Loop.{Still}
use Rattle.draid_record.proofs.block.blocks_of.Given as goal

abbrev pub invariant-loop : goal.invariant-loop
invariant-loop l = record {
  still : Still (state_of l.fn.reader) (blocks_of l.limits l.count) l.list.items (state_of l.reader) (many (l.count - l.counter) (block l.limits) end_of l.low);
  range : All (λ (b : Pointer). b.first + b.stripes ≤ 2 ^ 49) l.list.items;
  few : length l.list.items ≤ l.counter;
}
