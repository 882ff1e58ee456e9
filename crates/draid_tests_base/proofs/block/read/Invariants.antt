use Rattle.std.proofs.Common.{◌≡◌, length}
use Rattle.std.specs.Prelude.{All, IfSome}
use Rattle.draid_block.specs.Blocks.{column_len}
use Rattle.draid_tests_base.proofs.block.read.Given as goal

abbrev pub invariant-loop-i : goal.invariant-loop-i
invariant-loop-i l = record {
  count : length l.columns.items ≡ l.i;
  long : All (λ column. IfSome column (λ v. length v.items ≡ column_len l.block.cut (length l.block.bytes))) l.columns.items;
}
