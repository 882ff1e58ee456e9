use Rattle.std.proofs.Common.{◌≡◌, ◌≤◌, true}
use Rattle.draid_machine.specs.declared.names.Held.{Held}
use Rattle.draid_machine.specs.Names.{is_block}
use Rattle.draid_passes.proofs.Walks.{Walked}
use Rattle.draid_passes.proofs.starts.are_settled.Given as goal

abbrev pub invariant-loop-block : goal.invariant-loop-block
invariant-loop-block l = Walked (λ (h : Held). (is_block h.stage ≡ true) × (h.birth ≤ l.group)) l.held.entries l.block-iterator
