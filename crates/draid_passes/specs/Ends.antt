use Rattle.std.specs.Prelude.{◌≡◌, ℕ, true, List, Some, None}
use Rattle.draid_machine.specs.Names.{has_number}
use Rattle.draid_machine.specs.State.{Layout, Pass, State}
use Rattle.draid_machine.specs.Step.{FlushesThere}
use Rattle.draid_passes.specs.Left.{NothingLeft}

-- calls may fail on the leaves that the end of a pass flushes
abbrev pub AllFlush : Layout → State → Pass → List ℕ → Type 0
AllFlush l w p failed = (leaf : ℕ) → has_number failed leaf ≡ true → FlushesThere l w.core p leaf

-- a pass that may end
pub record MayEnd (l : Layout) (w : State) (failed : List ℕ) : Type 0 where
  pub p : Pass
  pub pass : w.core.pass ≡ Some p
  pub running : p.running ≡ true
  pub finished : NothingLeft w.core.held p
  pub idle : w.loan ≡ None
  pub fail : AllFlush l w p failed
