use Rattle.std.specs.Prelude.{◌≡◌, ◌+◌, ◌≤◌, ℕ, true, false, List, Some}
use Rattle.draid_machine.specs.declared.names.ArmName.{ArmName}
use Rattle.draid_machine.specs.declared.names.Held.{Held}
use Rattle.draid_machine.specs.declared.names.Segment.{Segment}
use Rattle.draid_machine.specs.Names.{has_name}
use Rattle.draid_machine.specs.State.{Layout, Pass, Loan, State}
use Rattle.draid_machine.specs.Arms.{answers, fails, leaf_at}
use Rattle.draid_machine.specs.Claims.{is_on}
use Rattle.draid_machine.specs.After.{unsourced}

-- a segment of a loan's block in the loan's stripe, on a target that answers there and on whose leaf no call failed
pub record IsMade (l : Layout) (w : State) (n : Loan) (failed : List ℕ) (s : Segment) : Type 0 where
  pub p : Pass
  pub h : Held
  pub pass : w.core.pass ≡ Some p
  pub held : w.core.held n.key ≡ Some h
  pub key : n.key ≡ s.key
  pub stripe : h.first + s.row ≡ n.stripe
  pub target : has_name p.targets s.arm ≡ true
  pub on : is_on l w.core.order s h ≡ true
  pub answers : answers l w.core s.arm n.stripe ≡ true
  pub written : fails l w.core failed s.arm n.stripe ≡ false

-- no more columns of a loan lack a source than there are parity columns, and no reading that was chosen is in doubt in the row of a segment
pub record IsTrusted (l : Layout) (w : State) (n : Loan) (s : Segment) : Type 0 where
  pub enough : unsourced l n ≤ l.parity
  pub readings : (c : ℕ) (m : ArmName) (leaf : ℕ) → n.chosen c ≡ Some m → leaf_at l w.core.order m n.stripe ≡ Some leaf
      → w.aside (record { key = s.key; column = c; arm = m; leaf = leaf; row = s.row }) ≡ false
