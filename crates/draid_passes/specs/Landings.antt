use Rattle.std.specs.Prelude.{◌≡◌, ℕ, true, List, Some}
use Rattle.draid_names.specs.declared.pass_kind.PassKind.{PassKind}
use Rattle.draid_machine.specs.declared.names.ArmName.{ArmName}
use Rattle.draid_machine.specs.declared.names.Held.{Held}
use Rattle.draid_machine.specs.Names.{has_name}
use Rattle.draid_machine.specs.State.{Layout, Core, Pass, Loan, State}
use Rattle.draid_machine.specs.Arms.{leaf_answers, leaf_at}
use Rattle.draid_machine.specs.Step.{Counts}

-- the loan of a pass of a kind that counts under these numbers, and its block
pub record Lands (w : State) (kind : PassKind) (pass serial : ℕ) (h : Held) : Type 0 where
  pub p : Pass
  pub n : Loan
  pub counts : Counts w pass serial p n h
  pub kind_is : p.kind ≡ kind

-- a leaf that answers, and keeps what belongs to a stripe for an arm of a list
pub record IsAnswering (l : Layout) (q : Core) (names : List ArmName) (x leaf : ℕ) : Type 0 where
  pub arm : ArmName
  pub listed : has_name names arm ≡ true
  pub lies : leaf_at l q.order arm x ≡ Some leaf
  pub answers : leaf_answers q leaf ≡ true
