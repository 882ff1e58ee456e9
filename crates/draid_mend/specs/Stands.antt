-- A rebuild's stripe landed as the state machine says.
use Rattle.std.specs.Prelude.{◌≡◌, ◌+◌, ◌<◌, ℕ, List, Some}
use Rattle.draid_names.specs.declared.pointer.Pointer.{Pointer}
use Rattle.draid_machine.specs.State as machine
use Rattle.draid_machine.specs.declared.names.Held.{Held}
use Rattle.draid_machine.specs.declared.names.Key.{Key}
use Rattle.draid_parity.specs.Columns.{StripeValue}
use Rattle.draid_rack.specs.Rack.{Told}
use Rattle.draid_segments.specs.Segments.{Pieces}
use Rattle.draid_shard.specs.Part.{IsRun, Part, layout_in}
use Rattle.draid_mend.specs.Landing.{AreMissing, LoanStands}
use Rattle.draid_mend.specs.Solving.{HasKnownContent, SolvesRow}

-- a stripe of a block that is held, within the block
pub record IsStripeOf (part : Part) (w : machine.State) (key : Key) (h : Held) (row : ℕ) (pointer : Pointer) : Type 0 where
  pub held : w.core.held key ≡ Some h
  pub whole : IsRun part.geometry h.first h.stripes
  pub inside : row < h.stripes
  pub first : h.first + row ≡ pointer.first
  pub run : IsRun part.geometry pointer.first pointer.stripes

-- the columns are right: the loan fact holds of what was read, and the missing ones were solved
pub record IsSolved (part : Part) (w : machine.State) (n : machine.Loan) (h : Held) (pieces : Pieces) (read solved : StripeValue) (missing : List ℕ) (x : Told) : Type 0 where
  pub are : AreMissing (layout_in part) n missing
  pub stands : LoanStands (layout_in part) w n h pieces read x
  pub solves : SolvesRow part.geometry missing read solved
  pub content : HasKnownContent part.geometry h.stripes n.key pieces
