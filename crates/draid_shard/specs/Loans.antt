-- The loan that counts, as a shard keeps it.
use Rattle.std.specs.Prelude.{◌≡◌, ◌==◌, ◌+◌, ◌*◌, ◌<◌, ◌≤◌, [], ℕ, List, Option, Some, None, IfSome, filter, length, map, option_map, slice_get, slice_index_or, vec_capacity}
use Rattle.draid_names.specs.declared.pass_kind.PassKind.TheVariants.{Heal, Rebuild}
use Rattle.draid_block.specs.Blocks.{BlockValue, cut_of}
use Rattle.draid_block.specs.Solving.{IsFetched}
use Rattle.draid_spec.specs.declared.layout.Geometry.{Geometry}
use Rattle.draid_spec.specs.Geometry.{metaslab_stripes}
use Rattle.draid_parity.specs.Columns.{StripeValue}
use Rattle.draid_machine.specs.declared.event.Patched.{Patched}
use Rattle.draid_machine.specs.declared.names.ArmName.{ArmName}
use Rattle.draid_machine.specs.State as machine
use Rattle.draid_machine.specs.Step.{to_list}
use Rattle.draid_entries.specs.Maps.{key_of}
use Rattle.draid_pass.specs.declared.pass.Pass.{Pass}
use Rattle.draid_shard.specs.Part.{IsRun}
use Rattle.draid_shard.specs.declared.loan.KeptLoan.{KeptLoan}
use Rattle.draid_shard.specs.declared.loan.KeptLoan.TheVariants.{Block, Stripe}
use Rattle.draid_shard.specs.declared.loan.LandingRoom.{LandingRoom}
use Rattle.draid_shard.specs.declared.loan.LentBlock.{LentBlock}
use Rattle.draid_shard.specs.declared.loan.LentStripe.{LentStripe}
use Rattle.draid_shard.specs.declared.loan.ReadArm.{ReadArm}
use Rattle.draid_shard.specs.declared.loan.Source.{Source}

-- ---- as a state has it

-- the arm from which a column was taken
abbrev pub chosen_at : List (Option Source) → ℕ → Option ArmName
chosen_at chosen column = option_map (λ (source : Source). source.arm) (slice_index_or chosen column None)

-- the arms from which a column was read
abbrev pub read_at : List ReadArm → ℕ → List ArmName
read_at read column = map (λ (one : ReadArm). one.arm) (filter (λ (one : ReadArm). one.column == column) read)

-- a rebuild reads a column from one arm alone
abbrev pub stripe_loan : LentStripe → machine.Loan
stripe_loan lent = record {
  key = key_of lent.pointer;
  stripe = lent.stripe;
  serial = lent.serial;
  read = λ column. to_list (chosen_at lent.chosen.items column);
  chosen = chosen_at lent.chosen.items;
}

abbrev pub block_loan : LentBlock → machine.Loan
block_loan lent = record {
  key = key_of lent.pointer;
  stripe = lent.stripe;
  serial = lent.serial;
  read = read_at lent.read.items;
  chosen = λ column. slice_index_or lent.chosen.items column None;
}

-- the loan of a state
abbrev pub loan_in : KeptLoan → machine.Loan
loan_in (Stripe lent) = stripe_loan lent
loan_in (Block lent) = block_loan lent

-- a landing is owed for it
abbrev pub owed_for_loan : Option KeptLoan → ℕ
owed_for_loan None = 0
owed_for_loan (Some kept) = 1

-- ---- what is kept

-- as many columns as the layout has
pub record HasColumns (geometry : Geometry) (columns : StripeValue) : Type 0 where
  pub parity : columns.parity ≡ geometry.spec.parity
  pub ndata : columns.ndata ≡ geometry.spec.ndata

-- A rebuild has lent it. It says of each column of the layout whence it was taken, has a sector of each, and room for each call of its landing that may fail.
pub record IsLentStripe (geometry : Geometry) (pass : Option Pass) (lent : LentStripe) : Type 0 where
  pub lender : Pass
  pub there : pass ≡ Some lender
  pub kind : lender.kind ≡ Rebuild
  pub inside : lent.stripe < metaslab_stripes geometry
  pub chosen : length lent.chosen.items ≡ geometry.g
  pub columns : HasColumns geometry lent.columns
  pub sector : lent.columns.len ≡ geometry.props.sector
  pub room : geometry.g * length lender.targets.items ≤ vec_capacity lent.failed

-- no slot has more arms
abbrev pub most_arms : ℕ
most_arms = 3

-- room for what is noted of so many rows
pub record IsRowRoom (rows : ℕ) (part : Patched) : Type 0 where
  pub unwritten : part.written.items ≡ []
  pub unlanded : part.landed.items ≡ []
  pub written_room : rows ≤ vec_capacity part.written
  pub landed_room : rows ≤ vec_capacity part.landed

-- so of each
abbrev pub AreRooms : ℕ → List Patched → Type 0
AreRooms count parts = (k : ℕ) (part : Patched) → slice_get parts k ≡ Some part → IsRowRoom count part

-- room for a landing on all arms of all columns: on each a call of a row may fail in reading and in writing, and the flush
pub record IsLandingRoom (geometry : Geometry) (rows : ℕ) (room : LandingRoom) : Type 0 where
  pub spots : most_arms * geometry.g ≤ vec_capacity room.spots
  pub sector : length room.sector.items ≡ geometry.props.sector
  pub enough : most_arms * geometry.g ≤ length room.parts.items
  pub parts : AreRooms rows room.parts.items
  pub empty : room.patched.items ≡ []
  pub patched : most_arms * geometry.g ≤ vec_capacity room.patched
  pub none : room.failed.items ≡ []
  pub failed : most_arms * geometry.g * (2 * rows + 1) ≤ vec_capacity room.failed

-- the block as it was restored is cut as the layout says, and as long as its pointer
pub record IsRestoredBlock (geometry : Geometry) (len : ℕ) (block : BlockValue) : Type 0 where
  pub cut : block.cut ≡ cut_of geometry
  pub long : length block.bytes ≡ len

-- A scrub has lent it. Its pointer's stripes are those of a block, with a reading of each column or none.
pub record IsLentBlock (geometry : Geometry) (pass : Option Pass) (lent : LentBlock) : Type 0 where
  pub lender : Pass
  pub there : pass ≡ Some lender
  pub kind : lender.kind ≡ Heal
  pub run : IsRun geometry lent.pointer.first lent.pointer.stripes
  pub chosen : length lent.chosen.items ≡ geometry.g
  pub fetched : IsFetched (cut_of geometry) (record { pointer = lent.pointer; columns = lent.columns })
  pub restored : IfSome lent.restored (IsRestoredBlock geometry lent.pointer.len)
  pub room : IsLandingRoom geometry lent.pointer.stripes lent.room

abbrev pub IsKept : Geometry → Option Pass → KeptLoan → Type 0
IsKept geometry pass (Stripe lent) = IsLentStripe geometry pass lent
IsKept geometry pass (Block lent) = IsLentBlock geometry pass lent

-- room for the leaves of all arms
abbrev pub HasFlushRoom : ℕ → Option Pass → ℕ → Type 0
HasFlushRoom children None room = Unit {0}
HasFlushRoom children (Some pass) room = most_arms * children ≤ room
