-- The block of a loan is restored.
use Rattle.std.specs.Prelude.{◌≡◌, ℕ, List, Option, None, Some, Ok, Err, IfSome, IsSome, slice_index}
use Rattle.draid_spec.specs.declared.layout.Geometry.{Geometry}
use Rattle.draid_gf.specs.Field.{IsByte}
use Rattle.draid_block.specs.Blocks.{AreColumns, BlockValue, cut_of}
use Rattle.draid_block.specs.Solving.{IsReadable, RestoresBlock}
use Rattle.draid_block.specs.declared.solve.Fetched.{Fetched}
use Rattle.draid_block.specs.declared.solve.SolveFault.TheVariants.{Unreadable}
use Rattle.draid_shard.specs.declared.loan.KeptLoan.{KeptLoan}
use Rattle.draid_shard.specs.declared.loan.KeptLoan.TheVariants.{Block, Stripe}
use Rattle.draid_shard.specs.declared.loan.LentBlock.{LentBlock}

-- what was read of the block
abbrev pub fetched_of : LentBlock → Fetched
fetched_of lent = record { pointer = lent.pointer; columns = lent.columns }

-- an answer: a block, or that no columns restore one
abbrev pub AnswersBlock : Geometry → Fetched → Option BlockValue → Type 0
AnswersBlock geometry fetched (Some block) = RestoresBlock (cut_of geometry) fetched (Ok block)
AnswersBlock geometry fetched None = (absent : ℕ) × (tried : ℕ) × RestoresBlock (cut_of geometry) fetched (Err (Unreadable absent tried))

-- the block's bytes are bytes, and its columns are theirs
pub record HasColumnsOf (block : BlockValue) : Type 0 where
  pub bytes : (j : ℕ) → IsByte (slice_index block.bytes j)
  pub are : AreColumns block.cut block.bytes block.columns

-- The block was restored of what was read, or none was; with few enough bad columns it was.
pub record RestoresLent (geometry : Geometry) (lent : LentBlock) (new : Option KeptLoan) : Type 0 where
  pub block : Option BlockValue
  pub is : new ≡ Some (Block (record lent { restored = block }))
  pub answers : AnswersBlock geometry (fetched_of lent) block
  pub cut : IfSome block HasColumnsOf
  pub readable : (w bad : List ℕ) → IsReadable (cut_of geometry) (fetched_of lent) w bad → IsSome block

-- so that of the loan that counts; that of a rebuild stays
abbrev pub RestoresLoan : Geometry → Option KeptLoan → Option KeptLoan → Type 0
RestoresLoan geometry None new = new ≡ None
RestoresLoan geometry (Some (Stripe lent)) new = new ≡ Some (Stripe lent)
RestoresLoan geometry (Some (Block lent)) new = RestoresLent geometry lent new

-- it stays as it was, not restored
abbrev pub StaysLent : Option KeptLoan → Option KeptLoan → Type 0
StaysLent None new = new ≡ None
StaysLent (Some (Stripe lent)) new = new ≡ Some (Stripe lent)
StaysLent (Some (Block lent)) new = new ≡ Some (Block (record lent { restored = None }))
