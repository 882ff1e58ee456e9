-- A scrub that runs, and the block that it has lent.
use Rattle.std.specs.Prelude.{◌≡◌, true, Some}
use Rattle.draid_names.specs.declared.pass_kind.PassKind.TheVariants.{Heal}
use Rattle.draid_machine.specs.Names.{is_block}
use Rattle.draid_machine.specs.declared.names.Stage.{Stage}
use Rattle.draid_entries.specs.Entries.{entry_at}
use Rattle.draid_entries.specs.Maps.{staged}
use Rattle.draid_entries.specs.declared.entries.Entries.{Entries}
use Rattle.draid_pass.specs.declared.pass.Pass.{Pass}
use Rattle.draid_shard.specs.declared.loan.KeptLoan.{KeptLoan}
use Rattle.draid_shard.specs.declared.loan.KeptLoan.TheVariants.{Block, Stripe}
use Rattle.draid_shard.specs.declared.loan.LentBlock.{LentBlock}
use Rattle.draid_shard.specs.declared.shard.Shard.{Shard}

-- a scrub that runs
pub record IsRunningScrub (pass : Pass) : Type 0 where
  pub scrub : pass.kind ≡ Heal
  pub running : pass.running ≡ true

-- ---- the block that is lent

-- it is in the table, live or freed
pub record IsBlockHere (entries : Entries) (lent : LentBlock) : Type 0 where
  pub stage : Stage
  pub there : entry_at entries lent.pointer.first ≡ Some (staged stage lent.pointer)
  pub block : is_block stage ≡ true

abbrev pub IsHere : Entries → KeptLoan → Type 0
IsHere entries (Stripe lent) = ⊥
IsHere entries (Block lent) = IsBlockHere entries lent

-- there is one, of a block in the table
abbrev pub IsLentHere : {R A : Type 0} → Shard R A → Type 0
IsLentHere shard = (kept : KeptLoan) × (shard.kept ≡ Some kept) × IsHere shard.entries kept
