-- What a lend asks for, and why none is lent.
use Rattle.std.specs.Prelude.{◌≡◌, ◌+◌, ⊤, ℕ, Option, None, Some}
use Rattle.draid_entries.specs.History.{owed_of, stored_of}
use Rattle.draid_pass.specs.declared.pass.Pass.{Pass}
use Rattle.draid_shard.specs.Rooms.{IsWornFor}
use Rattle.draid_shard.specs.declared.loan.KeptLoan.{KeptLoan}
use Rattle.draid_shard.specs.declared.loan.LendFault.{LendFault}
use Rattle.draid_shard.specs.declared.loan.LendFault.TheVariants.{NoMemory, Worn}
use Rattle.draid_shard.specs.declared.shard.Shard.{Shard}

-- a lend asks for its own event, and for the landing's where none is owed yet
abbrev pub lend_events : Option KeptLoan → ℕ
lend_events None = 2
lend_events (Some kept) = 1

-- why none is lent, though something is left
abbrev pub IsLendRefused : {R A : Type 0} → Shard R A → LendFault → Type 0
IsLendRefused shard (Worn events) = IsWornFor shard (lend_events shard.kept) × (events ≡ stored_of shard.history + owed_of shard.history)
IsLendRefused shard NoMemory = ⊤

-- a pass goes on at a stripe, with the targets that it has left
pub record GoesOnAt (stripe : ℕ) (old new : Pass) : Type 0 where
  pub number : new.number ≡ old.number
  pub kind : new.kind ≡ old.kind
  pub max : new.max ≡ old.max
  pub running : new.running ≡ old.running
  pub at : new.at ≡ stripe
