-- The answers of `fetch` to a block that is live are others than to one that isn't.
use Rattle.std.proofs.Common.{◌≡◌, ℕ, Err, Ok, Result}
use Rattle.draid_block.specs.declared.solve.Fetched.{Fetched}
use Rattle.draid_blocks.specs.declared.fault.FetchFault.{FetchFault}
use Rattle.draid_blocks.specs.declared.fault.FetchFault.TheVariants.{NoMemory, NotLive, Worn}

pub memory_is_other : ◌≡◌ {A = Result Fetched FetchFault} (Err NoMemory) (Err NotLive) → ⊥
memory_is_other same = absurd (cc)

pub worn_is_other : (events : ℕ) → ◌≡◌ {A = Result Fetched FetchFault} (Err (Worn events)) (Err NotLive) → ⊥
worn_is_other events same = absurd (cc)

pub fetched_is_other : (fetched : Fetched) → ◌≡◌ {A = Result Fetched FetchFault} (Ok fetched) (Err NotLive) → ⊥
fetched_is_other fetched same = absurd (cc)
