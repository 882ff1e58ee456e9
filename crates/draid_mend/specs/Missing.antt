-- The columns of a loan that were read from no source.
use Rattle.std.specs.Prelude.{◌≡◌, ◌<◌, ◌≤◌, ◌++◌, ◌∷◌, [], ℕ, zero, suc, List, Option, None, Some, is_none, length, slice_index_or, if◌then◌else◌}
use Rattle.draid_parity.specs.Columns.{StripeValue}
use Rattle.draid_spec.specs.Geometry.{IsGeometry}
use Rattle.draid_spec.specs.declared.layout.Geometry.{Geometry}
use Rattle.draid_shard.specs.declared.loan.KeptLoan.{KeptLoan}
use Rattle.draid_shard.specs.declared.loan.KeptLoan.TheVariants.{Block, Stripe}
use Rattle.draid_shard.specs.declared.loan.LentStripe.{LentStripe}
use Rattle.draid_shard.specs.declared.loan.Source.{Source}
use Rattle.draid_mend.specs.Solving.{IsOneSector, SolvesRow}

-- the first so many columns that were, ascending
abbrev pub missing_in : List (Option Source) → ℕ → List ℕ
missing_in chosen zero = []
missing_in chosen (suc c) = if is_none (slice_index_or chosen c None) then missing_in chosen c ++ c ∷ [] else missing_in chosen c

abbrev pub missing_of : LentStripe → List ℕ
missing_of kept = missing_in kept.chosen.items (length kept.chosen.items)

-- The missing columns were solved, where they are no more than the parity columns, and else none was.
pub record SolvesKept (kept : LentStripe) (solved : StripeValue) : Type 0 where
  pub few : length (missing_of kept) ≤ kept.columns.parity → (geometry : Geometry) → IsGeometry geometry → IsOneSector geometry kept.columns → SolvesRow geometry (missing_of kept) kept.columns solved
  pub many : kept.columns.parity < length (missing_of kept) → solved ≡ kept.columns

-- so those of the loan that counts, of which nothing else changed. A scrub's block stays as it is
abbrev pub SolvesLoan : Geometry → Option KeptLoan → Option KeptLoan → Type 0
SolvesLoan geometry None new = new ≡ None
SolvesLoan geometry (Some (Stripe kept)) new = (solved : StripeValue) × (new ≡ Some (Stripe (record kept { columns = solved }))) × SolvesKept kept solved
SolvesLoan geometry (Some (Block lent)) new = new ≡ Some (Block lent)
