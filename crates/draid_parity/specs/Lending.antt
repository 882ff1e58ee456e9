-- Columns that are lent to be written.
use Rattle.std.specs.Prelude.{ℕ, List}
use Rattle.std.specs.Borrow.{Array, Fml, Lends, MutBor, u8}
use Rattle.draid_parity.specs.contracts.column.Column.{the_row as column_row}
use Rattle.draid_parity.specs.contracts.stripe.Stripe.{the_row as stripe_row}
use Rattle.draid_parity.specs.Columns.{StripeValue, with_column, written}

-- a column ends as what was written
abbrev pub LendsBytes : MutBor (List ℕ) → MutBor (List ℕ) → Fml
LendsBytes column r = Lends column_row (Array u8 0) column r (written column.now)

-- a stripe ends with what was written to its column i
abbrev pub LendsColumn : MutBor StripeValue → ℕ → MutBor (List ℕ) → Fml
LendsColumn stripe i r = Lends stripe_row (Array u8 0) stripe r (with_column stripe.now i)
