-- What lands of a stripe is its block's, and harmed just where it was made of something harmed.
use Rattle.std.specs.Prelude.{◌≡◌, ◌+◌, ◌<◌, ◌↔◌, ◌++◌, ◌∷◌, [], ℕ, zero, suc, false, true, List, Option, Some, None, Contains, IsSome, is_none, slice_index_or, if◌then◌else◌}
use Rattle.draid_names.specs.declared.arm.At.{At}
use Rattle.draid_machine.specs.After.{is_chosen_aside, is_source_aside}
use Rattle.draid_machine.specs.Arms.{leaf_at}
use Rattle.draid_machine.specs.Names.{has_name}
use Rattle.draid_machine.specs.State as machine
use Rattle.draid_machine.specs.declared.names.ArmName.{ArmName}
use Rattle.draid_machine.specs.declared.names.Held.{Held}
use Rattle.draid_machine.specs.declared.names.Segment.{Segment}
use Rattle.draid_parity.specs.Columns.{StripeValue, column_at}
use Rattle.draid_rack.specs.Rack.{Told}
use Rattle.draid_segments.specs.Acts.{is_chosen_harmed, is_source_harmed}
use Rattle.draid_segments.specs.Segments.{Pieces, piece_of}
use Rattle.draid_shard.specs.Part.{Part, layout_in}
use Rattle.draid_shard.specs.declared.loan.Source.{Source}

-- the sector from which a column of a loan was taken, if it was
abbrev pub sector_on : Option ℕ → ℕ → List At
sector_on None sector = []
sector_on (Some leaf) sector = record { leaf = leaf; sector = sector } ∷ []

abbrev pub sector_of_arm : machine.Layout → machine.Core → machine.Loan → ℕ → Option ArmName → List At
sector_of_arm l q n c None = []
sector_of_arm l q n c (Some m) = sector_on (leaf_at l q.order m n.stripe) (l.sector_of n.stripe c)

abbrev pub sectors_below : machine.Layout → machine.Core → machine.Loan → ℕ → List At
sectors_below l q n zero = []
sectors_below l q n (suc c) = sectors_below l q n c ++ sector_of_arm l q n c (n.chosen c)

-- the sectors of which a column is made: its own source, or where it has none all that were read
abbrev pub sources_of : machine.Layout → machine.Core → machine.Loan → ℕ → List At
sources_of l q n c = if is_none (n.chosen c) then sectors_below l q n l.columns else sector_of_arm l q n c (n.chosen c)

-- the source of a column of a stripe is an arm of its slot, keeps the stripe on the leaf that was read, and is no target
pub record IsApartSource (part : Part) (w : machine.State) (stripe c : ℕ) (source : Source) : Type 0 where
  pub listed : has_name (w.core.order ((layout_in part).slot_of stripe c)) source.arm ≡ true
  pub lies : leaf_at (layout_in part) w.core.order source.arm stripe ≡ Some source.leaf
  pub apart : (p : machine.Pass) → w.core.pass ≡ Some p → has_name p.targets source.arm ≡ false

abbrev pub AreApartSources : Part → machine.State → ℕ → List (Option Source) → Type 0
AreApartSources part w stripe chosen = (c : ℕ) (source : Source) → c < part.geometry.g → slice_index_or chosen c None ≡ Some source → IsApartSource part w stripe c source

-- The loan fact: what was read of a column is its block's piece, where that is known, unless the sector is harmed or the segment in doubt.
abbrev pub LoanStands : machine.Layout → machine.State → machine.Loan → Held → Pieces → StripeValue → Told → Type 0
LoanStands l w n h pieces read x = (c : ℕ) (m : ArmName) (s : Segment) → c < l.columns → n.chosen c ≡ Some m → n.key ≡ s.key → h.first + s.row ≡ n.stripe
    → is_chosen_harmed l w.core x n c (Some m) ≡ false → is_chosen_aside l w n s c (Some m) ≡ false
    → IsSome (pieces n.key c s.row) → Some (column_at read.columns c) ≡ pieces n.key c s.row

-- just the columns are missing that weren't taken
abbrev pub AreMissing : machine.Layout → machine.Loan → List ℕ → Type 0
AreMissing l n missing = (c : ℕ) → c < l.columns → (Contains missing c ↔ (n.chosen c ≡ None))

-- a solved column is the piece of a segment of the stripe, where that is known and nothing of which it was made is harmed or in doubt
abbrev pub IsRight : machine.Layout → machine.State → machine.Loan → Held → Pieces → StripeValue → Told → Segment → Type 0
IsRight l w n h pieces solved x s = s.column < l.columns → n.key ≡ s.key → h.first + s.row ≡ n.stripe → is_source_harmed l w.core x n s ≡ false → is_source_aside l w n s ≡ false
    → IsSome (piece_of pieces s) → Some (column_at solved.columns s.column) ≡ piece_of pieces s
