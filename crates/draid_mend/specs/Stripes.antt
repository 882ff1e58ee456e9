-- What lands of all columns of a stripe.
use Rattle.std.specs.Prelude.{◌≡◌, ◌<◌, ◌++◌, ◌∷◌, [], ℕ, zero, suc, Bool, true, false, List, Option, Some, None, length, slice_get, slice_index_or}
use Rattle.draid_spec.specs.Geometry.{slice_at}
use Rattle.draid_names.specs.declared.arm.ArmAt.{ArmAt}
use Rattle.draid_names.specs.declared.arm.At.{At}
use Rattle.draid_names.specs.declared.pointer.Pointer.{Pointer}
use Rattle.draid_machine.specs.Names.{any_below, has_number}
use Rattle.draid_parity.specs.Columns.{column_at}
use Rattle.draid_rack.specs.Moments.{Leaves}
use Rattle.draid_rack.specs.Rack.{Told}
use Rattle.draid_slots.specs.Table.{SlotTable, is_logged}
use Rattle.draid_shard.specs.Part.{Part, layout_in}
use Rattle.draid_shard.specs.declared.loan.Source.{Source}
use Rattle.draid_shard.specs.declared.places.ColumnRows.{ColumnRows}
use Rattle.draid_mend.specs.Targets.{AllAnswer, AreFree, KeepsAt, StandsMended, mended_below}

-- the rows of a column
abbrev pub rows_at : Part → Pointer → ℕ → ColumnRows
rows_at part pointer c = record {
  slot = (layout_in part).slot_of pointer.first c;
  slice = slice_at part.geometry ((layout_in part).sector_of pointer.first c);
  first = (layout_in part).sector_of pointer.first c;
  count = pointer.stripes;
  size = part.geometry.props.sector;
  birth = pointer.birth;
}

-- ---- of what a column is made

abbrev pub source_at : Part → Pointer → ℕ → Option Source → List At
source_at part pointer c None = []
source_at part pointer c (Some source) = record { leaf = source.leaf; sector = (layout_in part).sector_of pointer.first c } ∷ []

abbrev pub sources_below : Part → Pointer → List (Option Source) → ℕ → List At
sources_below part pointer chosen zero = []
sources_below part pointer chosen (suc c) = sources_below part pointer chosen c ++ source_at part pointer c (slice_index_or chosen c None)

-- its own source, or where it has none all that were read
abbrev pub own_or_all : Part → Pointer → List (Option Source) → ℕ → Option Source → List At
own_or_all part pointer chosen c None = sources_below part pointer chosen part.geometry.g
own_or_all part pointer chosen c (Some source) = source_at part pointer c (Some source)

abbrev pub sources_for : Part → Pointer → List (Option Source) → ℕ → List At
sources_for part pointer chosen c = own_or_all part pointer chosen c (slice_index_or chosen c None)

-- each target lacks a group, so that it is no source
abbrev pub HasNoSource : SlotTable → List ArmAt → Type 0
HasNoSource slots targets = (k : ℕ) (at : ArmAt) → slice_get targets k ≡ Some at → (group : ℕ) × (is_logged slots at group ≡ true)

-- ---- the first so many columns

module _ (part : Part) (slots : SlotTable) (pointer : Pointer) (targets : List ArmAt) where
  abbrev pub landed_below : ℕ → ℕ → ℕ → Bool
  landed_below count leaf sector = any_below count (λ c. mended_below slots (rows_at part pointer c) targets (length targets) leaf sector)

  -- a target of the column's slot answers, and keeps it on this leaf
  abbrev pub KeepsColumn : ℕ → ℕ → Type 0
  KeepsColumn c leaf = KeepsAt slots (rows_at part pointer c) targets (length targets) leaf

  -- no two columns come to lie on one leaf
  abbrev pub AreColumnsApart : Type 0
  AreColumnsApart = (c d leaf : ℕ) → c < part.geometry.g → d < part.geometry.g → KeepsColumn c leaf → KeepsColumn d leaf → c ≡ d

  -- The columns were mended on their targets: each stands on each target on whose leaf no call failed, harmed just where one of its sources was. Nothing
  -- else changed.
  pub record LandsBelow (count : ℕ) (columns : List (List ℕ)) (chosen : List (Option Source)) (failed : List ℕ) (x y : Told) : Type 0 where
    pub leaves : Leaves (landed_below count) x y
    pub each : AreColumnsApart → ((c : ℕ) → c < count → AreFree (landed_below count) (sources_for part pointer chosen c)) → (c leaf : ℕ) → c < count → KeepsColumn c leaf
        → has_number failed leaf ≡ false → StandsMended leaf ((layout_in part).sector_of pointer.first c) (column_at columns c) (sources_for part pointer chosen c) x y

  -- the list of failed leaves gains just leaves of such targets
  pub record FailsColumns (count : ℕ) (before failed : List ℕ) : Type 0 where
    pub kept : (leaf : ℕ) → has_number before leaf ≡ true → has_number failed leaf ≡ true
    pub fail : (leaf : ℕ) → has_number failed leaf ≡ true → has_number before leaf ≡ false → (c : ℕ) × (c < count) × KeepsColumn c leaf

  -- each target of the slots of the first so many columns answers
  abbrev pub AnswerBelow : ℕ → Type 0
  AnswerBelow count = (c : ℕ) → c < count → AllAnswer slots (rows_at part pointer c) targets (length targets)
