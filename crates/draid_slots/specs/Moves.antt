-- Which spare arms keep their sectors on other leaves after a change of arms.
use Rattle.std.specs.Prelude.{◌≡◌, ◌≢◌, ◌<◌, ℕ, Bool, true, false, Option, Some, List, [], length, slice_index_or}
use Rattle.std.specs.Option.{option_map}
use Rattle.draid_names.specs.declared.arm.Arm.{Arm}
use Rattle.draid_perm.specs.declared.perms.Perms.{Perms}
use Rattle.draid_names.specs.Spares.{IsArm}
use Rattle.draid_chain.specs.Chain.{holder_in}
use Rattle.draid_chain.specs.Used.{HasColumn, first_in}
use Rattle.draid_slots.specs.declared.moved.Moved.{Moved}
use Rattle.draid_slots.specs.declared.moved.Places.{Places}
use Rattle.draid_slots.specs.Reading.{first_leaf, pool_slice, spare_slot}
use Rattle.draid_slots.specs.Table.{SlotTable, arms_of, first_spare, first_spares, has_spare}

-- whether a spare is among those that moved
abbrev pub has_moved : Moved → ℕ → Bool
has_moved moved spare = slice_index_or moved.spares spare false

-- the number of the first leaf of some arms
abbrev pub leaf_number : List Arm → Option ℕ
leaf_number arms = option_map (λ (arm : Arm). arm.number) (first_leaf arms)

-- the leaf on which a spare arm of a slot keeps a slice
abbrev pub spare_leaf : SlotTable → ℕ → ℕ → ℕ → Option ℕ
spare_leaf table slot spare slice = leaf_number (arms_of table (spare_slot table slot spare slice))

-- A spare that is an arm now keeps its slot's column of some slice on another leaf than it would have before.
pub record HasMoved (old new : SlotTable) (spare : ℕ) : Type 0 where
  pub slot : ℕ
  pub slice : ℕ
  pub arm_is : has_spare (arms_of new slot) spare ≡ true
  pub slice_is : slice < new.geometry.props.slices
  pub column : HasColumn new.perms new.geometry.spec.spares (pool_slice new slice) slot
  pub differs : spare_leaf old slot spare slice ≢ spare_leaf new slot spare slice

-- a spare that is an arm now was first of no other slot
abbrev pub ArmsWere : SlotTable → SlotTable → Type 0
ArmsWere old new = (slot spare : ℕ) → has_spare (arms_of new slot) spare ≡ true → IsArm old.geometry.spec.children old.geometry.spec.spares (first_spares old) slot spare

-- what is kept of some slots' arms: the first spare and the first leaf of each
pub record ArePlaces (arms : List (List Arm)) (places : Places) : Type 0 where
  pub used : (slot : ℕ) → first_in places.used slot ≡ first_spare (slice_index_or arms slot [])
  pub leaves : (slot : ℕ) → slot < length arms → leaf_number (slice_index_or arms slot []) ≡ Some (slice_index_or places.leaves slot 0)
  pub many : length places.used ≡ 64

-- the leaf on which a spare arm of a slot keeps a slice of the pool, by what is kept of the slots' arms
abbrev pub kept_leaf : Places → Perms → ℕ → ℕ → ℕ → ℕ → ℕ
kept_leaf places perms spares slice slot spare =
    slice_index_or places.leaves (holder_in perms spares slice (first_in places.used) slot spare) 0

-- a spare arm of a slot keeps the slot's column of a slice elsewhere by one such list than by the other
pub record LiesElsewhere (before now : Places) (table : SlotTable) (slot spare slice : ℕ) : Type 0 where
  pub column : HasColumn table.perms table.geometry.spec.spares (pool_slice table slice) slot
  pub differs : kept_leaf before table.perms table.geometry.spec.spares (pool_slice table slice) slot spare
      ≢ kept_leaf now table.perms table.geometry.spec.spares (pool_slice table slice) slot spare

-- the same of a spare that is an arm of some slot, and of some slice
pub record Lies (before now : Places) (table : SlotTable) (spare : ℕ) : Type 0 where
  pub slot : ℕ
  pub slice : ℕ
  pub arm_is : has_spare (arms_of table slot) spare ≡ true
  pub slice_is : slice < table.geometry.props.slices
  pub elsewhere : LiesElsewhere before now table slot spare slice
