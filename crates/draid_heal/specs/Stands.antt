-- A restored block landed as the state machine says.
use Rattle.std.specs.Prelude.{◌≡◌, ◌+◌, ◌<◌, ◌||◌, ◌⊎◌, ℕ, Bool, true, false, List, Some, length, slice_get}
use Rattle.draid_machine.specs.Names.{has_number}
use Rattle.draid_machine.specs.declared.event.Patched.{Patched}
use Rattle.draid_rack.specs.Moments.{ChangesOnly}
use Rattle.draid_rack.specs.Rack.{Told}
use Rattle.draid_heal.specs.Arms.{HealsArms}
use Rattle.draid_shard.specs.declared.loan.Spot.{Spot}

-- ---- what a whole landing settles

abbrev pub is_settled_row : Spot → Patched → ℕ → Bool
is_settled_row spot part r = spot.clean || has_number part.landed.items r

pub record SettledAt (count : ℕ) (spots : List Spot) (patched : List Patched) (leaf sector : ℕ) : Type 0 where
  pub k : ℕ
  pub r : ℕ
  pub spot : Spot
  pub part : Patched
  pub there : slice_get spots k ≡ Some spot
  pub noted : slice_get patched k ≡ Some part
  pub row : r < count
  pub is : is_settled_row spot part r ≡ true
  pub leaf_is : spot.leaf ≡ leaf
  pub sector_is : spot.first + r ≡ sector

-- The harm of the rows on clean arms and of what landed ended where the landing was whole. Nothing else changed.
pub record SettlesArms (count : ℕ) (spots : List Spot) (patched : List Patched) (whole : Bool) (y z : Told) : Type 0 where
  pub only : ChangesOnly (λ m s. false) y z
  pub harm : (m s : ℕ) → (z.harmed m s ≡ y.harmed m s) ⊎ ((whole ≡ true) × SettledAt count spots patched m s)
  pub ended : whole ≡ true → (k r : ℕ) (spot : Spot) (part : Patched) → slice_get spots k ≡ Some spot → slice_get patched k ≡ Some part → r < count → is_settled_row spot part r ≡ true
      → z.harmed spot.leaf (spot.first + r) ≡ false

-- all of it: the columns were put right on each arm, and settled
pub record LandsRows (count size : ℕ) (spots : List Spot) (patched : List Patched) (columns : List (List ℕ)) (failed : List ℕ) (whole : Bool) (x z : Told) : Type 0 where
  pub y : Told
  pub heals : HealsArms count size spots patched columns (length spots) failed x y
  pub settles : SettlesArms count spots patched whole y z
