-- What a whole landing settles, arm by arm.
use Rattle.std.specs.Prelude.{◌≡◌, ◌+◌, ◌<◌, ◌⊎◌, ℕ, true, false, List, Some, slice_get}
use Rattle.draid_machine.specs.Names.{has_number}
use Rattle.draid_machine.specs.declared.event.Patched.{Patched}
use Rattle.draid_rack.specs.Moments.{ChangesOnly}
use Rattle.draid_rack.specs.Rack.{Told}
use Rattle.draid_heal.specs.Stands.{SettledAt, is_settled_row}
use Rattle.draid_shard.specs.declared.loan.Spot.{Spot}

-- no call failed on the leaf of a clean arm
abbrev pub AreFine : List Spot → List ℕ → Type 0
AreFine spots failed = (k : ℕ) (spot : Spot) → slice_get spots k ≡ Some spot → spot.clean ≡ true → has_number failed spot.leaf ≡ false

module _ (count : ℕ) (spots : List Spot) (patched : List Patched) where
  -- nothing is soft of what is to be settled
  abbrev pub FirmArms : Told → Type 0
  FirmArms y = (k r : ℕ) (spot : Spot) (part : Patched) → slice_get spots k ≡ Some spot → slice_get patched k ≡ Some part → r < count → is_settled_row spot part r ≡ true
      → y.soft spot.leaf (spot.first + r) ≡ false

  -- the first so many arms, and so many rows of the next, were settled
  pub record SettlesUpto (i row : ℕ) (y z : Told) : Type 0 where
    pub only : ChangesOnly (λ m s. false) y z
    pub harm : (m s : ℕ) → (z.harmed m s ≡ y.harmed m s) ⊎ SettledAt count spots patched m s
    pub ended : (k r : ℕ) (spot : Spot) (part : Patched) → slice_get spots k ≡ Some spot → slice_get patched k ≡ Some part → r < count → is_settled_row spot part r ≡ true
        → (k < i) ⊎ ((k ≡ i) × (r < row)) → z.harmed spot.leaf (spot.first + r) ≡ false
