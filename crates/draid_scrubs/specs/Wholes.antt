use Rattle.std.specs.Prelude.{◌≡◌, ◌<◌, ℕ, true, false, List}
use Rattle.draid_machine.specs.declared.names.ArmName.{ArmName}
use Rattle.draid_machine.specs.declared.names.Held.{Held}
use Rattle.draid_machine.specs.declared.event.Patched.{Patched}
use Rattle.draid_machine.specs.Names.{has_name}
use Rattle.draid_machine.specs.State.{Layout, Core}
use Rattle.draid_machine.specs.After.{was_written}
use Rattle.draid_machine.specs.Arms.{answers, fails, is_clean}

-- what holds of each arm of a list
abbrev pub AreOn : (ArmName → Type 0) → List ArmName → Type 0
AreOn P names = (n : ArmName) → has_name names n ≡ true → P n

-- on an arm that answers and isn't clean all rows are written
abbrev pub IsArmPatched : Layout → Core → Held → List Patched → ℕ → ArmName → Type 0
IsArmPatched l q h patched c n = answers l q n h.first ≡ true → is_clean q h.birth n ≡ false → (r : ℕ) → r < h.stripes → was_written patched c n r ≡ true

abbrev pub AreColumnsPatched : Layout → Core → Held → List Patched → ℕ → Type 0
AreColumnsPatched l q h patched columns = (c : ℕ) → c < columns → AreOn (IsArmPatched l q h patched c) (q.order (l.slot_of h.first c))

-- an arm that is clean answers, and no call on it failed
abbrev pub IsArmWhole : Layout → Core → Held → List ℕ → ArmName → Type 0
IsArmWhole l q h failed n = is_clean q h.birth n ≡ true → (answers l q n h.first ≡ true) × (fails l q failed n h.first ≡ false)

abbrev pub AreColumnsWhole : Layout → Core → Held → List ℕ → ℕ → Type 0
AreColumnsWhole l q h failed columns = (c : ℕ) → c < columns → AreOn (IsArmWhole l q h failed) (q.order (l.slot_of h.first c))
