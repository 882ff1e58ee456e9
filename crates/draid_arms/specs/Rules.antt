use Rattle.std.specs.Prelude.{◌≡◌, ◌<◌, ◌&&◌, Some, None, length, not, ℕ, Bool, true, false, List, [], ◌∷◌, max}
use Rattle.draid_machine.specs.declared.names.Key.{Key}
use Rattle.draid_machine.specs.declared.names.ArmName.{ArmName}
use Rattle.draid_machine.specs.declared.names.ArmName.TheVariants.{Leaf}
use Rattle.draid_machine.specs.declared.names.Held.{Held}
use Rattle.draid_machine.specs.Names.{has_name, name_eq, is_leaf, up_to}
use Rattle.draid_machine.specs.State as state
use Rattle.draid_machine.specs.Arms.{HasEmptyLog}
use Rattle.draid_machine.specs.Step.{HasOther, IsArmName, LeavesLeaf}

-- a leaf other than this arm
abbrev pub is_other_leaf : ArmName → ArmName → Bool
is_other_leaf n m = is_leaf m && not (name_eq n m)

-- another arm of a list has an empty log
abbrev pub IsOtherClean : state.Core → List ArmName → ArmName → Type 0
IsOtherClean q ns n = (m : ArmName) × (has_name ns m ≡ true) × (name_eq n m ≡ false) × HasEmptyLog q m

-- the greatest of a group and the births of entries
abbrev pub greatest : ℕ → List (Key × Held) → ℕ
greatest group [] = group
greatest group (e ∷ es) = greatest (max group e.1.birth) es

-- a list with a leaf has another one than it
abbrev pub IsLeafLeft : List ArmName → ArmName → Type 0
IsLeafLeft ns n = is_leaf n ≡ true → (m : ℕ) × (has_name ns (Leaf m) ≡ true) × (name_eq n (Leaf m) ≡ false)

-- no rule is broken where an arm leaves its slot, or joins one
pub record MayDetach (q : state.Core) (slot : ℕ) (n : ArmName) : Type 0 where
  pub a : state.Arm
  pub listed : has_name (q.order slot) n ≡ true
  pub found : q.arm n ≡ Some a
  pub idle : q.pass ≡ None
  pub leaves : LeavesLeaf q slot n
  pub other : HasOther q slot n

pub record MayAttach (l : state.Layout) (q : state.Core) (slot : ℕ) (n : ArmName) : Type 0 where
  pub slot_is : slot < l.slots
  pub arm_is : IsArmName l n
  pub unused : q.arm n ≡ None
  pub room : length (q.order slot) < 3

-- an arm that was just attached
abbrev pub fresh_arm : ℕ → state.Arm
fresh_arm last = record { offline = false; fresh = true; log = up_to last; gone = None }
