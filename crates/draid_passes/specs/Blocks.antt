use Rattle.std.specs.Prelude.{◌≡◌, ◌+◌, ◌<◌, ◌⊎◌, ℕ, true, List, Some}
use Rattle.draid_machine.specs.declared.names.Key.{Key}
use Rattle.draid_machine.specs.declared.names.ArmName.{ArmName}
use Rattle.draid_machine.specs.declared.names.Held.{Held}
use Rattle.draid_machine.specs.declared.names.Segment.{Segment}
use Rattle.draid_machine.specs.Names.{has_name, has_segment}
use Rattle.draid_machine.specs.State.{Layout}
use Rattle.draid_machine.specs.Arms.{leaf_at}

-- a list has grown by just the segments of which something holds
pub record Adds (P : Segment → Type 0) (old new : List Segment) : Type 0 where
  pub sound : (s : Segment) → has_segment new s ≡ true → (has_segment old s ≡ true) ⊎ P s
  pub kept : (s : Segment) → has_segment old s ≡ true → has_segment new s ≡ true
  pub complete : (s : Segment) → P s → has_segment new s ≡ true

-- a segment of a column of a block on an arm, where that arm keeps it
pub record OnArm (l : Layout) (order : ℕ → List ArmName) (key : Key) (h : Held) (c : ℕ) (n : ArmName) (s : Segment) : Type 0 where
  pub key_is : s.key ≡ key
  pub column_is : s.column ≡ c
  pub arm_is : s.arm ≡ n
  pub row : s.row < h.stripes
  pub lies : leaf_at l order n (h.first + s.row) ≡ Some s.leaf

-- a segment of a column of a block on an arm of a list
pub record OnNames (l : Layout) (order : ℕ → List ArmName) (key : Key) (h : Held) (c : ℕ) (names : List ArmName) (s : Segment) : Type 0 where
  pub listed : has_name names s.arm ≡ true
  pub on : OnArm l order key h c s.arm s

-- a segment of a column of a block on an arm of its slot
abbrev pub OnColumn : Layout → (ℕ → List ArmName) → Key → Held → ℕ → Segment → Type 0
OnColumn l order key h c s = OnNames l order key h c (order (l.slot_of h.first c)) s
