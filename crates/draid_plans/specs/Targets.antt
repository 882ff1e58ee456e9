-- Which arms a pass of a kind takes as its targets.
use Rattle.std.specs.Prelude.{◌≡◌, ◌*◌, ◌≤◌, ◌&&◌, ◌||◌, not, ◌++◌, ◌∷◌, [], ℕ, zero, suc, Bool, false, List, Option, Some, None, filter, length, vec_capacity}
use Rattle.std.specs.declared.alloc.Global.{Global}
use Rattle.std.specs.declared.vec.Vec.{Vec}
use Rattle.draid_names.specs.declared.arm.Arm.{Arm}
use Rattle.draid_names.specs.declared.arm.ArmAt.{ArmAt}
use Rattle.draid_names.specs.declared.pass_kind.PassKind.{PassKind}
use Rattle.draid_names.specs.declared.pass_kind.PassKind.TheVariants.{Rebuild, Heal}
use Rattle.draid_machine.specs.declared.names.ArmName.{ArmName}
use Rattle.draid_machine.specs.Arms.{is_silent, lies_on}
use Rattle.draid_machine.specs.State as machine
use Rattle.draid_slots.specs.Marks.{is_marked}
use Rattle.draid_slots.specs.States.{name_of}
use Rattle.draid_slots.specs.Table.{SlotTable, arm_at, arms_of, is_spare_kind}
use Rattle.draid_plans.specs.Layout.{layout_with}

-- ---- places

-- those of the first arms of a slot, and of all arms of the first slots, in their order
abbrev pub places_in : ℕ → ℕ → List ArmAt
places_in slot zero = []
places_in slot (suc n) = places_in slot n ++ record { slot = slot; arm = n } ∷ []

abbrev pub places_below : SlotTable → ℕ → List ArmAt
places_below slots zero = []
places_below slots (suc n) = places_below slots n ++ places_in n (length (arms_of slots n))

-- those of all arms
abbrev pub places_of : SlotTable → List ArmAt
places_of slots = places_below slots slots.geometry.spec.children

-- ---- targets

-- a rebuild takes a fresh arm that is a spare, or a leaf that isn't offline; a scrub one that isn't marked
abbrev pub takes : PassKind → Bool → Arm → Bool
takes Rebuild marked arm = arm.fresh && (is_spare_kind arm.kind || not arm.offline)
takes Heal marked arm = not marked

abbrev pub takes_some : PassKind → Bool → Option Arm → Bool
takes_some kind marked None = false
takes_some kind marked (Some arm) = takes kind marked arm

abbrev pub is_target : SlotTable → List (List Bool) → PassKind → ArmAt → Bool
is_target slots marks kind at = takes_some kind (is_marked marks at.slot at.arm) (arm_at slots at)

abbrev pub targets_of : SlotTable → List (List Bool) → PassKind → List ArmAt
targets_of slots marks kind = filter (is_target slots marks kind) (places_of slots)

-- room for the targets of a pass, whichever arms there are and come: no slot has more than three
abbrev pub HasTargetRoom : SlotTable → Vec ArmAt Global → Type 0
HasTargetRoom slots targets = 3 * slots.geometry.spec.children ≤ vec_capacity targets

-- ---- names

-- no two arms have one name
abbrev pub NamedOnce : SlotTable → Type 0
NamedOnce slots = (at other : ArmAt) (a b : Arm) → arm_at slots at ≡ Some a → arm_at slots other ≡ Some b → name_of a ≡ name_of b → at ≡ other

-- ---- marks

-- just those arms are marked that pass a test of their names
abbrev pub AreMarked : SlotTable → List (List Bool) → (ArmName → Bool) → Type 0
AreMarked slots marks test = (at : ArmAt) (arm : Arm) → arm_at slots at ≡ Some arm → is_marked marks at.slot at.arm ≡ test (name_of arm)

-- a scrub takes the arms that lie on answering leaves alone, so for it just those that lie on another leaf are marked in a state
abbrev pub SuitKind : SlotTable → List (List Bool) → PassKind → machine.Core → Type 0
SuitKind slots marks Rebuild q = Unit {0}
SuitKind slots marks Heal q = AreMarked slots marks (lies_on (layout_with slots) q (is_silent q []))
