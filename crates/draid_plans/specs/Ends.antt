-- A pass that ends, and one that loses targets.
use Rattle.std.specs.Prelude.{◌≡◌, ◌==◌, ◌+◌, ◌&&◌, not, ℕ, Bool, List, All, count_by, filter, vec_capacity}
use Rattle.draid_names.specs.declared.arm.ArmAt.{ArmAt}
use Rattle.draid_names.specs.declared.pass_kind.PassKind.{PassKind}
use Rattle.draid_names.specs.declared.pass_kind.PassKind.TheVariants.{Rebuild, Heal}
use Rattle.draid_machine.specs.declared.names.ArmName.{ArmName}
use Rattle.draid_machine.specs.After.{capped, done_state, lose_some}
use Rattle.draid_machine.specs.State.{State}
use Rattle.draid_pass.specs.declared.pass.Pass.{Pass}
use Rattle.draid_slots.specs.Marks.{is_marked}
use Rattle.draid_slots.specs.States.{HasSlots, pass_in}
use Rattle.draid_slots.specs.Table.{SlotTable, IsThere}
use Rattle.draid_plans.specs.Logs.{has_place}
use Rattle.draid_plans.specs.Targets.{AreMarked, NamedOnce}

-- a pass that ends without errors makes its targets good
abbrev pub is_good : Pass → ArmAt → Bool
is_good pass at = (pass.errors == 0) && has_place pass.targets.items at

-- what the machine's Done makes of each state that has the old slots has the new ones
abbrev pub EndsAll : SlotTable → SlotTable → Pass → Type 0
EndsAll old new pass =
    (w : State) → NamedOnce old → HasSlots old w.core → HasSlots new (done_state w (pass_in old pass)).core

-- ---- targets that are lost: those of marked arms

abbrev pub is_lost : List (List Bool) → ArmAt → Bool
is_lost marks place = is_marked marks place.slot place.arm

-- in a rebuild each counts an error
abbrev pub counted : PassKind → ℕ → ℕ
counted Rebuild lost = lost
counted Heal lost = 0

-- the others stay, in their order, and nothing else changes
pub record Loses (marks : List (List Bool)) (old new : Pass) : Type 0 where
  pub number_stays : new.number ≡ old.number
  pub kind_stays : new.kind ≡ old.kind
  pub targets_are : new.targets.items ≡ filter (λ place. not (is_lost marks place)) old.targets.items
  pub max_stays : new.max ≡ old.max
  pub place_stays : new.at ≡ old.at
  pub errors_are : new.errors ≡ capped (old.errors + counted old.kind (count_by (is_lost marks) old.targets.items))
  pub running_stays : new.running ≡ old.running
  pub room : vec_capacity new.targets ≡ vec_capacity old.targets

-- where just the arms that pass a test are marked, and the targets are there, it loses what the machine's pass loses by that test
abbrev pub LosesAll : List (List Bool) → Pass → Pass → Type 0
LosesAll marks old new =
    (slots : SlotTable) (bad : ArmName → Bool) → AreMarked slots marks bad → All (IsThere slots) old.targets.items → pass_in slots new ≡ lose_some bad (pass_in slots old)
