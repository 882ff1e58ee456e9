use Rattle.std.specs.Prelude.{◌≡◌, ◌⊎◌, ℕ, false, nat_lt, List, [], ◌∷◌, Option, Some, None, if◌then◌else◌}
use Rattle.draid_machine.specs.declared.names.ArmName.{ArmName}
use Rattle.draid_machine.specs.declared.names.ArmName.TheVariants.{Leaf, Spare}
use Rattle.draid_machine.specs.declared.event.Event.{Event}
use Rattle.draid_machine.specs.State.{Layout, Arm, Core, State}
use Rattle.draid_machine.specs.Step.{Run}

-- a new metaslab: each slot has the leaf of its number, and group 1 is committed with no block
abbrev pub new_arm : Arm
new_arm = record { offline = false; fresh = false; log = λ g. false; gone = None }

abbrev pub created_arm : Layout → ArmName → Option Arm
created_arm l (Leaf m) = if nat_lt m l.slots then Some new_arm else None
created_arm l (Spare t) = None

abbrev pub created_core : Layout → Core
created_core l = record {
  held = λ k. None;
  arm = created_arm l;
  order = λ c. if nat_lt c l.slots then Leaf c ∷ [] else [];
  pass = None;
  last = 0;
}

abbrev pub created : Layout → ℕ → State
created l version = record {
  open_group = 2;
  closing = None;
  committed = 1;
  version = version;
  asked = version;
  core = created_core l;
  serial = 0;
  loan = None;
  image = record { group = 1; version = version; core = created_core l };
  sealed = None;
  present = λ s. false;
  aside = λ s. false;
  kept = λ s. None;
}

-- a state that a legal history of a new metaslab gives, of version 1 or 2
pub record IsReached (l : Layout) (w : State) : Type 0 where
  pub version : ℕ
  pub one : (version ≡ 1) ⊎ (version ≡ 2)
  pub events : List Event
  pub run : Run l (created l version) events w
