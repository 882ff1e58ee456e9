-- Pools that a scrub may leave without anything to repair.
use Rattle.std.specs.Prelude.{◌≡◌, ℕ, true, Some, IsSome, slice_get}
use Rattle.draid_machine.specs.Names.{has_name}
use Rattle.draid_machine.specs.State.{Core, Layout}
use Rattle.draid_machine.specs.declared.names.ArmName.{ArmName}
use Rattle.draid_layouts.specs.Layout.{layout_of}
use Rattle.draid_session.specs.Bearing.{HaveNoPass}
use Rattle.draid_session.specs.Keeping.{AreInside}
use Rattle.draid_session.specs.Present.{AreReached}
use Rattle.draid_session.specs.State.{Metaslab, State}
use Rattle.draid_session.specs.Undisturbed.{LiesWell}

-- each arm of each slot keeps its sectors on leaves that answer
abbrev pub ArmsLieWell : Layout → Core → Type 0
ArmsLieWell l q = (slot : ℕ) (n : ArmName) → has_name (q.order slot) n ≡ true → LiesWell l q n

-- A legal history gives the state of each metaslab of a pool. None has a pass, the arms of all lie well, and their racks tell harm.
pub record MayBeScrubbed (x : State) : Type 0 where
  pub reached : AreReached x
  pub inside : AreInside x
  pub idle : HaveNoPass x
  pub well : (m : ℕ) (y : Metaslab) → slice_get x.metaslabs m ≡ Some y → ArmsLieWell (layout_of x.geometry x.perms m) y.world.core
  pub told : (m : ℕ) (y : Metaslab) → slice_get x.metaslabs m ≡ Some y → IsSome y.harm
