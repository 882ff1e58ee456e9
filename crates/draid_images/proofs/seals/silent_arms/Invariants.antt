use Rattle.std.proofs.Common.{◌≡◌, ◌++◌, Bool, filter}
use Rattle.std.specs.Map.{keys_of}
use Rattle.draid_machine.specs.Arms.{lies_on, is_silent}
use Rattle.draid_machine.specs.declared.names.ArmName.{ArmName}
use Rattle.draid_world.specs.World.{core_of, site_layout}
use Rattle.draid_images.proofs.seals.silent_arms.Given as goal

abbrev pub invariant-loop-name : goal.invariant-loop-name
invariant-loop-name l =
    let test : ArmName → Bool = lies_on (site_layout l.site) (core_of l.tables) (is_silent (core_of l.tables) l.failed) in
    l.silent.items ++ filter test (keys_of l.name-iterator) ≡ filter test (keys_of l.tables.arms.entries)
