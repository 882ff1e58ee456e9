use Rattle.std.specs.Prelude.{Option, Some, None}
use Rattle.draid_machine.specs.declared.names.Key.{Key}
use Rattle.draid_machine.specs.declared.names.ArmName.{ArmName}
use Rattle.draid_machine.specs.declared.names.Held.{Held}
use Rattle.draid_machine.specs.State as state
use Rattle.draid_machine.specs.After.{set_held, set_arm, map_arm, cut_above, seal_held, seal_arm}
use Rattle.draid_images.specs.declared.copies.Copying.{Copying}
use Rattle.draid_images.specs.declared.copies.Copying.TheVariants.{Sealing, Opening}

-- what a copy of the tables keeps: for the image of a group, or for a state that is opened from it
abbrev pub copied_held : Copying → Option Held → Option Held
copied_held (Sealing t) o = seal_held t o
copied_held (Opening t) o = o

abbrev pub copied_arm : Copying → Option state.Arm → Option state.Arm
copied_arm (Sealing t) o = seal_arm o
copied_arm (Opening t) o = map_arm (cut_above t) o

abbrev pub copied_core : Copying → state.Core → state.Core
copied_core m q = record q { held = (λ k. copied_held m (q.held k)); arm = (λ n. copied_arm m (q.arm n)) }

-- a table with an entry more, if there is one
abbrev pub put_some : (Key → Option Held) → Key → Option Held → Key → Option Held
put_some f k None j = f j
put_some f k (Some h) j = set_held f k (Some h) j

abbrev pub put_some_arm : (ArmName → Option state.Arm) → ArmName → Option state.Arm → ArmName → Option state.Arm
put_some_arm f n None m = f m
put_some_arm f n (Some a) m = set_arm f n (Some a) m
