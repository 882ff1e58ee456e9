use Rattle.std.specs.Prelude.{◌≡◌, ◌⊎◌, ◌<◌, ℕ, Some}
use Rattle.draid_names.specs.declared.numbers.TheConstants.{NUMBERS}
use Rattle.draid_machine.specs.State.{Image, State}
use Rattle.draid_world.specs.World.{AreLow}

-- an image is that of a group: the committed one, or the sealed one
abbrev pub IsChosen : State → ℕ → Image → Type 0
IsChosen w t image = ((w.image ≡ image) × (w.committed ≡ t)) ⊎ ((w.sealed ≡ Some image) × (w.closing ≡ Some t))

-- an image of a group below 2^48, whose blocks begin at stripes below 2^48
abbrev pub IsLowImage : Image → Type 0
IsLowImage image = (image.group < NUMBERS) × AreLow image.core
