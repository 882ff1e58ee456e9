use Rattle.std.specs.Prelude.{Bool, true, false}
use Rattle.draid_machine.specs.declared.event.Event.{Event}
use Rattle.draid_machine.specs.declared.event.Event.TheVariants.{Begin, LandStripe, LandBlock}

-- an event opens a ticket
abbrev pub is_begin : Event → Bool
is_begin (Begin key first stripes len birth digest) = true
is_begin _ = false

-- a loan comes back
abbrev pub is_landing : Event → Bool
is_landing (LandStripe pass serial failed) = true
is_landing (LandBlock pass serial failed patched unreadable) = true
is_landing _ = false
