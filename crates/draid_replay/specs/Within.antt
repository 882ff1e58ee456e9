use Rattle.std.specs.Prelude.{◌≡◌, ◌+◌, ◌<◌, ◌≤◌, ℕ, Option, Some}
use Rattle.draid_names.specs.declared.numbers.TheConstants.{NUMBERS}
use Rattle.draid_machine.specs.declared.names.Key.{Key}
use Rattle.draid_machine.specs.declared.names.Stage.TheVariants.{Writing}
use Rattle.draid_machine.specs.declared.names.Held.{Held}
use Rattle.draid_machine.specs.declared.event.Event.{Event}
use Rattle.draid_machine.specs.declared.event.Event.TheVariants.{Begin, Put, Finish, Abort, Free, Fetch, Damage, Offline, Online, Attach, Detach, Upgrade, Close, Seal, Commit, Plan, Ready, Lend, LandStripe, LandBlock, Done, Cancel, Reopen}
use Rattle.draid_machine.specs.State.{Pass, Loan, Image, State}

-- a block or a ticket ends below stripe 2^48 and is born below group 2^48; a ticket counts no more missed columns than were put
pub record IsSmall (h : Held) : Type 0 where
  pub short : h.first + h.stripes < NUMBERS
  pub birth : h.birth < NUMBERS
  pub counted : (c m : ℕ) → h.stage ≡ Writing c m → m ≤ c

abbrev pub AreSmall : (Key → Option Held) → Type 0
AreSmall held = (k : Key) (h : Held) → held k ≡ Some h → IsSmall h

abbrev pub IsSmallPass : Option Pass → Type 0
IsSmallPass pass = (p : Pass) → pass ≡ Some p → p.max < NUMBERS

-- an image is that of a group behind which there is another
pub record IsSmallImage (i : Image) : Type 0 where
  pub group : i.group + 1 < NUMBERS
  pub held : AreSmall i.core.held
  pub pass : IsSmallPass i.core.pass

-- the numbers of a state are in their ranges
pub record AreWithin (open_group : ℕ) (closing : Option ℕ) (committed : ℕ) (held : Key → Option Held) (pass : Option Pass) (loan : Option Loan) (image : Image) (sealed : Option Image) : Type 0 where
  pub opens : open_group < NUMBERS
  pub closes : (t : ℕ) → closing ≡ Some t → t + 1 < NUMBERS
  pub commits : committed < NUMBERS
  pub holds : AreSmall held
  pub passes : IsSmallPass pass
  pub lends : (n : Loan) → loan ≡ Some n → n.stripe < NUMBERS
  pub opened : IsSmallImage image
  pub seals : (i : Image) → sealed ≡ Some i → IsSmallImage i

abbrev pub IsWithin : State → Type 0
IsWithin w = AreWithin w.open_group w.closing w.committed w.core.held w.core.pass w.loan w.image w.sealed

-- an event's numbers are in their ranges
abbrev pub IsSmallEvent : Event → Type 0
IsSmallEvent (Begin key first stripes len birth digest) = (first < NUMBERS) × (birth < NUMBERS)
IsSmallEvent (Put key landed failed) = Unit {0}
IsSmallEvent (Finish key) = Unit {0}
IsSmallEvent (Abort key) = Unit {0}
IsSmallEvent (Free key group) = group < NUMBERS
IsSmallEvent (Fetch key failed) = Unit {0}
IsSmallEvent (Damage leaf sector failed) = Unit {0}
IsSmallEvent (Offline leaf) = Unit {0}
IsSmallEvent (Online leaf) = Unit {0}
IsSmallEvent (Attach slot arm) = Unit {0}
IsSmallEvent (Detach slot arm) = Unit {0}
IsSmallEvent Upgrade = Unit {0}
IsSmallEvent (Close group) = group < NUMBERS
IsSmallEvent (Seal group failed) = group < NUMBERS
IsSmallEvent (Commit group) = group < NUMBERS
IsSmallEvent (Plan kind) = Unit {0}
IsSmallEvent Ready = Unit {0}
IsSmallEvent (Lend failed) = Unit {0}
IsSmallEvent (LandStripe pass serial failed) = Unit {0}
IsSmallEvent (LandBlock pass serial failed patched unreadable) = Unit {0}
IsSmallEvent (Done failed) = Unit {0}
IsSmallEvent Cancel = Unit {0}
IsSmallEvent (Reopen group doubtful) = group < NUMBERS
