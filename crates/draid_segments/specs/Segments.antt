-- What a told rack has of the segments of a metaslab, and of the images of its groups.
use Rattle.std.specs.Prelude.{◌≡◌, ◌<◌, ◌≤◌, ◌+◌, ◌⊎◌, ℕ, Bool, true, false, List, Option, Some, None, IsTrue, IsSome}
use Rattle.draid_names.specs.declared.pass_kind.PassKind.TheVariants.{Heal}
use Rattle.draid_machine.specs.declared.names.Key.{Key}
use Rattle.draid_machine.specs.declared.names.ArmName.{ArmName}
use Rattle.draid_machine.specs.declared.names.Held.{Held}
use Rattle.draid_machine.specs.declared.names.Segment.{Segment}
use Rattle.draid_machine.specs.Names.{is_block, is_freed_by}
use Rattle.draid_machine.specs.State.{Layout, Arm, Pass, Core, Image, State}
use Rattle.draid_machine.specs.Claims.{IsOn, claims, passed}
use Rattle.draid_machine.specs.Images.{IsImage}
use Rattle.draid_rack.specs.Rack.{Told}
use Rattle.draid_names.specs.Clocks.{last_clock}
use Rattle.draid_rack.specs.Moments.{Between}

-- ---- one segment

-- the sector of the metaslab at which a segment of a block or a ticket lies, on its leaf
abbrev pub sector_at : Layout → Held → Segment → ℕ
sector_at l h s = l.sector_of (h.first + s.row) s.column

-- what a rack tells of it
abbrev pub reads_at : Layout → Held → Segment → Told → Option (List ℕ)
reads_at l h s x = x.reads s.leaf (sector_at l h s)

abbrev pub soft_at : Layout → Held → Segment → Told → Bool
soft_at l h s x = x.soft s.leaf (sector_at l h s)

abbrev pub harmed_at : Layout → Held → Segment → Told → Bool
harmed_at l h s x = x.harmed s.leaf (sector_at l h s)

abbrev pub since_at : Layout → Held → Segment → Told → ℕ
since_at l h s x = x.since s.leaf (sector_at l h s)

-- the bytes of each block and ticket that are known: by key, column and row
abbrev pub Pieces : Type 0
Pieces = Key → ℕ → ℕ → Option (List ℕ)

abbrev pub piece_of : Pieces → Segment → Option (List ℕ)
piece_of pieces s = pieces s.key s.column s.row

-- ---- the state

-- a segment of a block or a ticket that is present, and not in doubt
pub record IsSure (w : State) (s : Segment) (h : Held) : Type 0 where
  pub held : w.core.held s.key ≡ Some h
  pub present : w.present s ≡ true
  pub sure : w.aside s ≡ false

-- each of them is there, and reads as its block's where that is known and it isn't harmed
pub record Holds (l : Layout) (pieces : Pieces) (w : State) (x : Told) : Type 0 where
  pub there : (s : Segment) (h : Held) → IsSure w s h → IsSome (reads_at l h s x)
  pub reads : (s : Segment) (h : Held) → IsSure w s h → harmed_at l h s x ≡ false → IsSome (piece_of pieces s) → reads_at l h s x ≡ piece_of pieces s

-- ---- images

-- a segment that an image claims, and that isn't in doubt
pub record IsClaim (l : Layout) (img : Image) (doubt : Segment → Bool) (s : Segment) (h : Held) : Type 0 where
  pub held : img.core.held s.key ≡ Some h
  pub claim : claims l img.core s ≡ true
  pub sure : doubt s ≡ false

-- each of them is there, reads as its block's where that is known and it isn't harmed, and isn't soft
pub record Firm (l : Layout) (pieces : Pieces) (img : Image) (doubt : Segment → Bool) (x : Told) : Type 0 where
  pub there : (s : Segment) (h : Held) → IsClaim l img doubt s h → IsSome (reads_at l h s x)
  pub reads : (s : Segment) (h : Held) → IsClaim l img doubt s h → harmed_at l h s x ≡ false → IsSome (piece_of pieces s) → reads_at l h s x ≡ piece_of pieces s
  pub firm : (s : Segment) (h : Held) → IsClaim l img doubt s h → soft_at l h s x ≡ false

-- so at each moment between two
abbrev pub FirmThrough : Layout → Pieces → Image → (Segment → Bool) → Told → Told → Type 0
FirmThrough l pieces img doubt x y = x.clock < last_clock → (m : Told) → Between x m y → Firm l pieces img doubt m

-- Between two states nothing was written to what an image claims. Harm and softness may have ended.
pub record Steady (l : Layout) (img : Image) (doubt : Segment → Bool) (x y : Told) : Type 0 where
  pub later : x.clock ≤ y.clock
  pub reads : (s : Segment) (h : Held) → IsClaim l img doubt s h → reads_at l h s y ≡ reads_at l h s x
  pub since : (s : Segment) (h : Held) → IsClaim l img doubt s h → since_at l h s y ≡ since_at l h s x
  pub soft : (s : Segment) (h : Held) → IsClaim l img doubt s h → IsTrue (soft_at l h s y) → IsTrue (soft_at l h s x)
  pub harmed : (s : Segment) (h : Held) → IsClaim l img doubt s h → IsTrue (harmed_at l h s y) → IsTrue (harmed_at l h s x)

-- ---- what the next image may count on

-- a running scrub without errors has put a row of a block right on one of its targets
pub record HasScrubbed (pass : Option Pass) (n : ArmName) (h : Held) (row : ℕ) : Type 0 where
  pub p : Pass
  pub pass_is : pass ≡ Some p
  pub heal : p.kind ≡ Heal
  pub by : passed (Some p) n h row ≡ true

-- of a block that was born up to a group and not freed up to it, a segment on an arm that is clean for the block, or on one on which a scrub
-- has put it right
pub record IsLasting (l : Layout) (group : ℕ) (q : Core) (s : Segment) (h : Held) : Type 0 where
  pub a : Arm
  pub on : IsOn l q s h a
  pub block : is_block h.stage ≡ true
  pub birth : h.birth ≤ group
  pub stays : is_freed_by group h.stage ≡ false
  pub why : (a.log h.birth ≡ false) ⊎ HasScrubbed q.pass s.arm h s.row

-- each of them is in doubt, or isn't soft
pub record FirmUpTo (l : Layout) (group : ℕ) (w : State) (x : Told) : Type 0 where
  pub firm : (s : Segment) (h : Held) → IsLasting l group w.core s h → w.aside s ≡ false → soft_at l h s x ≡ false

-- the last group of which there is an image
abbrev pub group_in : ℕ → Option Image → ℕ
group_in committed None = committed
group_in committed (Some img) = img.group

abbrev pub image_group : State → ℕ
image_group w = group_in w.committed w.sealed

-- ---- A rack has what a state says of its segments, and the committed image and a sealed one outlast a crash.
pub record Backed (l : Layout) (pieces : Pieces) (w : State) (x : Told) : Type 0 where
  pub holds : Holds l pieces w x
  pub images : (img : Image) → IsImage w img → Firm l pieces img w.aside x
  pub last : FirmUpTo l (image_group w) w x
