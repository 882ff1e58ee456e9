-- What the call of an event does to what the rack tells.
use Rattle.std.specs.Prelude.{◌≡◌, ◌==◌, ◌<◌, ◌^◌, ◌&&◌, ◌||◌, ◌⊎◌, ℕ, Bool, true, false, not, nat_lt, List, Option, Some, None, is_none, IsSome, if◌then◌else◌}
use Rattle.draid_machine.specs.declared.names.Key.{Key}
use Rattle.draid_machine.specs.declared.names.ArmName.{ArmName}
use Rattle.draid_machine.specs.declared.names.ArmName.TheVariants.{Leaf}
use Rattle.draid_machine.specs.declared.names.Held.{Held}
use Rattle.draid_machine.specs.declared.names.Segment.{Segment}
use Rattle.draid_machine.specs.declared.event.Patched.{Patched}
use Rattle.draid_machine.specs.declared.event.Event.{Event}
use Rattle.draid_machine.specs.declared.event.Event.TheVariants.{Begin, Put, Finish, Abort, Free, Fetch, Damage, Offline, Online, Attach, Detach, Upgrade, Close, Seal, Commit, Plan, Ready, Lend, LandStripe, LandBlock, Done, Cancel, Reopen}
use Rattle.draid_machine.specs.Names.{key_eq, has_name, has_number, any_below}
use Rattle.draid_machine.specs.State.{Layout, Arm, Pass, Core, Loan, Image, State}
use Rattle.draid_machine.specs.Arms.{answers, fails, is_clean, is_silent, leaf_at, passes}
use Rattle.draid_machine.specs.Claims.{claims, is_on}
use Rattle.draid_machine.specs.After.{has_healed, is_gone_by, is_landed, is_mended, is_source_aside, is_written, unsourced}
use Rattle.draid_machine.specs.Images.{IsImage}
use Rattle.draid_machine.specs.Step.{FlushesThere, HealsThere, Step}
use Rattle.draid_rack.specs.Rack.{Told, damages}
use Rattle.draid_rack.specs.Moments.{ChangesOnly, Leaves}
use Rattle.draid_segments.specs.Segments.{Pieces, harmed_at, piece_of, reads_at, sector_at, soft_at}

-- ---- where a call writes

-- a segment of a block or a ticket, of which a test holds, lies at this sector of this leaf
pub record LiesThere (l : Layout) (h : Held) (of : Segment → Bool) (leaf sector : ℕ) : Type 0 where
  pub s : Segment
  pub is : of s ≡ true
  pub leaf_is : s.leaf ≡ leaf
  pub sector_is : sector_at l h s ≡ sector

-- no sector was changed but those at which such segments lie, and harm elsewhere is as it was
pub record WritesAt (l : Layout) (h : Held) (of : Segment → Bool) (x y : Told) : Type 0 where
  pub named : ℕ → ℕ → Bool
  pub lies : (leaf sector : ℕ) → named leaf sector ≡ true → LiesThere l h of leaf sector
  pub others : Leaves named x y

abbrev pub nowhere : ℕ → ℕ → Bool
nowhere leaf sector = false

-- ---- a put

-- a segment of a ticket's next column, on an arm that answers
abbrev pub is_put_to : Layout → Core → Key → Held → ℕ → Segment → Bool
is_put_to l q key h c s = key_eq key s.key && (s.column == c) && is_on l q.order s h && answers l q s.arm h.first

-- The column was written where it belongs. On the arms on which it landed it is there, reads as its block's where that is known, and isn't
-- harmed.
pub record PutsColumn (l : Layout) (q : Core) (key : Key) (h : Held) (c : ℕ) (landed : List ArmName) (pieces : Pieces) (x y : Told) : Type 0 where
  pub writes : WritesAt l h (is_put_to l q key h c) x y
  pub landed_there : (s : Segment) → is_landed l q key h c landed s ≡ true → IsSome (reads_at l h s y)
  pub landed_reads : (s : Segment) → is_landed l q key h c landed s ≡ true → IsSome (piece_of pieces s) → reads_at l h s y ≡ piece_of pieces s
  pub landed_harm : (s : Segment) → is_landed l q key h c landed s ≡ true → harmed_at l h s y ≡ false

-- ---- damage
abbrev pub Damages : ℕ → ℕ → Bool → Told → Told → Type 0
Damages leaf sector true x y = y ≡ x
Damages leaf sector false x y = y ≡ damages leaf sector x

-- ---- flushes

-- A seal flushes each leaf that answers, but for those on which it failed; so also the leaf of an arm that was detached and answered then, until that is committed.
pub record Flushes (q : Core) (failed : List ℕ) (x y : Told) : Type 0 where
  pub same : Leaves nowhere x y
  pub done : (leaf sector : ℕ) → is_silent q failed leaf ≡ false → y.soft leaf sector ≡ false
  pub leaving : (leaf sector : ℕ) (arm : Arm) → leaf < 2 ^ 64 → q.arm (Leaf leaf) ≡ Some arm → arm.offline ≡ false → has_number failed leaf ≡ false → y.soft leaf sector ≡ false

-- the end of a rebuild flushes the leaves on which its targets lie
pub record FlushesTargets (l : Layout) (q : Core) (p : Pass) (failed : List ℕ) (x y : Told) : Type 0 where
  pub same : Leaves nowhere x y
  pub done : (leaf sector : ℕ) → FlushesThere l q p leaf → has_number failed leaf ≡ false → y.soft leaf sector ≡ false

-- ---- leaves that go

-- leaves went, but none of those that must stay
pub record DropsBut (stays : ℕ → Type 0) (x y : Told) : Type 0 where
  pub goes : ℕ → Bool
  pub kept : (leaf : ℕ) → stays leaf → goes leaf ≡ false
  pub others : Leaves (λ leaf sector. goes leaf) x y

-- a leaf that is an arm, or was one until a group after this one
pub record StaysAfter (w : State) (group leaf : ℕ) : Type 0 where
  pub a : Arm
  pub found : w.core.arm (Leaf leaf) ≡ Some a
  pub late : is_gone_by group a.gone ≡ false

-- a leaf that is an arm of an image
abbrev pub IsNamed : Image → ℕ → Type 0
IsNamed img leaf = (slot : ℕ) × (has_name (img.core.order slot) (Leaf leaf) ≡ true)

-- ---- the landing of a rebuild's stripe

-- what was read of a column from its chosen arm is harmed
abbrev pub is_chosen_harmed : Layout → Core → Told → Loan → ℕ → Option ArmName → Bool
is_chosen_harmed l q x n c None = false
is_chosen_harmed l q x n c (Some m) = passes (leaf_at l q.order m n.stripe) (λ leaf. x.harmed leaf (l.sector_of n.stripe c))

-- a column that has a source is a copy of it, and any other is made from all chosen readings
abbrev pub is_source_harmed : Layout → Core → Told → Loan → Segment → Bool
is_source_harmed l q x n s =
    if is_none (n.chosen s.column) then any_below l.columns (λ c. is_chosen_harmed l q x n c (n.chosen c))
    else is_chosen_harmed l q x n s.column (n.chosen s.column)

-- The targets' segments of the stripe were written. Where no call failed each is there, and harmed just where a source was; where no source was
-- harmed or in doubt, it reads as its block's where that is known.
pub record MendsStripe (l : Layout) (w : State) (p : Pass) (n : Loan) (h : Held) (failed : List ℕ) (pieces : Pieces) (x y : Told) : Type 0 where
  pub writes : WritesAt l h (is_mended l w.core p n h) x y
  pub there : (s : Segment) → is_mended l w.core p n h s ≡ true → fails l w.core failed s.arm n.stripe ≡ false → IsSome (reads_at l h s y)
  pub harmed : (s : Segment) → is_mended l w.core p n h s ≡ true → fails l w.core failed s.arm n.stripe ≡ false → harmed_at l h s y ≡ is_source_harmed l w.core x n s
  pub reads : (s : Segment) → is_mended l w.core p n h s ≡ true → fails l w.core failed s.arm n.stripe ≡ false → is_source_harmed l w.core x n s ≡ false
      → is_source_aside l w n s ≡ false → IsSome (piece_of pieces s) → reads_at l h s y ≡ piece_of pieces s

-- with more columns without a source than the parity nothing is written
abbrev pub LandsStripe : Bool → Layout → State → Pass → Loan → Held → List ℕ → Pieces → Told → Told → Type 0
LandsStripe true l w p n h failed pieces x y = y ≡ x
LandsStripe false l w p n h failed pieces x y = MendsStripe l w p n h failed pieces x y

-- ---- the landing of a scrub's block

-- a segment of the block on an arm that is clean for it
abbrev pub is_on_clean : Layout → Core → Loan → Held → Segment → Bool
is_on_clean l q n h s = key_eq n.key s.key && is_on l q.order s h && is_clean q h.birth s.arm

-- a segment of the block on an arm that answers, and on whose leaf no call failed
abbrev pub is_on_answering : Layout → Core → Loan → Held → List ℕ → Segment → Bool
is_on_answering l q n h failed s = key_eq n.key s.key && is_on l q.order s h && answers l q s.arm h.first && not (fails l q failed s.arm h.first)

-- a segment whose harm a whole landing ends
abbrev pub is_settled : Layout → Core → Loan → Held → List Patched → Segment → Bool
is_settled l q n h patched s = is_on_clean l q n h s || has_healed l q n h patched s

-- Sectors were patched, which leaves their harm; then the leaves of the block's arms that answer were flushed. What landed is there, and reads as
-- the restored block's where that is known. So does each segment on an arm that answers, where no call on its leaf failed. A whole landing read or wrote
-- it so on each arm that is clean for the block, too, and ended the harm of all this. On an arm that is clean for the block only what read otherwise was
-- written.
pub record HealsBlock (l : Layout) (q : Core) (n : Loan) (h : Held) (failed : List ℕ) (patched : List Patched) (whole : Bool) (pieces : Pieces) (x y : Told) : Type 0 where
  pub named : ℕ → ℕ → Bool
  pub lies : (leaf sector : ℕ) → named leaf sector ≡ true → LiesThere l h (is_written l q n h patched) leaf sector
  pub others : ChangesOnly named x y
  pub harm : (leaf sector : ℕ) → (y.harmed leaf sector ≡ x.harmed leaf sector) ⊎ LiesThere l h (λ s. whole && is_settled l q n h patched s) leaf sector
  pub flushed : (leaf sector : ℕ) → HealsThere l q h leaf → has_number failed leaf ≡ false → y.soft leaf sector ≡ false
  pub landed_firm : (s : Segment) → has_healed l q n h patched s ≡ true → soft_at l h s y ≡ false
  pub landed_there : (s : Segment) → has_healed l q n h patched s ≡ true → IsSome (reads_at l h s y)
  pub landed_reads : (s : Segment) → has_healed l q n h patched s ≡ true → IsSome (piece_of pieces s) → reads_at l h s y ≡ piece_of pieces s
  pub clean_there : (s : Segment) → whole ≡ true → is_on_clean l q n h s ≡ true → IsSome (reads_at l h s y)
  pub clean_reads : (s : Segment) → whole ≡ true → is_on_clean l q n h s ≡ true → IsSome (piece_of pieces s) → reads_at l h s y ≡ piece_of pieces s
  pub answering_reads : (s : Segment) → is_on_answering l q n h failed s ≡ true → IsSome (piece_of pieces s) → reads_at l h s y ≡ piece_of pieces s
  pub needed : (s : Segment) → is_on_clean l q n h s ≡ true → is_written l q n h patched s ≡ true → IsSome (piece_of pieces s) → reads_at l h s x ≡ piece_of pieces s → ⊥
  pub settled_harm : (s : Segment) → whole ≡ true → is_settled l q n h patched s ≡ true → harmed_at l h s y ≡ false

-- of an unreadable block nothing is written
abbrev pub LandsReadable : Bool → Layout → Core → Loan → Held → List ℕ → List Patched → Bool → Pieces → Told → Told → Type 0
LandsReadable true l q n h failed patched whole pieces x y = y ≡ x
LandsReadable false l q n h failed patched whole pieces x y = HealsBlock l q n h failed patched whole pieces x y

-- ---- events

-- What the rack tells before and after the call of a legal event. The pieces are those that the call writes.
abbrev pub Acts : (l : Layout) (w : State) (e : Event) (new : State) → Step l w e new → Pieces → Told → Told → Type 0
Acts l w (Put key landed failed) new step pieces x y = PutsColumn l w.core key step.h step.c landed pieces x y
Acts l w (Damage leaf sector failed) new step pieces x y = Damages leaf sector failed x y
Acts l w (Seal group failed) new step pieces x y = Flushes w.core failed.items x y
Acts l w (Commit group) new step pieces x y = DropsBut (StaysAfter w group) x y
Acts l w (LandStripe pass serial failed) new step pieces x y = LandsStripe (nat_lt l.parity (unsourced l step.n)) l w step.p step.n step.h failed.items pieces x y
Acts l w (LandBlock pass serial failed patched unreadable) new step pieces x y = LandsReadable unreadable l w.core step.n step.h failed.items patched.items step.whole pieces x y
Acts l w (Done failed) new step pieces x y = FlushesTargets l w.core step.p failed.items x y
Acts l w (Reopen group doubtful) new step pieces x y = DropsBut (IsNamed step.image) x y
Acts l w (Begin key first stripes len birth digest) new step pieces x y = y ≡ x
Acts l w (Finish key) new step pieces x y = y ≡ x
Acts l w (Abort key) new step pieces x y = y ≡ x
Acts l w (Free key group) new step pieces x y = y ≡ x
Acts l w (Fetch key failed) new step pieces x y = y ≡ x
Acts l w (Offline leaf) new step pieces x y = y ≡ x
Acts l w (Online leaf) new step pieces x y = y ≡ x
Acts l w (Attach slot arm) new step pieces x y = y ≡ x
Acts l w (Detach slot arm) new step pieces x y = y ≡ x
Acts l w Upgrade new step pieces x y = y ≡ x
Acts l w (Close group) new step pieces x y = y ≡ x
Acts l w (Plan kind) new step pieces x y = y ≡ x
Acts l w Ready new step pieces x y = y ≡ x
Acts l w (Lend failed) new step pieces x y = y ≡ x
Acts l w Cancel new step pieces x y = y ≡ x

-- A call writes the pieces of its block, but for a scrub's landing: it writes those of the restored block, which has the same digest. Where the
-- landing is whole, they are the block's afterwards.
abbrev pub is_lent_key : (l : Layout) (w : State) (e : Event) (new : State) → Step l w e new → Key → Bool
is_lent_key l w (LandBlock pass serial failed patched unreadable) new step key = key_eq step.n.key key
is_lent_key l w e new step key = false

abbrev pub WritesPieces : (l : Layout) (w : State) (e : Event) (new : State) → Step l w e new → Pieces → Pieces → Type 0
WritesPieces l w e new step pieces written = (key : Key) → is_lent_key l w e new step key ≡ false → written key ≡ pieces key

abbrev pub pieces_after : (l : Layout) (w : State) (e : Event) (new : State) → Step l w e new → Pieces → Pieces → Pieces
pieces_after l w (LandBlock pass serial failed patched false) new step pieces written = if step.whole then written else pieces
pieces_after l w e new step pieces written = pieces

-- ---- moments inside a call

-- a segment of a block or a ticket lies at this sector of this leaf
abbrev pub is_there : Layout → ℕ → ℕ → Segment → Option Held → Bool
is_there l leaf sector s None = false
is_there l leaf sector s (Some h) = (s.leaf == leaf) && (sector_at l h s == sector)

-- What is in doubt inside the call: what was before, the sector that is damaged, and of a scrub's block what is written, and what is set aside
-- as the landing ends.
abbrev pub doubted : (l : Layout) (w : State) (e : Event) (new : State) → Step l w e new → Segment → Bool
doubted l w (Damage leaf sector failed) new step s = w.aside s || is_there l leaf sector s (w.core.held s.key)
doubted l w (LandBlock pass serial failed patched unreadable) new step s = w.aside s || is_written l w.core step.n step.h patched.items s || new.aside s
doubted l w e new step s = w.aside s

-- The images that the moments inside a call are said of: each, but for a commit and an opening that of their group alone, since leaves go then.
abbrev pub IsMeant : (l : Layout) (w : State) (e : Event) (new : State) → Step l w e new → Image → Type 0
IsMeant l w (Commit group) new step img = step.image ≡ img
IsMeant l w (Reopen group doubtful) new step img = step.image ≡ img
IsMeant l w e new step img = IsImage w img

-- ---- where a call may write

-- nothing else that is present lies where a segment does
abbrev pub LiesAlone : Layout → State → Held → Segment → Type 0
LiesAlone l w h s = (v : Segment) (i : Held) → w.core.held v.key ≡ Some i → w.present v ≡ true → v.leaf ≡ s.leaf → sector_at l i v ≡ sector_at l h s → v ≡ s

-- what an image claims there is the segment itself
abbrev pub IsClaimedAlone : Layout → Image → Held → Segment → Type 0
IsClaimedAlone l img h s = (v : Segment) (i : Held) → img.core.held v.key ≡ Some i → claims l img.core v ≡ true → v.leaf ≡ s.leaf → sector_at l i v ≡ sector_at l h s → v ≡ s

-- an image claims nothing there
abbrev pub IsUnclaimed : Layout → Image → Held → Segment → Type 0
IsUnclaimed l img h s = (v : Segment) (i : Held) → img.core.held v.key ≡ Some i → claims l img.core v ≡ true → v.leaf ≡ s.leaf → sector_at l i v ≡ sector_at l h s → ⊥
