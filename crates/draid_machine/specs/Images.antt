use Rattle.std.specs.Prelude.{◌≡◌, ◌+◌, ◌<◌, ◌≤◌, ◌⊎◌, ℕ, true, false, Option, Some, None}
use Rattle.draid_names.specs.declared.pass_kind.PassKind.TheVariants.{Rebuild}
use Rattle.draid_machine.specs.declared.names.Key.{Key}
use Rattle.draid_machine.specs.declared.names.ArmName.{ArmName}
use Rattle.draid_machine.specs.declared.names.ArmName.TheVariants.{Leaf, Spare}
use Rattle.draid_machine.specs.declared.names.Held.{Held}
use Rattle.draid_machine.specs.declared.names.Segment.{Segment}
use Rattle.draid_machine.specs.Names.{has_name, is_put}
use Rattle.draid_machine.specs.State.{Layout, Gone, Arm, Pass, Core, Image, State}
use Rattle.draid_machine.specs.Claims.{claims, is_at}
use Rattle.draid_machine.specs.After.{seal_held, is_gone_by}

-- the committed image, or the sealed one
abbrev pub IsImage : State → Image → Type 0
IsImage w img = (w.image ≡ img) ⊎ (w.sealed ≡ Some img)

-- the pass of an image, as it was then: it stood no further, and had these targets
pub record IsOwnPass (img : Image) (p : Pass) : Type 0 where
  pub own : Pass
  pub pass : img.core.pass ≡ Some own
  pub rebuild : own.kind ≡ Rebuild
  pub number : p.number ≡ own.number
  pub max : p.max ≡ own.max
  pub next : own.next ≤ p.next
  pub targets : (n : ArmName) → has_name p.targets n ≡ true → has_name own.targets n ≡ true

pub record ImageStands (l : Layout) (w : State) (img : Image) : Type 0 where
  -- it is of a group before the open one
  pub group : img.group < w.open_group
  -- its blocks are those that are held, born up to its group and not freed up to it
  pub blocks : (k : Key) → img.core.held k ≡ seal_held img.group (w.core.held k)
  -- its arms are there, or detached in a later group
  pub arms : (n : ArmName) (a : Arm) → img.core.arm n ≡ Some a → (b : Arm) × (w.core.arm n ≡ Some b) × (is_gone_by img.group b.gone ≡ false)
  pub here : (n : ArmName) (a : Arm) → img.core.arm n ≡ Some a → a.gone ≡ None
  -- a rebuild that its group lets run is its own, and no other runs
  pub rebuild : (p : Pass) → w.core.pass ≡ Some p → p.kind ≡ Rebuild → p.max ≤ img.group + 1 → IsOwnPass img p
  pub runs : (p : Pass) → img.core.pass ≡ Some p → p.kind ≡ Rebuild → p.running ≡ true → p.max ≤ img.group + 1
  -- what it claims is present; where that is kept, it is at a place by now, or it stays until a later group is committed
  pub claimed : (s : Segment) → claims l img.core s ≡ true → w.present s ≡ true
  pub kept : (s : Segment) (g : ℕ) → claims l img.core s ≡ true → w.kept s ≡ Some g → (img.group < g) ⊎ (is_at l w.core s ≡ true)

pub record ImagesStand (l : Layout) (w : State) : Type 0 where
  pub each : (img : Image) → IsImage w img → ImageStands l w img
  pub runs : (p : Pass) → w.core.pass ≡ Some p → p.kind ≡ Rebuild → p.running ≡ true → p.max ≤ w.committed + 1

-- the arms in the order of a slot have their data and aren't detached, stand in that slot alone, and are all the arms that aren't detached;
-- targets are arms that are there
pub record AreListed (q : Core) : Type 0 where
  pub data_of : (c : ℕ) (n : ArmName) → has_name (q.order c) n ≡ true → (a : Arm) × (q.arm n ≡ Some a) × (a.gone ≡ None)
  pub one : (c d : ℕ) (n : ArmName) → has_name (q.order c) n ≡ true → has_name (q.order d) n ≡ true → c ≡ d
  pub all : (n : ArmName) (a : Arm) → q.arm n ≡ Some a → a.gone ≡ None → (c : ℕ) × (has_name (q.order c) n ≡ true)
  pub targets : (p : Pass) (n : ArmName) → q.pass ≡ Some p → has_name p.targets n ≡ true → (c : ℕ) × (has_name (q.order c) n ≡ true)

-- an arm of a slot, or one that was and whose detachment isn't committed
pub record WasArm (q : Core) (slot : ℕ) (n : ArmName) : Type 0 where
  pub a : Arm
  pub g : Gone
  pub found : q.arm n ≡ Some a
  pub gone : a.gone ≡ Some g
  pub slot_is : g.slot ≡ slot

-- an arm of a slot, still or until a commit
abbrev pub HasSlot : Core → ℕ → ArmName → Type 0
HasSlot q slot n = (has_name (q.order slot) n ≡ true) ⊎ WasArm q slot n

-- an arm of a slot, still or until a detachment for which a group or a later one was open
abbrev pub HadSlot : Core → ℕ → ℕ → ArmName → Type 0
HadSlot q group slot n = (has_name (q.order slot) n ≡ true) ⊎ ((was : WasArm q slot n) × (group ≤ was.g.group))

-- a spare kept a stripe on a leaf: by some table of first spares, and both those spares and the leaf were arms until a group or longer
pub record LayOn (l : Layout) (q : Core) (group spare x leaf : ℕ) : Type 0 where
  pub there : spare < l.spares
  pub first : ℕ → Option ℕ
  pub owners : (slot t : ℕ) → first slot ≡ Some t → HadSlot q group slot (Spare t)
  pub leaf_of : HadSlot q group (l.home first spare x) (Leaf leaf)

-- a leaf arm keeps its segments on itself, a spare where it lay until a group
abbrev pub KeptOn : Layout → Core → ℕ → ArmName → ℕ → ℕ → Type 0
KeptOn l q group (Leaf m) x leaf = leaf ≡ m
KeptOn l q group (Spare t) x leaf = LayOn l q group t x leaf

-- a segment of a block or a ticket is kept, where an arm of its column's slot had it as it lost its place
pub record IsKept (l : Layout) (w : State) (s : Segment) (h : Held) : Type 0 where
  pub group : ℕ
  pub kept : w.kept s ≡ Some group
  pub arm : HadSlot w.core group (l.slot_of h.first s.column) s.arm
  pub on : KeptOn l w.core group s.arm (h.first + s.row) s.leaf

-- a segment of a block, or of a column that a ticket has put; it is at a place, or kept
pub record IsOwned (l : Layout) (w : State) (s : Segment) : Type 0 where
  pub h : Held
  pub held : w.core.held s.key ≡ Some h
  pub column : s.column < l.columns
  pub row : s.row < h.stripes
  pub put : is_put h.stage s.column ≡ true
  pub place : (is_at l w.core s ≡ true) ⊎ IsKept l w s h

-- what is kept is present; its group is open or closing, and is before the max of a rebuild, so that none is kept while one runs
pub record KeptSound (w : State) : Type 0 where
  pub present : (s : Segment) (g : ℕ) → w.kept s ≡ Some g → w.present s ≡ true
  pub later : (s : Segment) (g : ℕ) → w.kept s ≡ Some g → w.committed < g
  pub upto : (s : Segment) (g : ℕ) → w.kept s ≡ Some g → g ≤ w.open_group
  pub rebuild : (p : Pass) (s : Segment) (g : ℕ) → w.core.pass ≡ Some p → p.kind ≡ Rebuild → w.kept s ≡ Some g → g < p.max

-- what is aside is of a block or a ticket, and at a place or kept
pub record AsideSound (l : Layout) (w : State) : Type 0 where
  pub held : (s : Segment) → w.aside s ≡ true → (h : Held) × (w.core.held s.key ≡ Some h)
  pub place : (s : Segment) → w.aside s ≡ true → (is_at l w.core s ≡ true) ⊎ ((g : ℕ) × (w.kept s ≡ Some g))

-- a spare that is an arm, or was one, is one of the layout's, and never offline
abbrev pub SparesFit : Layout → Core → Type 0
SparesFit l q = (t : ℕ) (a : Arm) → q.arm (Spare t) ≡ Some a → (t < l.spares) × (a.offline ≡ false)

pub record Owned (l : Layout) (w : State) : Type 0 where
  pub listed : AreListed w.core
  pub gone : (n : ArmName) (a : Arm) (g : Gone) → w.core.arm n ≡ Some a → a.gone ≡ Some g → g.group ≤ w.open_group
  pub spares : SparesFit l w.core
  pub images : (img : Image) → IsImage w img → AreListed img.core × SparesFit l img.core
  pub present : (s : Segment) → w.present s ≡ true → IsOwned l w s
  pub kept : KeptSound w
  pub aside : AsideSound l w

-- a segment is there: present, or at a place
abbrev pub IsThere : Layout → State → Segment → Type 0
IsThere l w s = (w.present s ≡ true) ⊎ (is_at l w.core s ≡ true)

-- where a segment of a block or a ticket lies: on a leaf, at a sector of the metaslab
pub record LiesAt (l : Layout) (q : Core) (s : Segment) (leaf sector : ℕ) : Type 0 where
  pub h : Held
  pub held : q.held s.key ≡ Some h
  pub leaf_is : s.leaf ≡ leaf
  pub sector_is : l.sector_of (h.first + s.row) s.column ≡ sector
