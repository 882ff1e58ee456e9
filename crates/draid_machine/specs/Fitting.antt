use Rattle.std.specs.Prelude.{◌≡◌, ◌+◌, ◌<◌, ◌≤◌, ◌⊎◌, ℕ, true, false, List, [], ◌∷◌, Option, Some, None, Contains, filter, length}
use Rattle.draid_names.specs.Numbers.{most_held}
use Rattle.draid_names.specs.declared.numbers.TheConstants.{LAST_NUMBER}
use Rattle.draid_names.specs.declared.pass_kind.PassKind.TheVariants.{Rebuild}
use Rattle.draid_machine.specs.declared.names.Key.{Key}
use Rattle.draid_machine.specs.declared.names.ArmName.{ArmName}
use Rattle.draid_machine.specs.declared.names.ArmName.TheVariants.{Leaf}
use Rattle.draid_machine.specs.declared.names.Held.{Held}
use Rattle.draid_machine.specs.declared.event.Event.{Event}
use Rattle.draid_machine.specs.Concerns.{is_done, is_opening}
use Rattle.draid_machine.specs.Names.{has_name}
use Rattle.draid_machine.specs.State.{Layout, Arm, Pass, Core, Loan, Image, State}
use Rattle.draid_machine.specs.Arms.{arms_below, has_moved, leaf_at}
use Rattle.draid_machine.specs.Images.{IsImage}

-- ---- what else every legal history keeps: that a state, and each of its images, can be written as a record

-- at most so many blocks and tickets, each with a stripe
pub record HeldFits (limit : ℕ) (held : Key → Option Held) : Type 0 where
  pub some : (k : Key) (h : Held) → held k ≡ Some h → 0 < h.stripes
  pub keys : List Key
  pub all : (k : Key) (h : Held) → held k ≡ Some h → Contains keys k
  pub few : length keys ≤ limit

-- a list has no arm twice
abbrev pub IsOnce : List ArmName → Type 0
IsOnce [] = Unit {0}
IsOnce (n ∷ ns) = (has_name ns n ≡ false) × IsOnce ns

-- each slot that is there has a leaf and at most three arms, none of them twice, and no other slot has any
pub record OrderFits (l : Layout) (order : ℕ → List ArmName) : Type 0 where
  pub leaf : (c : ℕ) → c < l.slots → (m : ℕ) × (has_name (order c) (Leaf m) ≡ true)
  pub three : (c : ℕ) → length (order c) ≤ 3
  pub once : (c : ℕ) → IsOnce (order c)
  pub slots : (c : ℕ) (n : ArmName) → has_name (order c) n ≡ true → c < l.slots

-- the pass has the last number and stands within the metaslab, its targets are arms of the slots in their order, and its numbers are in range
pub record PassFits (l : Layout) (order : ℕ → List ArmName) (last : ℕ) (p : Pass) : Type 0 where
  pub number : p.number ≡ last
  pub next : p.next ≤ l.stripes
  pub max : p.max ≤ LAST_NUMBER
  pub errors : p.errors ≤ LAST_NUMBER
  pub targets : p.targets ≡ filter (has_name p.targets) (arms_below order l.slots)

pub record CoreFits (l : Layout) (version : ℕ) (q : Core) : Type 0 where
  pub held : HeldFits (most_held version) q.held
  pub order : OrderFits l q.order
  pub last : q.last ≤ LAST_NUMBER
  pub pass : (p : Pass) → q.pass ≡ Some p → PassFits l q.order q.last p

abbrev pub IsVersion : ℕ → Type 0
IsVersion version = (version ≡ 1) ⊎ (version ≡ 2)

-- the committed image is of the committed version, a sealed one of that which is asked for, and this is no earlier one
pub record VersionsFit (w : State) : Type 0 where
  pub committed : IsVersion w.version
  pub asked : IsVersion w.asked
  pub least : w.version ≤ w.asked
  pub image : w.image.version ≡ w.version
  pub sealed : (img : Image) → w.sealed ≡ Some img → img.version ≡ w.asked

pub record Fitting (l : Layout) (w : State) : Type 0 where
  pub versions : VersionsFit w
  pub open_group : w.open_group ≤ LAST_NUMBER
  pub core : CoreFits l w.version w.core
  pub images : (img : Image) → IsImage w img → CoreFits l img.version img.core

-- ---- the loan that counts
-- what was read for a column, and what it is taken from, are arms of the column's slot; what a rebuild's column is taken from is present
pub record LoanReads (l : Layout) (w : State) (n : Loan) : Type 0 where
  pub chosen : (c : ℕ) (m : ArmName) → n.chosen c ≡ Some m → (c < l.columns) × (has_name (w.core.order (l.slot_of n.stripe c)) m ≡ true)
  pub read : (c : ℕ) (m : ArmName) → has_name (n.read c) m ≡ true → (c < l.columns) × (has_name (w.core.order (l.slot_of n.stripe c)) m ≡ true)
  pub present : (p : Pass) (h : Held) (c row leaf : ℕ) (m : ArmName) → w.core.pass ≡ Some p → p.kind ≡ Rebuild → w.core.held n.key ≡ Some h → n.chosen c ≡ Some m
      → h.first + row ≡ n.stripe → leaf_at l w.core.order m n.stripe ≡ Some leaf → w.present (record { key = n.key; column = c; arm = m; leaf = leaf; row = row }) ≡ true

-- ---- logs
-- a pass that ran is done, without errors, that had the arm among its targets, and made the group good
pub record MadeGood (w : State) (event : Event) (new : State) (n : ArmName) (g : ℕ) : Type 0 where
  pub done : is_done event ≡ true
  pub p : Pass
  pub pass : w.core.pass ≡ Some p
  pub running : p.running ≡ true
  pub target : has_name p.targets n ≡ true
  pub errors : p.errors ≡ 0
  pub group : g ≤ p.max
  pub ends : new.core.pass ≡ None

-- a log loses a group only at the end of such a pass, where the arm comes to lie elsewhere, or by an opening
abbrev pub KeepsLogs : Layout → State → Event → State → Type 0
KeepsLogs l w event new =
    (n : ArmName) (a b : Arm) (g : ℕ) → w.core.arm n ≡ Some a → new.core.arm n ≡ Some b → a.log g ≡ true → b.log g ≡ false
    → MadeGood w event new n g ⊎ ((has_moved l w.core new.core n ≡ true) ⊎ (is_opening event ≡ true))

-- ---- freshness
-- a pass that ran is done, without errors, that had the arm among its targets
pub record MadeWhole (w : State) (event : Event) (n : ArmName) : Type 0 where
  pub done : is_done event ≡ true
  pub p : Pass
  pub pass : w.core.pass ≡ Some p
  pub running : p.running ≡ true
  pub target : has_name p.targets n ≡ true
  pub errors : p.errors ≡ 0

-- an arm is fresh until the end of such a pass, or an opening
abbrev pub KeepsFresh : State → Event → State → Type 0
KeepsFresh w event new =
    (n : ArmName) (a b : Arm) → w.core.arm n ≡ Some a → new.core.arm n ≡ Some b → a.fresh ≡ true → b.fresh ≡ false → MadeWhole w event n ⊎ (is_opening event ≡ true)
