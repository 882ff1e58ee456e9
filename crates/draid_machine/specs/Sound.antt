use Rattle.std.specs.Prelude.{◌≡◌, ◌+◌, ◌/◌, ◌<◌, ◌≤◌, ◌⊎◌, ℕ, true, false, Option, Some, None}
use Rattle.draid_names.specs.declared.pass_kind.PassKind.TheVariants.{Rebuild, Heal}
use Rattle.draid_machine.specs.declared.names.Key.{Key}
use Rattle.draid_machine.specs.declared.names.ArmName.{ArmName}
use Rattle.draid_machine.specs.declared.names.Stage.TheVariants.{Writing}
use Rattle.draid_machine.specs.declared.names.Held.{Held}
use Rattle.draid_machine.specs.declared.names.Segment.{Segment}
use Rattle.draid_machine.specs.Names.{has_name, is_block, is_put, takes}
use Rattle.draid_machine.specs.State.{Layout, Arm, Pass, Core, Loan, Image, State}
use Rattle.draid_machine.specs.Claims.{IsOn, passed}
use Rattle.draid_machine.specs.Step.{is_lent}

-- ---- log soundness

pub record LogSound (l : Layout) (w : State) : Type 0 where
  -- a segment of a block is present on an arm that is clean for the block
  pub clean : (s : Segment) (h : Held) (a : Arm) → IsOn l w.core s h a → is_block h.stage ≡ true → a.log h.birth ≡ false → w.present s ≡ true
  -- what a running pass without errors has passed is present on its targets
  pub passed : (p : Pass) (s : Segment) (h : Held) (a : Arm) → w.core.pass ≡ Some p → p.running ≡ true → p.errors ≡ 0 → IsOn l w.core s h a → is_block h.stage ≡ true
      → has_name p.targets s.arm ≡ true → h.birth ≤ p.max → h.first + s.row < p.next → w.present s ≡ true
  -- of each column that a ticket has put, each arm of the slot has the segment or the birth in its log
  pub put : (s : Segment) (h : Held) (a : Arm) (c m : ℕ) → IsOn l w.core s h a → h.stage ≡ Writing c m → s.column < c → (w.present s ≡ true) ⊎ (a.log h.birth ≡ true)
  -- no stripe has two owners, no birth is later than the group after the open one, and tickets are born above the committed group
  pub apart : (k j : Key) (h i : Held) (x : ℕ) → w.core.held k ≡ Some h → w.core.held j ≡ Some i → takes h x ≡ true → takes i x ≡ true → k ≡ j
  pub births : (k : Key) (h : Held) → w.core.held k ≡ Some h → h.birth ≤ w.open_group + 1
  pub tickets : (k : Key) (h : Held) → w.core.held k ≡ Some h → is_block h.stage ≡ false → w.committed < h.birth
  -- no target of a rebuild is clean for a block or a ticket; while it runs there is no ticket and no birth above the committed group
  pub targets : (p : Pass) (n : ArmName) (a : Arm) (k : Key) (h : Held) → w.core.pass ≡ Some p → p.kind ≡ Rebuild → has_name p.targets n ≡ true → w.core.arm n ≡ Some a
      → w.core.held k ≡ Some h → a.log h.birth ≡ true
  pub quiet : (p : Pass) (k : Key) (h : Held) → w.core.pass ≡ Some p → p.kind ≡ Rebuild → p.running ≡ true → w.core.held k ≡ Some h
      → (is_block h.stage ≡ true) × (h.birth ≤ w.committed)
  -- a planned pass is at the first stripe, and no loan of it counts
  pub planned : (p : Pass) → w.core.pass ≡ Some p → p.running ≡ false → (p.next ≡ 0) × (w.loan ≡ None)

-- ---- what every legal history keeps, so that log soundness follows

-- a segment that has to be there
pub record IsClaimed (l : Layout) (q : Core) (s : Segment) : Type 0 where
  pub h : Held
  pub a : Arm
  pub on : IsOn l q s h a
  pub put : is_put h.stage s.column ≡ true
  pub why : (a.log h.birth ≡ false) ⊎ ((is_block h.stage ≡ true) × (passed q.pass s.arm h s.row ≡ true))

-- of blocks and tickets born up to a group, over a committed one
pub record CoreSound (l : Layout) (committed top : ℕ) (q : Core) : Type 0 where
  pub apart : (k j : Key) (h i : Held) (x : ℕ) → q.held k ≡ Some h → q.held j ≡ Some i → takes h x ≡ true → takes i x ≡ true → k ≡ j
  pub runs : (k : Key) (h : Held) (r : ℕ) → q.held k ≡ Some h → r < h.stripes → (h.first + r) / l.height ≡ h.first / l.height
  pub inside : (k : Key) (h : Held) → q.held k ≡ Some h → h.first + h.stripes ≤ l.stripes
  pub some : (k : Key) (h : Held) → q.held k ≡ Some h → 1 ≤ h.birth
  pub births : (k : Key) (h : Held) → q.held k ≡ Some h → h.birth ≤ top
  pub tickets : (k : Key) (h : Held) → q.held k ≡ Some h → is_block h.stage ≡ false → committed < h.birth
  pub targets : (p : Pass) (n : ArmName) (a : Arm) (k : Key) (h : Held) → q.pass ≡ Some p → p.kind ≡ Rebuild → has_name p.targets n ≡ true → q.arm n ≡ Some a
      → q.held k ≡ Some h → a.log h.birth ≡ true
  pub quiet : (p : Pass) (k : Key) (h : Held) → q.pass ≡ Some p → p.kind ≡ Rebuild → p.running ≡ true → q.held k ≡ Some h
      → (is_block h.stage ≡ true) × (h.birth ≤ committed)
  pub planned : (p : Pass) → q.pass ≡ Some p → p.running ≡ false → (p.kind ≡ Rebuild) × (p.next ≡ 0)
  pub heal : (p : Pass) → q.pass ≡ Some p → p.kind ≡ Heal → p.max ≤ committed

-- the loan that counts: its pass runs, its block has the stripe, and no block of the pass has one between the place where the pass stands and it
pub record LoanFits (q : Core) (n : Loan) : Type 0 where
  pub p : Pass
  pub h : Held
  pub pass : q.pass ≡ Some p
  pub running : p.running ≡ true
  pub found : q.held n.key ≡ Some h
  pub block : is_block h.stage ≡ true
  pub taken : takes h n.stripe ≡ true
  pub lent : is_lent p h ≡ true
  pub from : p.next ≤ n.stripe
  pub clear : (k : Key) (i : Held) (x : ℕ) → q.held k ≡ Some i → is_block i.stage ≡ true → i.birth ≤ p.max → takes i x ≡ true → p.next ≤ x → x < n.stripe → ⊥

-- an image is of blocks alone, and sound as a state is
pub record ImageSound (l : Layout) (img : Image) : Type 0 where
  pub core : CoreSound l img.group img.group img.core
  pub blocks : (k : Key) (h : Held) → img.core.held k ≡ Some h → is_block h.stage ≡ true

-- the groups: the open one follows the committed one, or the closing one that follows that; tickets are born above a sealed one
pub record GroupsSound (open_group committed : ℕ) (closing : Option ℕ) (image : Image) (sealed : Option Image) (held : Key → Option Held) : Type 0 where
  pub some : 1 ≤ committed
  pub idle : closing ≡ None → (open_group ≡ committed + 1) × (sealed ≡ None)
  pub closing_is : (t : ℕ) → closing ≡ Some t → (t ≡ committed + 1) × (open_group ≡ t + 1)
  pub sealed_is : (img : Image) → sealed ≡ Some img → closing ≡ Some img.group
  pub image_is : image.group ≡ committed
  pub tickets : (img : Image) (k : Key) (h : Held) → sealed ≡ Some img → held k ≡ Some h → is_block h.stage ≡ false → img.group < h.birth

pub record Sound (l : Layout) (w : State) : Type 0 where
  pub core : CoreSound l w.committed (w.open_group + 1) w.core
  pub groups : GroupsSound w.open_group w.committed w.closing w.image w.sealed w.core.held
  pub loan : (n : Loan) → w.loan ≡ Some n → LoanFits w.core n
  pub covered : (s : Segment) → IsClaimed l w.core s → w.present s ≡ true
  pub image : ImageSound l w.image
  pub sealed : (img : Image) → w.sealed ≡ Some img → ImageSound l img

-- ---- what else every legal history keeps: logs have groups from 1 to the one after the open one
pub record LogsWithin (w : State) : Type 0 where
  pub low : (n : ArmName) (a : Arm) (g : ℕ) → w.core.arm n ≡ Some a → a.log g ≡ true → 1 ≤ g
  pub high : (n : ArmName) (a : Arm) (g : ℕ) → w.core.arm n ≡ Some a → a.log g ≡ true → g ≤ w.open_group + 1
  pub image : (n : ArmName) (a : Arm) (g : ℕ) → w.image.core.arm n ≡ Some a → a.log g ≡ true → 1 ≤ g
  pub sealed : (img : Image) (n : ArmName) (a : Arm) (g : ℕ) → w.sealed ≡ Some img → img.core.arm n ≡ Some a → a.log g ≡ true → 1 ≤ g
