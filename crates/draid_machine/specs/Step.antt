use Rattle.std.specs.Prelude.{◌≡◌, ◌==◌, ◌≢◌, ◌+◌, ◌-◌, ◌/◌, ◌<◌, ◌≤◌, ◌⊎◌, ◌||◌, ◌&&◌, not, ℕ, Bool, true, false, nat_le, List, [], ◌∷◌, Option, Some, None, length, filter, Contains, if◌then◌else◌}
use Rattle.draid_names.specs.Numbers.{most_held}
use Rattle.draid_names.specs.declared.numbers.TheConstants.{LAST_NUMBER}
use Rattle.draid_names.specs.declared.pass_kind.PassKind.{PassKind}
use Rattle.draid_names.specs.declared.pass_kind.PassKind.TheVariants.{Rebuild, Heal}
use Rattle.draid_machine.specs.declared.names.Key.{Key}
use Rattle.draid_machine.specs.declared.names.ArmName.{ArmName}
use Rattle.draid_machine.specs.declared.names.ArmName.TheVariants.{Leaf, Spare}
use Rattle.draid_machine.specs.declared.names.Stage.TheVariants.{Writing, Live}
use Rattle.draid_machine.specs.declared.names.Held.{Held}
use Rattle.draid_machine.specs.declared.names.Segment.{Segment}
use Rattle.draid_machine.specs.declared.event.Patched.{Patched}
use Rattle.draid_machine.specs.declared.event.Event.{Event}
use Rattle.draid_machine.specs.declared.event.Event.TheVariants.{Begin, Put, Finish, Abort, Free, Fetch, Damage, Offline, Online, Attach, Detach, Upgrade, Close, Seal, Commit, Plan, Ready, Lend, LandStripe, LandBlock, Done, Cancel, Reopen}
use Rattle.draid_machine.specs.Names.{name_eq, has_name, has_number, is_leaf, is_heal, is_block, is_freed_by, takes}
use Rattle.draid_machine.specs.State.{Layout, Arm, Pass, Core, Loan, Image, State}
use Rattle.draid_machine.specs.Arms.{answers, fails, leaf_at, lies_on, leaf_answers, is_clean, has_column, reading, IsSource, HasEmptyLog, targets_of}
use Rattle.draid_machine.specs.After.{begin_state, put_state, gone_state, finish_state, free_state, switch_state, attach_state, detach_state, upgrade_state, close_state, seal_state, commit_state, plan_state, ready_state, lend_state, unsourced, land_stripe_state, was_written, has_landed, land_block_state, ended_pass, done_state, cancel_state, reopen_state}

-- ---- room

-- a block or a ticket has the stripe
pub record IsTaken (q : Core) (x : ℕ) : Type 0 where
  pub key : Key
  pub held : Held
  pub found : q.held key ≡ Some held
  pub taken : takes held x ≡ true

-- a run of so many stripes fits from one on: inside the metaslab, within one parity group, and free
pub record Fits (l : Layout) (q : Core) (first stripes : ℕ) : Type 0 where
  pub inside : first + stripes ≤ l.stripes
  pub group : (first + stripes - 1) / l.height ≡ first / l.height
  pub free : (x : ℕ) → first ≤ x → x < first + stripes → IsTaken q x → ⊥

-- the longest run of free stripes within one parity group
pub record IsLongest (l : Layout) (q : Core) (run : ℕ) : Type 0 where
  pub fits : (run ≡ 0) ⊎ ((first : ℕ) × Fits l q first run)
  pub longest : (first stripes : ℕ) → 0 < stripes → Fits l q first stripes → stripes ≤ run

-- so few blocks and tickets that a list shorter than the limit has all their keys
pub record HoldsFewer (q : Core) (limit : ℕ) : Type 0 where
  pub keys : List Key
  pub all : (k : Key) (h : Held) → q.held k ≡ Some h → Contains keys k
  pub few : length keys < limit

-- the pass, if any, isn't a rebuild
abbrev pub IsEnabled : Core → Type 0
IsEnabled q = (p : Pass) → q.pass ≡ Some p → p.kind ≡ Heal

-- the greater of the open group and a floor of at most the next one
pub record IsDue (w : State) (group : ℕ) : Type 0 where
  pub from : w.open_group ≤ group
  pub upto : group ≤ w.open_group + 1

-- ---- tickets and blocks

-- Begin: no rebuild, a new key, room in the table, and the lowest run that fits
pub record BeginStep (l : Layout) (w : State) (key : Key) (h : Held) (new : State) : Type 0 where
  pub enabled : IsEnabled w.core
  pub unused : w.core.held key ≡ None
  pub few : HoldsFewer w.core (most_held w.version)
  pub some : 0 < h.stripes
  pub fits : Fits l w.core h.first h.stripes
  pub lowest : (x : ℕ) → x < h.first → Fits l w.core x h.stripes → ⊥
  pub birth : IsDue w h.birth
  pub made : new ≡ begin_state w key h

-- a leaf on which a call on an arm of a column failed
pub record FailsThere (l : Layout) (q : Core) (h : Held) (c leaf : ℕ) : Type 0 where
  pub arm : ArmName
  pub listed : has_name (q.order (l.slot_of h.first c)) arm ≡ true
  pub lies : leaf_at l q.order arm h.first ≡ Some leaf
  pub answers : leaf_answers q leaf ≡ true

-- Put: the next column; it lands on each arm of the slot that answers and whose leaf didn't fail
pub record PutStep (l : Layout) (w : State) (key : Key) (landed : List ArmName) (failed : List ℕ) (new : State) : Type 0 where
  pub h : Held
  pub c : ℕ
  pub m : ℕ
  pub found : w.core.held key ≡ Some h
  pub stage : h.stage ≡ Writing c m
  pub more : c < l.columns
  pub listed : (n : ArmName) → has_name landed n ≡ true → has_name (w.core.order (l.slot_of h.first c)) n ≡ true
  pub lands : (n : ArmName) → has_name (w.core.order (l.slot_of h.first c)) n ≡ true → has_name landed n ≡ (answers l w.core n h.first && not (fails l w.core failed n h.first))
  pub fail : (leaf : ℕ) → has_number failed leaf ≡ true → FailsThere l w.core h c leaf
  pub made : new ≡ put_state l w key landed h c m

-- Finish: all columns put; a block, or missed with more columns that landed nowhere than the parity
pub record FinishStep (l : Layout) (w : State) (key : Key) (new : State) : Type 0 where
  pub h : Held
  pub m : ℕ
  pub found : w.core.held key ≡ Some h
  pub stage : h.stage ≡ Writing l.columns m
  pub made : new ≡ finish_state l w key h m

-- Abort: a ticket
pub record AbortStep (w : State) (key : Key) (new : State) : Type 0 where
  pub h : Held
  pub found : w.core.held key ≡ Some h
  pub ticket : is_block h.stage ≡ false
  pub made : new ≡ gone_state w key

-- Free: a live block
pub record FreeStep (w : State) (key : Key) (group : ℕ) (new : State) : Type 0 where
  pub h : Held
  pub found : w.core.held key ≡ Some h
  pub live : h.stage ≡ Live
  pub due : IsDue w group
  pub made : new ≡ free_state w key h group

-- Fetch: a live block; calls fail on leaves of reading arms alone
pub record FetchStep (l : Layout) (w : State) (key : Key) (failed : List ℕ) (new : State) : Type 0 where
  pub h : Held
  pub found : w.core.held key ≡ Some h
  pub live : h.stage ≡ Live
  pub fail : (leaf : ℕ) → has_number failed leaf ≡ true → (c : ℕ) × (n : ArmName) × (c < l.columns) × (reading l w.core h c ≡ Some n) × (leaf_at l w.core.order n h.first ≡ Some leaf)
  pub made : new ≡ w

-- ---- leaves and arms

-- a leaf that is an arm of a slot
pub record IsLeafThere (q : Core) (leaf : ℕ) (a : Arm) : Type 0 where
  pub slot : ℕ
  pub listed : has_name (q.order slot) (Leaf leaf) ≡ true
  pub found : q.arm (Leaf leaf) ≡ Some a

-- Damage: a sector of the metaslab on a leaf that is an arm, or was one and its detachment isn't committed
pub record DamageStep (l : Layout) (w : State) (leaf sector : ℕ) (new : State) : Type 0 where
  pub a : Arm
  pub found : w.core.arm (Leaf leaf) ≡ Some a
  pub inside : sector < l.sectors
  pub made : new ≡ w

-- Offline, Online
pub record SwitchStep (w : State) (leaf : ℕ) (offline : Bool) (new : State) : Type 0 where
  pub a : Arm
  pub there : IsLeafThere w.core leaf a
  pub made : new ≡ switch_state w (Leaf leaf) a offline

-- a spare that is there, or a leaf
abbrev pub IsArmName : Layout → ArmName → Type 0
IsArmName l (Leaf m) = Unit {0}
IsArmName l (Spare t) = t < l.spares

-- the open group, or the greatest birth where that is greater
pub record IsLast (w : State) (last : ℕ) : Type 0 where
  pub one : (last ≡ w.open_group) ⊎ ((k : Key) × (h : Held) × (w.core.held k ≡ Some h) × (h.birth ≡ last))
  pub open_group : w.open_group ≤ last
  pub births : (k : Key) (h : Held) → w.core.held k ≡ Some h → h.birth ≤ last

-- a rebuild, if there is one, can be planned again: there is a number after the last, and a group after the open one
abbrev pub MayReplan : State → Type 0
MayReplan w = (p : Pass) → w.core.pass ≡ Some p → p.kind ≡ Rebuild → (w.core.last < LAST_NUMBER) × (w.open_group < LAST_NUMBER)

-- Attach: a slot and an arm that are there, the arm in no slot and in no detachment that isn't committed, and room for a third at most
pub record AttachStep (l : Layout) (w : State) (slot : ℕ) (n : ArmName) (new : State) : Type 0 where
  pub last : ℕ
  pub slot_is : slot < l.slots
  pub arm_is : IsArmName l n
  pub unused : w.core.arm n ≡ None
  pub room : length (w.core.order slot) < 3
  pub may : MayReplan w
  pub last_is : IsLast w last
  pub made : new ≡ attach_state l w slot n last

-- a leaf leaves another leaf in its slot
abbrev pub LeavesLeaf : Core → ℕ → ArmName → Type 0
LeavesLeaf q slot n = is_leaf n ≡ true → (m : ℕ) × (has_name (q.order slot) (Leaf m) ≡ true) × (name_eq n (Leaf m) ≡ false)

-- another arm of the slot has an empty log
pub record HasOther (q : Core) (slot : ℕ) (n : ArmName) : Type 0 where
  pub other : ArmName
  pub listed : has_name (q.order slot) other ≡ true
  pub differs : name_eq n other ≡ false
  pub empty : HasEmptyLog q other

-- Detach
pub record DetachStep (l : Layout) (w : State) (slot : ℕ) (n : ArmName) (new : State) : Type 0 where
  pub a : Arm
  pub last : ℕ
  pub listed : has_name (w.core.order slot) n ≡ true
  pub found : w.core.arm n ≡ Some a
  pub idle : w.core.pass ≡ None
  pub leaves : LeavesLeaf w.core slot n
  pub other : HasOther w.core slot n
  pub last_is : IsLast w last
  pub made : new ≡ detach_state l w slot n a last

-- ---- versions

-- Upgrade: version 1 is asked for, and no group is closing
pub record UpgradeStep (w : State) (new : State) : Type 0 where
  pub asked : w.asked ≡ 1
  pub idle : w.closing ≡ None
  pub made : new ≡ upgrade_state w

-- ---- groups

-- Close: the open group, below the last number, with none closing
pub record CloseStep (w : State) (t : ℕ) (new : State) : Type 0 where
  pub open_group : w.open_group ≡ t
  pub below : t < LAST_NUMBER
  pub idle : w.closing ≡ None
  pub made : new ≡ close_state w t

-- a block born in a group and not freed up to it
pub record HasWritten (q : Core) (t : ℕ) : Type 0 where
  pub key : Key
  pub h : Held
  pub found : q.held key ≡ Some h
  pub block : is_block h.stage ≡ true
  pub born : h.birth ≡ t
  pub stays : is_freed_by t h.stage ≡ false

-- Seal: the closing group, not sealed, and no ticket born up to it; flushes fail on leaves that aren't offline alone
pub record SealStep (l : Layout) (w : State) (t : ℕ) (failed : List ℕ) (new : State) : Type 0 where
  pub wrote : Bool
  pub closing : w.closing ≡ Some t
  pub unsealed : w.sealed ≡ None
  pub settled : (k : Key) (h : Held) → w.core.held k ≡ Some h → is_block h.stage ≡ false → t < h.birth
  pub writes : wrote ≡ true → HasWritten w.core t
  pub no_writes : wrote ≡ false → HasWritten w.core t → ⊥
  pub fail : (leaf : ℕ) → has_number failed leaf ≡ true → (a : Arm) × (w.core.arm (Leaf leaf) ≡ Some a) × (a.offline ≡ false)
  pub made : new ≡ seal_state l w t failed wrote

-- Commit: the sealed group
pub record CommitStep (l : Layout) (w : State) (t : ℕ) (new : State) : Type 0 where
  pub image : Image
  pub closing : w.closing ≡ Some t
  pub sealed : w.sealed ≡ Some image
  pub made : new ≡ commit_state l w t image

-- ---- the pass

-- a rebuild wants a target and a group after the open one
abbrev pub MayPlan : State → PassKind → List ArmName → Type 0
MayPlan w Rebuild targets = (targets ≢ []) × (w.open_group < LAST_NUMBER)
MayPlan w Heal targets = Unit {0}

-- Plan
pub record PlanStep (l : Layout) (w : State) (kind : PassKind) (new : State) : Type 0 where
  pub idle : w.core.pass ≡ None
  pub last : w.core.last < LAST_NUMBER
  pub may : MayPlan w kind (targets_of l w.core kind)
  pub made : new ≡ plan_state w kind (targets_of l w.core kind)

-- Ready: a planned rebuild; no ticket, and the committed group reaches the group before max and each birth
pub record ReadyStep (w : State) (new : State) : Type 0 where
  pub p : Pass
  pub pass : w.core.pass ≡ Some p
  pub rebuild : p.kind ≡ Rebuild
  pub planned : p.running ≡ false
  pub blocks : (k : Key) (h : Held) → w.core.held k ≡ Some h → is_block h.stage ≡ true
  pub births : (k : Key) (h : Held) → w.core.held k ≡ Some h → h.birth ≤ w.committed
  pub committed : p.max ≤ w.committed + 1
  pub made : new ≡ ready_state w p

-- what a pass lends: a rebuild each stripe that is taken, a scrub those of blocks born up to max
abbrev pub is_lent : Pass → Held → Bool
is_lent p h = not (is_heal p.kind) || (is_block h.stage && nat_le h.birth p.max)

-- the first stripe to lend, and the block that has it
pub record IsNext (q : Core) (p : Pass) (key : Key) (h : Held) (stripe : ℕ) : Type 0 where
  pub found : q.held key ≡ Some h
  pub lent : is_lent p h ≡ true
  pub taken : takes h stripe ≡ true
  pub from : p.next ≤ stripe
  pub first : (k : Key) (i : Held) (x : ℕ) → q.held k ≡ Some i → is_lent p i ≡ true → takes i x ≡ true → p.next ≤ x → x < stripe → ⊥

-- an arm unless its leaf failed
abbrev pub unless_failed : Layout → Core → ℕ → List ℕ → Option ArmName → Option ArmName
unless_failed l q x failed None = None
unless_failed l q x failed (Some n) = if fails l q failed n x then None else Some n

-- the arm that a column is taken from: in a rebuild its source, in a scrub its reading arm, unless its leaf failed
pub record IsChosen (l : Layout) (q : Core) (p : Pass) (h : Held) (x : ℕ) (failed : List ℕ) (c : ℕ) (chosen : Option ArmName) : Type 0 where
  pub from : Option ArmName
  pub rebuild : is_heal p.kind ≡ false → IsSource l q x c from
  pub heal : is_heal p.kind ≡ true → from ≡ reading l q h c
  pub chosen_is : chosen ≡ unless_failed l q x failed from

-- the arms that are read for a column: in a rebuild the chosen one, in a scrub each that answers, but those of leaves that failed
abbrev pub to_list : Option ArmName → List ArmName
to_list None = []
to_list (Some n) = n ∷ []

abbrev pub arms_read : Layout → Core → Pass → Held → ℕ → List ℕ → ℕ → Option ArmName → List ArmName
arms_read l q p h x failed c chosen =
    if is_heal p.kind then filter (λ n. answers l q n x && not (fails l q failed n x)) (q.order (l.slot_of h.first c)) else to_list chosen

-- a leaf from which a loan reads: in a rebuild that of a source, in a scrub each that answers
pub record ReadsThere (l : Layout) (q : Core) (p : Pass) (h : Held) (x leaf : ℕ) : Type 0 where
  pub c : ℕ
  pub n : ArmName
  pub column : c < l.columns
  pub rebuild : is_heal p.kind ≡ false → IsSource l q x c (Some n)
  pub heal : is_heal p.kind ≡ true → (has_name (q.order (l.slot_of h.first c)) n ≡ true) × (answers l q n x ≡ true)
  pub lies : leaf_at l q.order n x ≡ Some leaf

-- Lend: the pass runs, and something is left
pub record LendStep (l : Layout) (w : State) (failed : List ℕ) (new : State) : Type 0 where
  pub p : Pass
  pub h : Held
  pub n : Loan
  pub pass : w.core.pass ≡ Some p
  pub running : p.running ≡ true
  pub next : IsNext w.core p n.key h n.stripe
  pub serial : n.serial ≡ w.serial + 1
  pub chosen : (c : ℕ) → c < l.columns → IsChosen l w.core p h n.stripe failed c (n.chosen c)
  pub no_more : (c : ℕ) → l.columns ≤ c → n.chosen c ≡ None
  pub read : (c : ℕ) → c < l.columns → n.read c ≡ arms_read l w.core p h n.stripe failed c (n.chosen c)
  pub read_none : (c : ℕ) → l.columns ≤ c → n.read c ≡ []
  pub fail : (leaf : ℕ) → has_number failed leaf ≡ true → ReadsThere l w.core p h n.stripe leaf
  pub made : new ≡ lend_state w p n failed

-- the pass and the loan have these numbers, and the loan counts
pub record Counts (w : State) (pass serial : ℕ) (p : Pass) (n : Loan) (h : Held) : Type 0 where
  pub pass_is : w.core.pass ≡ Some p
  pub number : p.number ≡ pass
  pub loan : w.loan ≡ Some n
  pub serial_is : n.serial ≡ serial
  pub found : w.core.held n.key ≡ Some h

-- a leaf of a target that has a column of the stripe and answers
pub record MendsThere (l : Layout) (q : Core) (p : Pass) (x leaf : ℕ) : Type 0 where
  pub arm : ArmName
  pub target : has_name p.targets arm ≡ true
  pub column : has_column l q arm x ≡ true
  pub lies : leaf_at l q.order arm x ≡ Some leaf
  pub answers : leaf_answers q leaf ≡ true

-- Land of a rebuild
pub record LandStripeStep (l : Layout) (w : State) (pass serial : ℕ) (failed : List ℕ) (new : State) : Type 0 where
  pub p : Pass
  pub n : Loan
  pub h : Held
  pub counts : Counts w pass serial p n h
  pub rebuild : p.kind ≡ Rebuild
  pub fail : (leaf : ℕ) → has_number failed leaf ≡ true → MendsThere l w.core p n.stripe leaf × (unsourced l n ≤ l.parity)
  pub made : new ≡ land_stripe_state l w p n h failed

-- a leaf of an arm of the block that answers
pub record HealsThere (l : Layout) (q : Core) (h : Held) (leaf : ℕ) : Type 0 where
  pub column : ℕ
  pub inside : column < l.columns
  pub there : FailsThere l q h column leaf

-- each arm of the block that is clean for it answers, and no call on it failed
abbrev pub IsWhole : Layout → Core → Held → List ℕ → Type 0
IsWhole l q h failed =
    (c : ℕ) (n : ArmName) → c < l.columns → has_name (q.order (l.slot_of h.first c)) n ≡ true → is_clean q h.birth n ≡ true
    → (answers l q n h.first ≡ true) × (fails l q failed n h.first ≡ false)

-- what a scrub writes of a readable block: sectors on arms that answer, all of them on an arm that isn't clean; they land where no call failed
pub record Patches (l : Layout) (q : Core) (h : Held) (failed : List ℕ) (patched : List Patched) : Type 0 where
  pub there : (c : ℕ) (n : ArmName) (r : ℕ) → was_written patched c n r ≡ true
      → (c < l.columns) × (r < h.stripes) × (has_name (q.order (l.slot_of h.first c)) n ≡ true) × (answers l q n h.first ≡ true)
  pub dirty : (c : ℕ) (n : ArmName) (r : ℕ) → c < l.columns → r < h.stripes → has_name (q.order (l.slot_of h.first c)) n ≡ true → answers l q n h.first ≡ true
      → is_clean q h.birth n ≡ false → was_written patched c n r ≡ true
  pub landed : (c : ℕ) (n : ArmName) (r : ℕ) → has_landed patched c n r ≡ true → was_written patched c n r ≡ true
  pub lands : (c : ℕ) (n : ArmName) (r : ℕ) → was_written patched c n r ≡ true → fails l q failed n h.first ≡ false → has_landed patched c n r ≡ true
  pub fail : (leaf : ℕ) → has_number failed leaf ≡ true → HealsThere l q h leaf

-- of an unreadable block nothing is written
abbrev pub LandsBlock : Layout → Core → Held → List ℕ → List Patched → Bool → Type 0
LandsBlock l q h failed patched true = (failed ≡ []) × (patched ≡ [])
LandsBlock l q h failed patched false = Patches l q h failed patched

-- Land of a scrub
pub record LandBlockStep (l : Layout) (w : State) (pass serial : ℕ) (failed : List ℕ) (patched : List Patched) (unreadable : Bool) (new : State) : Type 0 where
  pub p : Pass
  pub n : Loan
  pub h : Held
  pub whole : Bool
  pub counts : Counts w pass serial p n h
  pub heal : p.kind ≡ Heal
  pub lands : LandsBlock l w.core h failed patched unreadable
  pub is_whole : whole ≡ true → IsWhole l w.core h failed
  pub not_whole : whole ≡ false → IsWhole l w.core h failed → ⊥
  pub made : new ≡ land_block_state l w p n h failed patched unreadable whole

-- a leaf on which a target of a rebuild lies, and that answers
pub record FlushesThere (l : Layout) (q : Core) (p : Pass) (leaf : ℕ) : Type 0 where
  pub rebuild : is_heal p.kind ≡ false
  pub arm : ArmName
  pub target : has_name p.targets arm ≡ true
  pub lies : lies_on l q (λ m. m == leaf) arm ≡ true
  pub answers : leaf_answers q leaf ≡ true

-- Done: the pass runs, nothing is left to lend, and no loan counts
pub record DoneStep (l : Layout) (w : State) (failed : List ℕ) (new : State) : Type 0 where
  pub p : Pass
  pub pass : w.core.pass ≡ Some p
  pub running : p.running ≡ true
  pub finished : (k : Key) (h : Held) (x : ℕ) → w.core.held k ≡ Some h → is_lent p h ≡ true → takes h x ≡ true → x < p.next
  pub idle : w.loan ≡ None
  pub fail : (leaf : ℕ) → has_number failed leaf ≡ true → FlushesThere l w.core p leaf
  pub made : new ≡ done_state w (ended_pass l w.core p failed)

-- Cancel: a pass
pub record CancelStep (w : State) (new : State) : Type 0 where
  pub p : Pass
  pub pass : w.core.pass ≡ Some p
  pub made : new ≡ cancel_state w

-- Reopen: the committed group, or the sealed one
pub record ReopenStep (l : Layout) (w : State) (t : ℕ) (doubtful : List Segment) (new : State) : Type 0 where
  pub image : Image
  pub one : ((w.image ≡ image) × (w.committed ≡ t)) ⊎ ((w.sealed ≡ Some image) × (w.closing ≡ Some t))
  pub made : new ≡ reopen_state l w image doubtful

-- ---- histories

-- a legal event, and the state after it
abbrev pub Step : Layout → State → Event → State → Type 0
Step l w (Begin key first stripes len birth digest) new =
    BeginStep l w key (record { first = first; stripes = stripes; len = len; birth = birth; digest = digest; stage = Writing 0 0 }) new
Step l w (Put key landed failed) new = PutStep l w key landed failed new
Step l w (Finish key) new = FinishStep l w key new
Step l w (Abort key) new = AbortStep w key new
Step l w (Free key group) new = FreeStep w key group new
Step l w (Fetch key failed) new = FetchStep l w key failed.items new
Step l w (Damage leaf sector failed) new = DamageStep l w leaf sector new
Step l w (Offline leaf) new = SwitchStep w leaf true new
Step l w (Online leaf) new = SwitchStep w leaf false new
Step l w (Attach slot arm) new = AttachStep l w slot arm new
Step l w (Detach slot arm) new = DetachStep l w slot arm new
Step l w Upgrade new = UpgradeStep w new
Step l w (Close group) new = CloseStep w group new
Step l w (Seal group failed) new = SealStep l w group failed.items new
Step l w (Commit group) new = CommitStep l w group new
Step l w (Plan kind) new = PlanStep l w kind new
Step l w Ready new = ReadyStep w new
Step l w (Lend failed) new = LendStep l w failed.items new
Step l w (LandStripe pass serial failed) new = LandStripeStep l w pass serial failed.items new
Step l w (LandBlock pass serial failed patched unreadable) new = LandBlockStep l w pass serial failed.items patched.items unreadable new
Step l w (Done failed) new = DoneStep l w failed.items new
Step l w Cancel new = CancelStep w new
Step l w (Reopen group doubtful) new = ReopenStep l w group doubtful.items new

-- a legal history: each event is legal in the state that those before it give
abbrev pub Run : Layout → State → List Event → State → Type 0
Run l w [] new = new ≡ w
Run l w (e ∷ es) new = (mid : State) × Step l w e mid × Run l mid es new
