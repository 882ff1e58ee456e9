use Rattle.std.specs.Prelude.{◌≡◌, ◌+◌, ◌/◌, ◌<◌, ◌≢◌, ℕ, Bool, List, Option}
use Rattle.draid_names.specs.Spares.{AreOfOne, AreSpares, IsArm}
use Rattle.draid_names.specs.declared.pass_kind.PassKind.{PassKind}
use Rattle.draid_machine.specs.declared.names.Key.{Key}
use Rattle.draid_machine.specs.declared.names.ArmName.{ArmName}
use Rattle.draid_machine.specs.declared.names.Held.{Held}
use Rattle.draid_machine.specs.declared.names.Segment.{Segment}

-- What a metaslab takes from the pool's geometry and permutations. Stripes are numbered within the metaslab.
pub record Layout : Type 0 where
  pub columns : ℕ
  pub parity : ℕ
  pub slots : ℕ
  pub spares : ℕ
  pub stripes : ℕ
  -- the stripes of one parity group that lie together
  pub height : ℕ
  -- the sectors of the metaslab on one child
  pub sectors : ℕ
  -- the slot that has a column of a stripe
  pub slot_of : ℕ → ℕ → ℕ
  -- the sector of the metaslab at which that column lies on each arm of the slot
  pub sector_of : ℕ → ℕ → ℕ
  -- the slot on whose first leaf a spare keeps what belongs to a stripe, by each slot's first spare
  pub home : (ℕ → Option ℕ) → ℕ → ℕ → ℕ

-- The stripes that lie together have one slot for a column and one for a spare, and a column's sectors follow each other as the stripes do. Each
-- column has a sector of its own on its slot, and no spare keeps a sector on a slot that has a column there. Where two slots have columns at one
-- sector, two spares of theirs keep it on two slots; so they do where one spare's place goes by an earlier table of first spares and the other's
-- by a later one, and neither is first of another slot in the table by which the other lies.
pub record IsLayout (l : Layout) : Type 0 where
  pub tall : 0 < l.height
  pub steady : (x y column : ℕ) → x / l.height ≡ y / l.height → l.slot_of x column ≡ l.slot_of y column
  pub steady_home : (first : ℕ → Option ℕ) (x y spare : ℕ) → x / l.height ≡ y / l.height → l.home first spare x ≡ l.home first spare y
  pub rows : (x y column : ℕ) → x / l.height ≡ y / l.height → l.sector_of x column + y ≡ l.sector_of y column + x
  pub slots : (x column : ℕ) → column < l.columns → l.slot_of x column < l.slots
  pub homes : (first : ℕ → Option ℕ) (x spare : ℕ) → l.home first spare x < l.slots
  pub inside : (x column : ℕ) → x < l.stripes → column < l.columns → l.sector_of x column < l.sectors
  pub one_column : (x y c d : ℕ) → c < l.columns → d < l.columns → l.slot_of x c ≡ l.slot_of y d → l.sector_of x c ≡ l.sector_of y d → (x ≡ y) × (c ≡ d)
  pub apart : (first : ℕ → Option ℕ) (x y c d spare : ℕ) → AreSpares l.slots l.spares first → c < l.columns → d < l.columns → spare < l.spares
      → l.sector_of x c ≡ l.sector_of y d → l.home first spare x ≢ l.slot_of y d
  pub one_spare : (earlier later : ℕ → Option ℕ) (x y c d spare other : ℕ) → AreSpares l.slots l.spares earlier → AreSpares l.slots l.spares later
      → AreOfOne l.slots earlier later → c < l.columns → d < l.columns → l.sector_of x c ≡ l.sector_of y d
      → IsArm l.slots l.spares later (l.slot_of x c) spare → IsArm l.slots l.spares earlier (l.slot_of y d) other
      → l.home earlier spare x ≡ l.home later other y → spare ≡ other

-- A detached arm whose detachment isn't committed: its slot, and the group that was open then.
pub record Gone : Type 0 where
  pub slot : ℕ
  pub group : ℕ

-- An arm: whether its leaf is offline; whether no pass has made it good since it was attached; its log, the groups that it may have missed.
pub record Arm : Type 0 where
  pub offline : Bool
  pub fresh : Bool
  pub log : ℕ → Bool
  pub gone : Option Gone

-- A pass: its targets in the order of slots, the last group that it makes good, the stripe at which it goes on.
pub record Pass : Type 0 where
  pub number : ℕ
  pub kind : PassKind
  pub targets : List ArmName
  pub max : ℕ
  pub next : ℕ
  pub errors : ℕ
  pub running : Bool

-- What is common to a state and to an image: blocks and tickets, the arms and their order in each slot, the pass, the last pass number.
pub record Core : Type 0 where
  pub held : Key → Option Held
  pub arm : ArmName → Option Arm
  pub order : ℕ → List ArmName
  pub pass : Option Pass
  pub last : ℕ

-- The loan that counts: the block that has the stripe, the arms that were read for each column, and the one that it is taken from.
pub record Loan : Type 0 where
  pub key : Key
  pub stripe : ℕ
  pub serial : ℕ
  pub read : ℕ → List ArmName
  pub chosen : ℕ → Option ArmName

-- What the record of a group says, and in which version.
pub record Image : Type 0 where
  pub group : ℕ
  pub version : ℕ
  pub core : Core

-- A metaslab without its bytes.
pub record State : Type 0 where
  pub open_group : ℕ
  pub closing : Option ℕ
  pub committed : ℕ
  -- the version of the committed group, and the one that the next seal is to have
  pub version : ℕ
  pub asked : ℕ
  pub core : Core
  -- the last number of a loan, and the loan that counts
  pub serial : ℕ
  pub loan : Option Loan
  -- the images of the committed group and of a sealed one
  pub image : Image
  pub sealed : Option Image
  -- the segments that were written and still stand, and those whose bytes are in doubt
  pub present : Segment → Bool
  pub aside : Segment → Bool
  -- the segments that have lost their place stay for the images alone; with each the group that was open as it lost it
  pub kept : Segment → Option ℕ
