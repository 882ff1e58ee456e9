use Rattle.std.specs.Prelude.{◌≡◌, ◌+◌, ◌==◌, ◌&&◌, ◌<◌, ◌≤◌, not, ℕ, Bool, true, nat_lt, List, Some, if◌then◌else◌}
use Rattle.draid_names.specs.declared.numbers.TheConstants.{NUMBERS}
use Rattle.draid_machine.specs.declared.names.Key.{Key}
use Rattle.draid_machine.specs.declared.names.ArmName.{ArmName}
use Rattle.draid_machine.specs.declared.names.Stage.TheVariants.{Writing}
use Rattle.draid_machine.specs.declared.names.Held.{Held}
use Rattle.draid_machine.specs.declared.names.Segment.{Segment}
use Rattle.draid_machine.specs.Names.{has_name, has_number, name_eq, key_eq}
use Rattle.draid_machine.specs.State.{Layout, Core}
use Rattle.draid_machine.specs.Step.{FailsThere}
use Rattle.draid_machine.specs.Arms.{answers, fails, lies}

-- births are below 2^48, and a ticket counts no more missed columns than were put
abbrev pub AreCounted : Core → Type 0
AreCounted q = (k : Key) (h : Held) → q.held k ≡ Some h → (h.birth < NUMBERS) × ((c m : ℕ) → h.stage ≡ Writing c m → m ≤ c)

-- an arm on which a column has to land is among those on which it did, and no other
abbrev pub lands_right : Layout → Core → ℕ → List ArmName → List ℕ → ArmName → Bool
lands_right l q x landed failed n = if answers l q n x && not (fails l q failed n x) then has_name landed n else not (has_name landed n)

-- a segment of a row on an arm
abbrev pub is_row : Layout → (ℕ → List ArmName) → Key → Held → ℕ → ArmName → ℕ → Segment → Bool
is_row l order k h c n rows s = key_eq k s.key && (s.column == c) && name_eq n s.arm && nat_lt s.row rows && lies l order n (h.first + s.row) s.leaf

abbrev pub is_in_row : Layout → (ℕ → List ArmName) → Key → Held → ℕ → ArmName → ℕ → Segment → Bool
is_in_row l order k h c n row s = key_eq k s.key && (s.column == c) && name_eq n s.arm && (s.row == row) && lies l order n (h.first + s.row) s.leaf

-- a column lands on just the arms of its slot that answer and whose leaf didn't fail; calls fail on answering leaves of these arms alone
pub record MayLand (l : Layout) (q : Core) (h : Held) (c : ℕ) (landed : List ArmName) (failed : List ℕ) : Type 0 where
  pub listed : (n : ArmName) → has_name landed n ≡ true → has_name (q.order (l.slot_of h.first c)) n ≡ true
  pub lands : (n : ArmName) → has_name (q.order (l.slot_of h.first c)) n ≡ true → has_name landed n ≡ (answers l q n h.first && not (fails l q failed n h.first))
  pub fail : (leaf : ℕ) → has_number failed leaf ≡ true → FailsThere l q h c leaf
