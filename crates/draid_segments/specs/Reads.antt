-- Which columns of a block can't be read, or can't be trusted.
use Rattle.std.specs.Prelude.{◌≡◌, ◌<◌, ◌+◌, ◌⊎◌, ◌&&◌, ⊤, ℕ, Bool, true, List, Option, Some, None, All, find, length}
use Rattle.std.specs.List.Sorted.{IsStrictlyIncreasing}
use Rattle.draid_machine.specs.declared.names.Key.{Key}
use Rattle.draid_machine.specs.declared.names.ArmName.{ArmName}
use Rattle.draid_machine.specs.declared.names.Held.{Held}
use Rattle.draid_machine.specs.State.{Layout, Core, State}
use Rattle.draid_machine.specs.Arms.{answers, fails, is_clean, leaf_at, reading}

-- no arm was read, or a call failed on the leaf of the one that was
abbrev pub IsUnread : Layout → Core → Held → List ℕ → Option ArmName → Type 0
IsUnread l q h failed None = ⊤
IsUnread l q h failed (Some n) = fails l q failed n h.first ≡ true

-- a column that wasn't read: no arm of its slot answers, or its leaf failed
abbrev pub IsAbsent : Layout → Core → Held → List ℕ → ℕ → Type 0
IsAbsent l q h failed c = IsUnread l q h failed (reading l q h c)

-- no arm of its slot answers and is clean for the block
abbrev pub LacksClean : Layout → Core → Held → ℕ → Type 0
LacksClean l q h c = find (λ n. answers l q n h.first && is_clean q h.birth n) (q.order (l.slot_of h.first c)) ≡ None

-- a sector of it, on the arm from which it is read, is harmed or in doubt
pub record IsHurt (l : Layout) (w : State) (harm : ℕ → ℕ → Bool) (key : Key) (h : Held) (c : ℕ) : Type 0 where
  pub n : ArmName
  pub row : ℕ
  pub leaf : ℕ
  pub reads : reading l w.core h c ≡ Some n
  pub inside : row < h.stripes
  pub lies : leaf_at l w.core.order n (h.first + row) ≡ Some leaf
  pub bad : (harm leaf (l.sector_of (h.first + row) c) ≡ true) ⊎ (w.aside (record { key = key; column = c; arm = n; leaf = leaf; row = row }) ≡ true)

-- a bad column
pub record IsBad (l : Layout) (w : State) (harm : ℕ → ℕ → Bool) (key : Key) (h : Held) (failed : List ℕ) (c : ℕ) : Type 0 where
  pub inside : c < l.columns
  pub why : IsAbsent l w.core h failed c ⊎ (LacksClean l w.core h c ⊎ IsHurt l w harm key h c)

-- more columns are bad than there are parity columns
pub record MoreBad (l : Layout) (w : State) (harm : ℕ → ℕ → Bool) (key : Key) (h : Held) (failed : List ℕ) : Type 0 where
  pub columns : List ℕ
  pub ascending : IsStrictlyIncreasing columns
  pub each : All (IsBad l w harm key h failed) columns
  pub more : l.parity < length columns
