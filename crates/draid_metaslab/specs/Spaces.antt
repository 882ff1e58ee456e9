use Rattle.std.specs.Prelude.{◌≡◌, ◌+◌, ◌^◌, ◌<◌, ◌≤◌, ◌&&◌, not, ⊤, ℕ, Bool, true, nat_le, nat_lt, List, All, length}
use Rattle.std.specs.List.{list_any}
use Rattle.draid_ranges.specs.declared.run.Run.{Run}
use Rattle.draid_ranges.specs.Numbers.{Numbers, has}
use Rattle.draid_ranges.specs.Runs.{has_in, in_run}
use Rattle.draid_spacemap.specs.Records.{Records, is_allocated}
use Rattle.draid_metaslab.specs.declared.space.Deferred.{Deferred}
use Rattle.draid_metaslab.specs.declared.fault.SpaceFault.{SpaceFault}
use Rattle.draid_metaslab.specs.declared.fault.SpaceFault.TheVariants.{NoRoom, NoMemory}
use Rattle.draid_metaslab.specs.Spots.{IsLargest}

-- What contracts see of the space of a metaslab: the stripes of a group and of all, the runs of free
-- stripes, the runs that come back at a commit, how many more are held, and whether it takes new blocks.
pub record Stripes : Type 0 where
  pub height : ℕ
  pub total : ℕ
  pub free : List Run
  pub deferred : List Deferred
  pub held : ℕ
  pub disabled : Bool

abbrev pub is_free : Stripes → ℕ → Bool
is_free space x = has_in space.free x

-- just the stripes at which the test is true are free
abbrev pub Frees : Stripes → (ℕ → Bool) → Type 0
Frees space test = (x : ℕ) → is_free space x ≡ test x

-- a run of stripes below the number of all
pub record IsSpan (total first len : ℕ) : Type 0 where
  pub some : 0 < len
  pub below : first + len ≤ total

-- nothing but what is free, deferred or held changes
pub record IsKept (old new : Stripes) : Type 0 where
  pub height : new.height ≡ old.height
  pub total : new.total ≡ old.total
  pub disabled : new.disabled ≡ old.disabled

-- a stripe is in one of the runs deferred up to this group
abbrev pub is_due : ℕ → List Deferred → ℕ → Bool
is_due group deferred x = list_any (λ (entry : Deferred). nat_le entry.group group && in_run entry.run x) deferred

-- a group that is later than this one
abbrev pub is_later : ℕ → Deferred → Bool
is_later group entry = nat_lt group entry.group

-- a refusal for want of room says the greatest length, which is too short
abbrev pub IsRefused : Stripes → ℕ → SpaceFault → Type 0
IsRefused space stripes (NoRoom largest) = IsLargest (is_free space) space.height largest × (largest < stripes)
IsRefused space stripes NoMemory = ⊤

-- of the stripes below a number just those that aren't free are allocated by the map
abbrev pub IsMapped : ℕ → Numbers → Records → Type 0
IsMapped total free map = (x : ℕ) → x < total → is_allocated map x ≡ not (has free x)

-- the facts of the fields, with the capacity of the list of what is deferred
pub record IsSound (height total held capacity : ℕ) (free : Numbers) (map : Records) (deferred : List Deferred) : Type 0 where
  pub some : 0 < height
  pub small : height ≤ 2 ^ 12
  pub most : total ≤ 2 ^ 48
  pub inside : (x : ℕ) → has free x ≡ true → x < total
  pub spans : All (λ (entry : Deferred). IsSpan total entry.run.first entry.run.len) deferred
  pub mapped : IsMapped total free map
  pub room : held + length deferred ≤ free.room
  pub records : held + length deferred ≤ map.room
  pub places : length deferred + held ≤ capacity
