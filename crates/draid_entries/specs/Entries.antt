-- The table of a metaslab's blocks and tickets, as its calls see it.
use Rattle.std.specs.Prelude.{◌≡◌, ◌==◌, ◌+◌, ℕ, zero, suc, Option, Some, None, option_map, if◌then◌else◌}
use Rattle.std.specs.BTreeMap.{btree_map_len}
use Rattle.draid_names.specs.declared.numbers.TheConstants.{NUMBERS}
use Rattle.draid_names.specs.declared.pointer.Pointer.{Pointer}
use Rattle.draid_machine.specs.declared.names.Key.{Key}
use Rattle.draid_machine.specs.declared.names.Held.{Held}
use Rattle.draid_machine.specs.declared.names.Stage.{Stage}
use Rattle.draid_machine.specs.declared.names.Stage.TheVariants.{Writing}
use Rattle.draid_machine.specs.After.{set_held}
use Rattle.draid_entries.specs.declared.entry.Entry.{Entry}
use Rattle.draid_entries.specs.declared.entries.Entries.{Entries}
use Rattle.draid_entries.specs.Maps.{entry_in, first_in, held_at, held_from, key_of, staged}
use Rattle.draid_entries.specs.Owed.{owed_in}

-- the block or ticket that begins at a stripe
abbrev pub entry_at : Entries → ℕ → Option Entry
entry_at t first = entry_in t.firsts first

-- the block or ticket of a key, as a state has it
abbrev pub held_in : Entries → Key → Option Held
held_in t key = held_from t.firsts (first_in t.keys.entries key)

-- how many blocks and tickets there are
abbrev pub count_of : Entries → ℕ
count_of t = btree_map_len t.keys

-- the pointer is that of a block or a ticket
pub record IsEntered (t : Entries) (p : Pointer) : Type 0 where
  pub stage : Stage
  pub there : entry_at t p.first ≡ Some (staged stage p)

-- a write that has just begun
abbrev pub begun : Pointer → Entry
begun p = staged (Writing 0 0) p

-- ---- what is owed

abbrev pub owed_at : ℕ → Option Entry → ℕ
owed_at columns None = 0
owed_at columns (Some e) = owed_in columns e.stage

-- the sum over the numbers below a bound
unfoldable pub sum_below : (ℕ → ℕ) → ℕ → ℕ
sum_below f zero = 0
sum_below f (suc n) = sum_below f n + f n

-- how many events the blocks and tickets may still add, where blocks have so many columns
unfoldable pub owed_by : ℕ → Entries → ℕ
owed_by columns t = sum_below (λ first. owed_at columns (entry_at t first)) NUMBERS

-- ---- changes

-- What a pointer's place and key lead to changed, and nothing else. What is owed changed with it.
pub record SetsEntry (old new : Entries) (p : Pointer) (entry : Option Entry) : Type 0 where
  pub at : (first : ℕ) → entry_at new first ≡ (if first == p.first then entry else entry_at old first)
  pub held : (key : Key) → held_in new key ≡ set_held (held_in old) (key_of p) (option_map held_at entry) key
  pub owed : (columns : ℕ) → owed_by columns new + owed_at columns (entry_at old p.first) ≡ owed_by columns old + owed_at columns entry

-- nothing changed
pub record SameEntries (old new : Entries) : Type 0 where
  pub at : (first : ℕ) → entry_at new first ≡ entry_at old first
  pub held : (key : Key) → held_in new key ≡ held_in old key
  pub count : count_of new ≡ count_of old
  pub owed : (columns : ℕ) → owed_by columns new ≡ owed_by columns old
