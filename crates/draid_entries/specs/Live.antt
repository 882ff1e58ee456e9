-- The table of a metaslab that is opened: the blocks of a list, each live.
use Rattle.std.specs.Prelude.{◌≡◌, ◌==◌, ◌++◌, ⊤, ℕ, Bool, List, [], ◌∷◌, Option, Some, None, find, length, option_map, if◌then◌else◌}
use Rattle.std.specs.List.{list_any}
use Rattle.draid_names.specs.declared.pointer.Pointer.{Pointer}
use Rattle.draid_machine.specs.declared.names.Key.{Key}
use Rattle.draid_machine.specs.declared.names.Held.{Held}
use Rattle.draid_machine.specs.declared.names.Stage.TheVariants.{Live}
use Rattle.draid_entries.specs.declared.entry.Entry.{Entry}
use Rattle.draid_entries.specs.declared.entries.Entries.{Entries}
use Rattle.draid_entries.specs.declared.live.ListFault.{ListFault}
use Rattle.draid_entries.specs.declared.live.ListFault.TheVariants.{Twice, NoMemory}
use Rattle.draid_entries.specs.Entries.{count_of, entry_at, held_in, owed_by}
use Rattle.draid_entries.specs.Listed.{has_key, held_of}
use Rattle.draid_entries.specs.Maps.{key_of, staged}

abbrev pub begins_at : ℕ → Pointer → Bool
begins_at first b = first == b.first

-- the block of a list that begins at a stripe, and the one that has a key
abbrev pub live_at : List Pointer → ℕ → Option Entry
live_at blocks first = option_map (staged Live) (find (begins_at first) blocks)

abbrev pub live_of : List Pointer → Key → Option Held
live_of blocks key = option_map held_of (find (has_key key) blocks)

-- the table has the blocks of a list, each live, and nothing else
pub record HasLive (t : Entries) (blocks : List Pointer) : Type 0 where
  pub at : (first : ℕ) → entry_at t first ≡ live_at blocks first
  pub held : (key : Key) → held_in t key ≡ live_of blocks key
  pub count : count_of t ≡ length blocks
  pub owed : (columns : ℕ) → owed_by columns t ≡ length blocks

-- the place of the first block, behind some, whose key one before it has
abbrev pub twice_in : List Pointer → List Pointer → Option ℕ
twice_in before [] = None
twice_in before (b ∷ bs) = if list_any (has_key (key_of b)) before then Some (length before) else twice_in (before ++ b ∷ []) bs

abbrev pub first_twice : List Pointer → Option ℕ
first_twice blocks = twice_in [] blocks

-- why no table is made of a list
abbrev pub ListRefused : List Pointer → ListFault → Type 0
ListRefused blocks (Twice place) = first_twice blocks ≡ Some place
ListRefused blocks NoMemory = ⊤
