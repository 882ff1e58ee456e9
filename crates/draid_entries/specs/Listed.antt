-- The blocks of the table as the record of a group lists them.
use Rattle.std.specs.Prelude.{◌≡◌, ◌≤◌, ◌+◌, ◌&&◌, not, ⊤, ℕ, Bool, true, nat_le, List, [], ◌∷◌, Option, Some, All, IsSome, length, if◌then◌else◌}
use Rattle.std.specs.List.{list_any}
use Rattle.draid_names.specs.declared.pointer.Pointer.{Pointer}
use Rattle.draid_machine.specs.declared.names.Key.{Key}
use Rattle.draid_machine.specs.declared.names.Held.{Held}
use Rattle.draid_machine.specs.declared.names.Stage.{Stage}
use Rattle.draid_machine.specs.declared.names.Stage.TheVariants.{Live}
use Rattle.draid_machine.specs.Names.{is_block, is_freed_by, key_eq}
use Rattle.draid_machine.specs.After.{seal_held}
use Rattle.draid_entries.specs.declared.entry.Entry.{Entry}
use Rattle.draid_entries.specs.declared.entries.Entries.{Entries}
use Rattle.draid_entries.specs.Entries.{count_of, entry_at, held_in}
use Rattle.draid_entries.specs.Maps.{key_of, staged}

-- ---- where a list says just what a table has

-- what a listed block is: live
abbrev pub held_of : Pointer → Held
held_of b = record { first = b.first; stripes = b.stripes; len = b.len; birth = b.birth; digest = b.digest; stage = Live }

abbrev pub has_key : Key → Pointer → Bool
has_key key b = key_eq (key_of b) key

-- each block of the list is that of the table, and the table has no other
pub record SaysBlocks (blocks : List Pointer) (table : Key → Option Held) : Type 0 where
  pub each : All (λ b. table (key_of b) ≡ Some (held_of b)) blocks
  pub all : (key : Key) → IsSome (table key) → list_any (has_key key) blocks ≡ true

-- ---- the blocks of a group's image

-- a block that was born up to a group and isn't freed up to it
abbrev pub stays_at : ℕ → Entry → Bool
stays_at group e = is_block e.stage && nat_le e.pointer.birth group && not (is_freed_by group e.stage)

-- the pointers of those among some entries
abbrev pub staying : ℕ → List (ℕ × Entry) → List Pointer
staying group [] = []
staying group (e ∷ es) = if stays_at group e.1 then e.1.pointer ∷ staying group es else staying group es

-- a pointer's block is in the table, and stays
pub record IsListed (t : Entries) (group : ℕ) (p : Pointer) : Type 0 where
  pub stage : Stage
  pub there : entry_at t p.first ≡ Some (staged stage p)
  pub stays : stays_at group (staged stage p) ≡ true

-- ascending by first stripe, from one on
abbrev pub AscendFrom : ℕ → List Pointer → Type 0
AscendFrom low [] = ⊤
AscendFrom low (b ∷ bs) = (low ≤ b.first) × AscendFrom (b.first + 1) bs

-- The list has just the blocks of the table that a group's image has, ascending by first stripe, and no more than the table.
pub record ListsBlocks (t : Entries) (group : ℕ) (blocks : List Pointer) : Type 0 where
  pub says : SaysBlocks blocks (λ key. seal_held group (held_in t key))
  pub listed : All (IsListed t group) blocks
  pub ascending : AscendFrom 0 blocks
  pub few : length blocks ≤ count_of t
