use Rattle.std.specs.Prelude.{◌≡◌, ◌≢◌, ◌+◌, ◌<◌, ℕ, Option, Some, None, List, slice_index_or}
use Rattle.draid_perm.specs.declared.perms.Perms.{Perms}
use Rattle.draid_perm.specs.Perms.{child_of, children_of}

-- each slot's first spare, by a list of them
abbrev pub first_in : List (Option ℕ) → ℕ → Option ℕ
first_in used slot = slice_index_or used slot None

-- a slot has a column in a slice: it stands there at a position that isn't one of so many spares' at the end
pub record HasColumn (perms : Perms) (spares slice slot : ℕ) : Type 0 where
  pub position : ℕ
  pub before : position + spares < children_of perms
  pub stands : child_of perms slice position ≡ slot

-- a slot without a spare arm gets this one as its first; read backwards, it loses the only one that it has
pub record Gains (before after : ℕ → Option ℕ) (slot spare : ℕ) : Type 0 where
  pub without : before slot ≡ None
  pub with_it : after slot ≡ Some spare
  pub others : (other : ℕ) → other ≢ slot → after other ≡ before other
