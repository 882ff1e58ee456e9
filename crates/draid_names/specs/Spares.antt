use Rattle.std.specs.Prelude.{◌≡◌, ◌<◌, ℕ, Option, Some}

-- Which spare arm each slot has first, if it has one, is a function of the slot: a table of first spares.

-- the first spares of so many slots are below the number of spares
abbrev pub AreSpares : ℕ → ℕ → (ℕ → Option ℕ) → Type 0
AreSpares slots spares first = (slot spare : ℕ) → slot < slots → first slot ≡ Some spare → spare < spares

-- a spare that is first in two tables, an earlier and a later one, is first of one slot
abbrev pub AreOfOne : ℕ → (ℕ → Option ℕ) → (ℕ → Option ℕ) → Type 0
AreOfOne slots earlier later = (a b spare : ℕ) → a < slots → b < slots → earlier a ≡ Some spare → later b ≡ Some spare → a ≡ b

-- a table of first spares: they are below the number of spares, and none is first of two slots
pub record AreUsed (slots spares : ℕ) (first : ℕ → Option ℕ) : Type 0 where
  pub below : AreSpares slots spares first
  pub apart : AreOfOne slots first first

-- a spare that is an arm of a slot, its first one or another: it is first of no other slot
pub record IsArm (slots spares : ℕ) (first : ℕ → Option ℕ) (slot spare : ℕ) : Type 0 where
  pub slot_is : slot < slots
  pub spare_is : spare < spares
  pub only : (other : ℕ) → other < slots → first other ≡ Some spare → other ≡ slot
