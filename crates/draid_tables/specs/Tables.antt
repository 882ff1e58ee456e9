-- What a table has of objects whose numbers are held is dealt out, and put back.
use Rattle.std.specs.Prelude.{◌≡◌, ℕ, List, true, Option, Some, None, if◌then◌else◌}
use Rattle.draid_names.specs.declared.pointer.Pointer.{Pointer}
use Rattle.draid_turn.specs.Numbers.{holds}
use Rattle.draid_turn.specs.declared.span.Span.{Span}

-- a table has the pointers of another of all objects whose numbers are held, and no others
abbrev pub IsDealt : (numbers : List Span) → (table dealt : ℕ → Option Pointer) → Type 0
IsDealt numbers table dealt = (object : ℕ) → dealt object ≡ (if holds object numbers then table object else None)

-- a table holds objects alone whose numbers are held
abbrev pub HoldsWithin : (numbers : List Span) → (table : ℕ → Option Pointer) → Type 0
HoldsWithin numbers table = (object : ℕ) (pointer : Pointer) → table object ≡ Some pointer → holds object numbers ≡ true

-- of objects whose numbers are held the pointers are those of one table now, of the others they are as before
abbrev pub TakesBack : (numbers : List Span) → (dealt old new : ℕ → Option Pointer) → Type 0
TakesBack numbers dealt old new = (object : ℕ) → new object ≡ (if holds object numbers then dealt object else old object)
