use Rattle.std.specs.Prelude.{◌≡◌, ◌≤◌, ◌<◌, ◌↔◌, ℕ, List, Option, Some, None, All, length, slice_get}
use Rattle.std.specs.Borrow.{Bor}
use Rattle.std.specs.Fn.{Shared}
use Rattle.draid_names.specs.declared.room.Room.{Room}

-- the most rooms that a choice is among
abbrev pub most_rooms : ℕ
most_rooms = 64

-- the room is large enough
abbrev pub IsFit : Room → Type 0
IsFit room = room.need ≤ room.run

-- A choice among rooms: none exactly where none is large enough, else the place of one that is.
pub record Picks (rooms : List Room) (choice : Option ℕ) : Type 0 where
  pub none : (choice ≡ None) ↔ All (λ (r : Room). r.run < r.need) rooms
  pub some : (k : ℕ) → choice ≡ Some k → (room : Room) × (slice_get rooms k ≡ Some room) × IsFit room

-- A closure that makes such a choice among each list of not too many rooms.
pub record IsChooser {F : Type 0} (g : Shared F (Bor (List Room) × Unit {0}) (Option ℕ)) (f : F) : Type 0 where
  pub callable : (rooms : Bor (List Room)) → length rooms.now ≤ most_rooms → g.pre f (rooms, tt)
  pub picks : (rooms : Bor (List Room)) (choice : Option ℕ) → length rooms.now ≤ most_rooms → g.post f (rooms, tt) choice → Picks rooms.now choice
