use Rattle.std.specs.Prelude.{◌≡◌, ◌==◌, ◌<◌, ◌&&◌, ℕ, Bool, true, false, List, [], ◌∷◌}
use Rattle.draid_machine.specs.declared.names.ArmName.{ArmName}
use Rattle.draid_machine.specs.declared.names.Held.{Held}
use Rattle.draid_machine.specs.declared.event.Patched.{Patched}
use Rattle.draid_machine.specs.Names.{has_name, has_number, name_eq}
use Rattle.draid_machine.specs.State.{Layout, Core}
use Rattle.draid_machine.specs.After.{has_landed, was_written}
use Rattle.draid_machine.specs.Arms.{answers, fails}

-- whether one part has a row that was written, that landed
abbrev pub wrote_row : Patched → ℕ → ArmName → ℕ → Bool
wrote_row d column n row = (d.column == column) && name_eq d.arm n && has_number d.written.items row

abbrev pub landed_row : Patched → ℕ → ArmName → ℕ → Bool
landed_row d column n row = (d.column == column) && name_eq d.arm n && has_number d.landed.items row

-- what holds of each part
abbrev pub EachPart : (Patched → Type 0) → List Patched → Type 0
EachPart P [] = Unit {0}
EachPart P (d ∷ ds) = P d × EachPart P ds

-- an arm of a column's slot that answers
pub record ArmStands (l : Layout) (q : Core) (h : Held) (c : ℕ) (n : ArmName) : Type 0 where
  pub column : c < l.columns
  pub listed : has_name (q.order (l.slot_of h.first c)) n ≡ true
  pub answers : answers l q n h.first ≡ true

-- a row that may be written: it lands where no call failed
pub record RowStands (l : Layout) (q : Core) (h : Held) (failed : List ℕ) (patched : List Patched) (c : ℕ) (n : ArmName) (r : ℕ) : Type 0 where
  pub row : r < h.stripes
  pub arm : ArmStands l q h c n
  pub lands : fails l q failed n h.first ≡ false → has_landed patched c n r ≡ true

-- a part whose rows may be written, and of which no more landed
pub record PartStands (l : Layout) (q : Core) (h : Held) (failed : List ℕ) (patched : List Patched) (d : Patched) : Type 0 where
  pub rows : (r : ℕ) → has_number d.written.items r ≡ true → RowStands l q h failed patched d.column d.arm r
  pub landed : (r : ℕ) → has_number d.landed.items r ≡ true → was_written patched d.column d.arm r ≡ true
