use Rattle.std.specs.Prelude.{◌≡◌, ◌==◌, ◌+◌, ◌<◌, ◌||◌, ◌&&◌, not, ℕ, Bool, true, false, nat_le, nat_lt, List, Option, Some, None}
use Rattle.draid_machine.specs.declared.names.ArmName.{ArmName}
use Rattle.draid_machine.specs.declared.names.Held.{Held}
use Rattle.draid_machine.specs.declared.names.Segment.{Segment}
use Rattle.draid_machine.specs.Names.{has_name, is_block, is_put}
use Rattle.draid_machine.specs.State.{Layout, Arm, Pass, Core}
use Rattle.draid_machine.specs.Arms.{lies}

-- a segment of a block or a ticket on an arm of its column's slot, where that arm keeps it now
pub record IsOn (l : Layout) (q : Core) (s : Segment) (h : Held) (a : Arm) : Type 0 where
  pub held : q.held s.key ≡ Some h
  pub arm : q.arm s.arm ≡ Some a
  pub listed : has_name (q.order (l.slot_of h.first s.column)) s.arm ≡ true
  pub column : s.column < l.columns
  pub row : s.row < h.stripes
  pub lies : lies l q.order s.arm (h.first + s.row) s.leaf ≡ true

-- a running pass without errors has passed a row of a block on one of its targets
abbrev pub passed : Option Pass → ArmName → Held → ℕ → Bool
passed None n h row = false
passed (Some p) n h row = p.running && (p.errors == 0) && has_name p.targets n && nat_le h.birth p.max && nat_lt (h.first + row) p.next

-- a segment that has to be there: of a block where its arm is clean for the block or a pass has passed it, of a ticket's put columns where
-- its arm is clean
abbrev pub is_on : Layout → (ℕ → List ArmName) → Segment → Held → Bool
is_on l order s h =
    has_name (order (l.slot_of h.first s.column)) s.arm && nat_lt s.column l.columns && nat_lt s.row h.stripes && lies l order s.arm (h.first + s.row) s.leaf

-- a segment is at a place: of a block or a ticket, on an arm that keeps it there now
abbrev pub is_at_held : Layout → (ℕ → List ArmName) → Segment → Option Held → Bool
is_at_held l order s None = false
is_at_held l order s (Some h) = is_on l order s h

abbrev pub is_at : Layout → Core → Segment → Bool
is_at l q s = is_at_held l q.order s (q.held s.key)

abbrev pub claimed : Layout → Core → Segment → Option Held → Option Arm → Bool
claimed l q s None a = false
claimed l q s (Some h) None = false
claimed l q s (Some h) (Some a) =
    is_on l q.order s h && is_put h.stage s.column && (not (a.log h.birth) || (is_block h.stage && passed q.pass s.arm h s.row))

abbrev pub claims : Layout → Core → Segment → Bool
claims l q s = claimed l q s (q.held s.key) (q.arm s.arm)
