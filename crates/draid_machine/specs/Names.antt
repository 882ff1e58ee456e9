use Rattle.std.specs.Prelude.{if◌then◌else◌, ◌==◌, ◌+◌, ◌||◌, ◌&&◌, ℕ, zero, suc, Bool, true, false, nat_le, nat_lt, List, [], ◌∷◌}
use Rattle.draid_names.specs.declared.arm.ArmKind.{ArmKind}
use Rattle.draid_names.specs.declared.arm.ArmKind.TheVariants as kind
use Rattle.draid_names.specs.declared.pass_kind.PassKind.{PassKind}
use Rattle.draid_names.specs.declared.pass_kind.PassKind.TheVariants.{Rebuild, Heal}
use Rattle.draid_machine.specs.declared.names.Key.{Key}
use Rattle.draid_machine.specs.declared.names.ArmName.{ArmName}
use Rattle.draid_machine.specs.declared.names.ArmName.TheVariants.{Leaf, Spare}
use Rattle.draid_machine.specs.declared.names.Stage.{Stage}
use Rattle.draid_machine.specs.declared.names.Stage.TheVariants.{Writing, Live, Freed}
use Rattle.draid_machine.specs.declared.names.Held.{Held}
use Rattle.draid_machine.specs.declared.names.Segment.{Segment}

-- an arm by what it is, and its number
abbrev pub named : ArmKind → ℕ → ArmName
named kind.Leaf number = Leaf number
named kind.Spare number = Spare number

-- one key, one arm, one segment
abbrev pub key_eq : Key → Key → Bool
key_eq k j = (k.object == j.object) && (k.seq == j.seq)

abbrev pub name_eq : ArmName → ArmName → Bool
name_eq (Leaf m) (Leaf n) = m == n
name_eq (Leaf m) (Spare t) = false
name_eq (Spare t) (Leaf n) = false
name_eq (Spare t) (Spare u) = t == u

abbrev pub segment_eq : Segment → Segment → Bool
segment_eq s t = key_eq s.key t.key && (s.column == t.column) && name_eq s.arm t.arm && (s.leaf == t.leaf) && (s.row == t.row)

abbrev pub is_leaf : ArmName → Bool
is_leaf (Leaf m) = true
is_leaf (Spare t) = false

-- whether a list has an arm, a number, a segment
abbrev pub has_name : List ArmName → ArmName → Bool
has_name [] n = false
has_name (m ∷ ms) n = name_eq m n || has_name ms n

abbrev pub has_number : List ℕ → ℕ → Bool
has_number [] x = false
has_number (y ∷ ys) x = (y == x) || has_number ys x

abbrev pub has_segment : List Segment → Segment → Bool
has_segment [] s = false
has_segment (t ∷ ts) s = segment_eq t s || has_segment ts s

abbrev pub is_nil : List ArmName → Bool
is_nil [] = true
is_nil (n ∷ ns) = false

-- whether a number below a bound passes a test, and how many do
abbrev pub any_below : ℕ → (ℕ → Bool) → Bool
any_below zero p = false
any_below (suc n) p = any_below n p || p n

abbrev pub count_below : ℕ → (ℕ → Bool) → ℕ
count_below zero p = 0
count_below (suc n) p = if p n then count_below n p + 1 else count_below n p

-- the groups from 1 to one
abbrev pub up_to : ℕ → ℕ → Bool
up_to last group = nat_le 1 group && nat_le group last

abbrev pub is_heal : PassKind → Bool
is_heal Rebuild = false
is_heal Heal = true

-- a block, live or freed, is no ticket any more
abbrev pub is_block : Stage → Bool
is_block (Writing c m) = false
is_block Live = true
is_block (Freed g) = true

abbrev pub is_live : Stage → Bool
is_live (Writing c m) = false
is_live Live = true
is_live (Freed g) = false

-- freed in a group up to one
abbrev pub is_freed_by : ℕ → Stage → Bool
is_freed_by t (Writing c m) = false
is_freed_by t Live = false
is_freed_by t (Freed g) = nat_le g t

-- the columns that were put: of a block all
abbrev pub is_put : Stage → ℕ → Bool
is_put (Writing c m) column = nat_lt column c
is_put Live column = true
is_put (Freed g) column = true

-- whether a block or a ticket takes a stripe
abbrev pub takes : Held → ℕ → Bool
takes h x = nat_le h.first x && nat_lt x (h.first + h.stripes)
