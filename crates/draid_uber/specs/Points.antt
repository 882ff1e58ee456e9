-- What the check record of each group says of a checkpoint that is held in memory.
use Rattle.std.specs.Prelude.{◌==◌, ◌&&◌, ◌||◌, ℕ, Bool, nat_le, nat_lt, List, [], ◌∷◌, Option, None, Some, filter, map, if◌then◌else◌, ◌≡◌, ◌<◌, ◌≤◌, All}
use Rattle.draid_checkpoint.specs.Check.{Point}
use Rattle.draid_checkpoint.specs.declared.check.DroppedIn.{DroppedIn}
use Rattle.draid_record.specs.Checks.{CheckTold}
use Rattle.draid_record.specs.declared.checks.Dropped.{Dropped}

-- there is no checkpoint
abbrev pub no_check : CheckTold
no_check = record { group = 0; drops = [] }

-- a block comes before another, by its object, and then by its number
abbrev pub is_before : Dropped → Dropped → Bool
is_before d e = nat_lt d.object e.object || (d.object == e.object && nat_lt d.seq e.seq)

-- a block is put to its place among ascending ones
abbrev pub insert_drop : Dropped → List Dropped → List Dropped
insert_drop d [] = d ∷ []
insert_drop d (e ∷ es) = if is_before d e then d ∷ e ∷ es else e ∷ insert_drop d es

-- blocks with some that are there already, ascending
abbrev pub drops_with : List Dropped → List Dropped → List Dropped
drops_with some [] = some
drops_with some (d ∷ ds) = drops_with (insert_drop d some) ds

abbrev pub block_of : DroppedIn → Dropped
block_of d = record { object = d.object; seq = d.seq }

-- the blocks that were dropped in groups up to one, in the order in which they were
abbrev pub drops_upto : ℕ → List DroppedIn → List Dropped
drops_upto group drops = map block_of (filter (λ d. nat_le d.group group) drops)

-- a group has the checkpoint, where it isn't before that of the checkpoint, with what was dropped up to it
abbrev pub told_of : ℕ → Option ℕ → List DroppedIn → CheckTold
told_of group None drops = no_check
told_of group (Some own) drops = if nat_le own group then record { group = own; drops = drops_with [] (drops_upto group drops) } else no_check

abbrev pub told_at : Point → ℕ → CheckTold
told_at point group = told_of group point.group point.drops

-- ---- what is done to it

-- a block that was dropped is another one
abbrev pub IsOther : ℕ → ℕ → DroppedIn → Type 0
IsOther object seq d = d.object ≡ object → d.seq ≡ seq → ⊥

abbrev pub dropped_in : ℕ → Dropped → DroppedIn
dropped_in group d = record { object = d.object; seq = d.seq; group = group }

abbrev pub point_group : CheckTold → Option ℕ
point_group value = if value.group == 0 then None else Some value.group

-- It is the checkpoint that the check record of a group tells: its blocks were dropped in groups up to that one.
pub record KeepsCheck (group : ℕ) (value : CheckTold) (point : Point) : Type 0 where
  pub group_is : point.group ≡ point_group value
  pub blocks : map block_of point.drops ≡ value.drops
  pub upto : All (λ d. d.group ≤ group) point.drops
  pub says : (g : ℕ) → group < g → told_at point g ≡ value
