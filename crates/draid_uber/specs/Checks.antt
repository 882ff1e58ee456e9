-- The areas of a pool that aren't a metaslab's, and what a crash leaves of the check records there.
use Rattle.std.specs.Prelude.{◌≡◌, ◌==◌, ◌+◌, ◌%◌, ⊤, ℕ, List, [], ◌∷◌, All, Contains, Option, MatchOption, Result, Ok, if◌then◌else◌}
use Rattle.draid_area.specs.Area.{Content, MayLeave, OnTold}
use Rattle.draid_record.specs.Checks.{CheckTold, check_of}
use Rattle.draid_record.specs.declared.fault.RecordFault.{RecordFault}
use Rattle.draid_record.specs.declared.uber.UberBody.{UberBody}
use Rattle.draid_uber.specs.declared.areas.Areas.{Areas}
use Rattle.draid_uber.specs.Points.{no_check}
use Rattle.draid_uber.specs.Slots.{StandsTold}

-- how often calls on them have failed
abbrev pub count_in : {A : Type 0} → (A → ℕ) → Areas A → ℕ
count_in faults areas = faults areas.uber + (faults areas.even + faults areas.odd)

-- ---- check records

-- the area of a group's check record, of the two
abbrev pub check_area : {A : Type 0} → Areas A → ℕ → A
check_area areas group = if group % 2 == 0 then areas.even else areas.odd

-- what an area has of a group's checkpoint: one to which nothing was written says that there is none
abbrev pub check_in : ℕ → List ℕ → Result CheckTold RecordFault
check_in group [] = Ok no_check
check_in group (byte ∷ bytes) = check_of group (byte ∷ bytes)

-- whatever a crash leaves of an area has this of a group's checkpoint
abbrev pub CheckStands : CheckTold → ℕ → Content → Type 0
CheckStands value group x = (left : List ℕ) → MayLeave x left → check_in group left ≡ Ok value

-- ---- all of them

-- what they tell
pub record AreasTold : Type 0 where
  pub uber : Option Content
  pub even : Option Content
  pub odd : Option Content

abbrev pub told_by : {A : Type 0} → (A → Option Content) → Areas A → AreasTold
told_by told areas = record { uber = told areas.uber; even = told areas.even; odd = told areas.odd }

-- the check record of a body's group stands in the area of its parity, with what that group has
abbrev pub HasCheck : (ℕ → CheckTold) → AreasTold → UberBody → Type 0
HasCheck check told body = OnTold (if body.group % 2 == 0 then told.even else told.odd) (CheckStands (check body.group) body.group)

-- Whatever a crash leaves, an import finds the committed body, or one of these that refused commits may have left, and the check record of the one that it finds, which says what that group has.
pub record AreasStand (check : ℕ → CheckTold) (kept : Option UberBody) (pending : List UberBody) (told : AreasTold) : Type 0 where
  pub uber_is : StandsTold kept pending told.uber
  pub kept_check : MatchOption kept ⊤ (HasCheck check told)
  pub pending_checks : All (HasCheck check told) pending

-- so it is, with some of these
pub record LeavesAny (check : ℕ → CheckTold) (kept : Option UberBody) (may : List UberBody) (told : AreasTold) : Type 0 where
  pub pending : List UberBody
  pub among : All (Contains may) pending
  pub stands : AreasStand check kept pending told
