-- Which body an area of two slots has for an import, and what a crash may leave of them.
use Rattle.std.specs.Prelude.{◌≡◌, ◌==◌, ◌≤◌, ◌⊎◌, ◌+◌, ◌*◌, ◌%◌, ◌&&◌, not, ℕ, Bool, false, nat_lt, List, drop, length, slice_index_or, slice_range, Option, None, Some, Result, Ok, option_map, if◌then◌else◌}
use Rattle.std.specs.List.{Contains}
use Rattle.byteorder.specs.Endian.{big_number}
use Rattle.draid_area.specs.Area.{Content, MayLeave, OnTold}
use Rattle.draid_record.specs.declared.fault.RecordFault.{RecordFault}
use Rattle.draid_record.specs.declared.uber.UberBody.{UberBody}
use Rattle.draid_record.specs.Reading.{read}
use Rattle.draid_record.specs.Uber.{told, uber}

abbrev pub area_bytes : ℕ
area_bytes = 1024

abbrev pub slot_bytes : ℕ
slot_bytes = 51

-- where a slot begins
abbrev pub base_of : ℕ → ℕ
base_of slot = 512 * slot

-- the gate and the body of a slot
abbrev pub slot_in : ℕ → List ℕ → List ℕ
slot_in slot area = slice_range area (base_of slot) (base_of slot + slot_bytes)

-- its gate is open
abbrev pub is_open : List ℕ → Bool
is_open bytes = slice_index_or bytes 0 0 == 90

-- the group that stands there, whether or not it is in its range
abbrev pub group_in : List ℕ → ℕ
group_in bytes = big_number 8 (drop 7 bytes)

-- the body that it spells, or the first fault of it
abbrev pub body_in : ℕ → List ℕ → Result UberBody RecordFault
body_in slot bytes = told (length bytes) (read (uber slot) bytes)

-- what two slots tell: of those that are open the one with the greater group, and slot 0 where they are equal
abbrev pub choice_of : List ℕ → List ℕ → Option (Result UberBody RecordFault)
choice_of zero one =
    if is_open zero && not (is_open one && nat_lt (group_in zero) (group_in one)) then Some (body_in 0 zero)
    else if is_open one then Some (body_in 1 one)
    else None

-- what an import takes from these bytes, or None where no gate is open. Bytes that are too few have none.
abbrev pub chosen_of : List ℕ → Option (Result UberBody RecordFault)
chosen_of area = if nat_lt (length area) area_bytes then None else choice_of (slot_in 0 area) (slot_in 1 area)

-- the group that was committed last, 0 before the first
abbrev pub group_of : Option UberBody → ℕ
group_of None = 0
group_of (Some body) = body.group

-- the slot of the next group
abbrev pub next_slot : Option UberBody → ℕ
next_slot kept = (group_of kept + 1) % 2

-- the slot of the committed group has its body; before the first commit slot 0 is shut
abbrev pub HasKept : Option UberBody → List ℕ → Type 0
HasKept None area = is_open (slot_in 0 area) ≡ false
HasKept (Some body) area = body_in (body.group % 2) (slot_in (body.group % 2) area) ≡ Ok body

-- a body stands in the one of two slots that its group has
abbrev pub StandsIn : List ℕ → List ℕ → UberBody → Type 0
StandsIn zero one body = ((body.group % 2 ≡ 0) × (body_in 0 zero ≡ Ok body)) ⊎ ((body.group % 2 ≡ 1) × (body_in 1 one ≡ Ok body))

abbrev pub read_body : UberBody → Result UberBody RecordFault
read_body body = Ok body

-- an import takes the committed body, or finds no open gate before the first commit; or it takes one of these
abbrev pub Chooses : Option UberBody → List UberBody → Option (Result UberBody RecordFault) → Type 0
Chooses kept pending chosen =
    (chosen ≡ option_map read_body kept) ⊎ ((body : UberBody) × Contains pending body × (chosen ≡ Some (Ok body)))

-- Bytes of which an import takes the committed body, or one of these that refused commits may have left. The committed
-- body stands in its slot in any case.
pub record IsLeft (kept : Option UberBody) (pending : List UberBody) (area : List ℕ) : Type 0 where
  pub long : area_bytes ≤ length area
  pub kept_is : HasKept kept area
  pub chosen : Chooses kept pending (chosen_of area)

-- whatever a crash leaves is such bytes
abbrev pub Stands : Option UberBody → List UberBody → Content → Type 0
Stands kept pending x = (left : List ℕ) → MayLeave x left → IsLeft kept pending left

abbrev pub StandsTold : Option UberBody → List UberBody → Option Content → Type 0
StandsTold kept pending content = OnTold content (Stands kept pending)
