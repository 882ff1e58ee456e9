-- The record of a metaslab.
use Rattle.std.specs.Prelude.{◌≡◌, ◌==◌, ◌≤◌, ◌+◌, ◌-◌, ◌*◌, ◌/◌, ◌%◌, ◌^◌, ◌||◌, ◌&&◌, not, ℕ, zero, suc, Bool, true, false, nat_lt, List, [], ◌∷◌, ◌++◌, map, length, take, slice_index_or, ⊤, Option, Some, None, Result, Ok, Err, if◌then◌else◌}
use Rattle.std.specs.List.{list_any}
use Rattle.std.specs.Option.{option_map}
use Rattle.std.specs.declared.alloc.Global.{Global}
use Rattle.std.specs.declared.vec.Vec.{Vec}
use Rattle.draid_names.specs.Arms.{least_arm, least_slot}
use Rattle.draid_names.specs.Numbers.{most_held}
use Rattle.draid_names.specs.declared.numbers.TheConstants.{LAST_NUMBER, LONGEST_BLOCK, NUMBERS, OBJECTS}
use Rattle.draid_names.specs.declared.arm.Arm.{Arm}
use Rattle.draid_names.specs.declared.arm.ArmAt.{ArmAt}
use Rattle.draid_names.specs.declared.arm.ArmKind.{ArmKind}
use Rattle.draid_names.specs.declared.arm.ArmKind.TheVariants as arms
use Rattle.draid_names.specs.declared.pass_kind.PassKind.{PassKind}
use Rattle.draid_names.specs.declared.pass_kind.PassKind.TheVariants.{Rebuild, Heal}
use Rattle.draid_names.specs.declared.pointer.Pointer.{Pointer}
use Rattle.draid_pass.specs.declared.pass.Pass.{Pass}
use Rattle.draid_ranges.specs.Numbers.{Numbers}
use Rattle.draid_ranges.specs.declared.run.Run.{Run}
use Rattle.draid_spec.specs.declared.layout.Geometry.{Geometry}
use Rattle.draid_spec.specs.Geometry.{metaslab_stripes}
use Rattle.draid_record.specs.declared.record.Record.{Record}
use Rattle.draid_record.specs.declared.limits.Limits.{Limits}
use Rattle.draid_record.specs.declared.fault.Fault.{Fault}
use Rattle.draid_record.specs.declared.fault.RecordFault.{RecordFault}
use Rattle.draid_record.specs.declared.fault.RecordFault.TheVariants as faults
use Rattle.draid_record.specs.Grammar.{Grammar, Done, ◌>>=◌, Spells, check, many, number, text}
use Rattle.draid_record.specs.Reading.{goes_on, placed, read}

-- ---- logs

-- a run of a log, by its first and its last group
abbrev pub run : ℕ → Grammar Run
run low = do
  first ← number 8 low LAST_NUMBER
  last ← number 8 first LAST_NUMBER
  Done (record { first = first; len = last + 1 - first })

-- where the next run may begin
abbrev pub behind : ℕ → Run → ℕ
behind low r = r.first + r.len + 1

abbrev pub runs : ℕ → Grammar (List Run)
runs count = many count run behind 1

-- the runs of a log behind their number
abbrev pub log : Grammar (List Run)
log = number 4 0 (2 ^ 32 - 1) >>= λ count. runs count

-- ---- arms

-- an arm and the runs of its log
abbrev pub ArmTold : Type 0
ArmTold = Arm × List Run

abbrev pub kind_of : ℕ → ArmKind
kind_of zero = arms.Leaf
kind_of (suc n) = arms.Spare

abbrev pub is_kind : ArmKind → ArmKind → Bool
is_kind arms.Leaf arms.Leaf = true
is_kind arms.Spare arms.Spare = true
is_kind arms.Leaf arms.Spare = false
is_kind arms.Spare arms.Leaf = false

-- whether an arm of this kind and number stands among some
abbrev pub has_arm : List ArmTold → ArmKind → ℕ → Bool
has_arm list kind number = list_any (λ (told : ArmTold). is_kind told.0.kind kind && (told.0.number == number)) list

abbrev pub stands : List (List ArmTold) → List ArmTold → ArmKind → ℕ → Bool
stands before here kind number = list_any (λ (list : List ArmTold). has_arm list kind number) before || has_arm here kind number

abbrev pub has_leaf : List ArmTold → Bool
has_leaf list = list_any (λ (told : ArmTold). is_kind told.0.kind arms.Leaf) list

-- how many leaves or spares there are
abbrev pub limit_of : Limits → ArmKind → ℕ
limit_of limits arms.Leaf = limits.next_leaf
limit_of limits arms.Spare = limits.spares

-- Bit 0 is offline, which is 0 for a spare, and bit 1 is fresh.
abbrev pub are_flags : ArmKind → ℕ → Bool
are_flags arms.Leaf flags = true
are_flags arms.Spare flags = flags % 2 == 0

-- an arm of a slot of `count` arms, behind those of the slots before and behind the slot's own before it: its kind,
-- its number and its flags, and then the log
abbrev pub arm_head : Limits → List (List ArmTold) → ℕ → List ArmTold → Grammar Arm
arm_head limits before count here = do
  code ← number 1 0 1
  leaf ← check (nat_lt (length here + 1) count || (has_leaf here || code == 0)) 1
  n ← number 8 0 (2 ^ 64 - 1)
  known ← check (nat_lt n (limit_of limits (kind_of code)) && not (stands before here (kind_of code) n)) 8
  flags ← number 1 0 3
  allowed ← check (are_flags (kind_of code) flags) 1
  Done (record { kind = kind_of code; number = n; offline = flags % 2 == 1; fresh = flags / 2 == 1 })

abbrev pub arm : Limits → List (List ArmTold) → ℕ → List ArmTold → Grammar ArmTold
arm limits before count here = arm_head limits before count here >>= λ a. log >>= λ l. Done (a, l)

abbrev pub with_last : {X : Type 0} → List X → X → List X
with_last front x = front ++ x ∷ []

abbrev pub slot_arms : Limits → List (List ArmTold) → ℕ → Grammar (List ArmTold)
slot_arms limits before count = many count (arm limits before count) with_last []

-- a slot, behind the slots before
abbrev pub slot : Limits → List (List ArmTold) → Grammar (List ArmTold)
slot limits before = number 1 1 3 >>= λ count. slot_arms limits before count

abbrev pub slots : Limits → Grammar (List (List ArmTold))
slots limits = many limits.children (slot limits) with_last []

-- ---- the pass

-- a pass, but for its number
pub record PassTold : Type 0 where
  pub kind : PassKind
  pub targets : List ArmAt
  pub max : ℕ
  pub «at» : ℕ
  pub errors : ℕ
  pub running : Bool

-- a target: an arm that is there, behind the target before
abbrev pub target : List (List ArmTold) → Option ArmAt → Grammar ArmAt
target all before = do
  s ← number 2 (least_slot before) (length all - 1)
  a ← number 1 (least_arm before s) (length (slice_index_or all s []) - 1)
  Done (record { slot = s; arm = a })

abbrev pub some_target : Option ArmAt → ArmAt → Option ArmAt
some_target before found = Some found

abbrev pub arm_count : List (List ArmTold) → ℕ
arm_count [] = 0
arm_count (here ∷ all) = length here + arm_count all

abbrev pub targets_of : List (List ArmTold) → ℕ → Grammar (List ArmAt)
targets_of all count = many count (target all) some_target None

-- the targets behind their number
abbrev pub targets : List (List ArmTold) → Grammar (List ArmAt)
targets all = number 2 0 (arm_count all) >>= λ count. targets_of all count

-- the fields of a pass of this kind before its targets; `least` is the least value of the running field
abbrev pub pass_head : Limits → PassKind → ℕ → Grammar PassTold
pass_head limits kind least = do
  running ← number 1 least 1
  max ← number 8 1 LAST_NUMBER
  place ← number 8 0 limits.stripes
  errors ← number 8 0 LAST_NUMBER
  Done (record { kind = kind; targets = []; max = max; «at» = place; errors = errors; running = running == 1 })

abbrev pub pass_of : Limits → List (List ArmTold) → PassKind → ℕ → Grammar (Option PassTold)
pass_of limits all kind least = pass_head limits kind least >>= λ head. targets all >>= λ list. Done (Some (record head { targets = list }))

abbrev pub pass_by : Limits → List (List ArmTold) → ℕ → Grammar (Option PassTold)
pass_by limits all zero = Done None
pass_by limits all (suc zero) = pass_of limits all Rebuild 0
pass_by limits all (suc (suc n)) = pass_of limits all Heal 1

-- the kind of the pass, 0 for none, and the pass
abbrev pub pass : Limits → List (List ArmTold) → Grammar (Option PassTold)
pass limits all = number 1 0 2 >>= λ kind. pass_by limits all kind

-- ---- blocks and their space

abbrev pub space_run : ℕ → Grammar Run
space_run state = do
  first ← number 8 0 (2 ^ 64 - 1)
  len ← number 8 0 (2 ^ 64 - 1)
  Done (record { first = first; len = len })

abbrev pub same_state : ℕ → Run → ℕ
same_state state r = state

abbrev pub space_runs : ℕ → Grammar (List Run)
space_runs count = many count space_run same_state 0

-- the runs behind their number
abbrev pub spaces : Grammar (List Run)
spaces = number 4 0 (2 ^ 32 - 1) >>= λ count. space_runs count

-- the stripes of a block of so many bytes: its sectors over the data columns, both rounded up
abbrev pub stripes_of : Limits → ℕ → ℕ
stripes_of limits len = ((len + limits.sector - 1) / limits.sector + limits.ndata - 1) / limits.ndata

-- a block at or behind a stripe, within one group
abbrev pub block : Limits → ℕ → Grammar Pointer
block limits low = do
  object ← number 8 0 (OBJECTS - 1)
  seq ← number 8 1 LAST_NUMBER
  first ← number 8 low (limits.stripes - 1)
  count ← number 4 1 (limits.height - first % limits.height)
  len ← number 4 1 LONGEST_BLOCK
  whole ← check (count == stripes_of limits len) 8
  birth ← number 8 1 limits.group
  digest ← text 32
  Done (record { object = object; seq = seq; metaslab = limits.metaslab; first = first; stripes = count; len = len; birth = birth; digest = digest })

-- the stripe behind a block
abbrev pub end_of : ℕ → Pointer → ℕ
end_of low b = b.first + b.stripes

abbrev pub blocks_of : Limits → ℕ → Grammar (List Pointer)
blocks_of limits count = many count (block limits) end_of 0

-- the blocks behind their number
abbrev pub blocks : Limits → Grammar (List Pointer)
blocks limits = number 4 0 (most_held limits.version) >>= λ count. blocks_of limits count

-- the runs of blocks of which the first begin at `first` and lie one behind the other up to a stripe
abbrev pub spaces_from : ℕ → ℕ → List Pointer → List Run
spaces_from first upto [] = record { first = first; len = upto - first } ∷ []
spaces_from first upto (b ∷ bs) =
    if b.first == upto then spaces_from first (b.first + b.stripes) bs
    else record { first = first; len = upto - first } ∷ spaces_from b.first (b.first + b.stripes) bs

-- the maximal runs of the blocks' stripes
abbrev pub spaces_of : List Pointer → List Run
spaces_of [] = []
spaces_of (b ∷ bs) = spaces_from b.first (b.first + b.stripes) bs

abbrev pub same_runs : List Run → List Run → Bool
same_runs [] [] = true
same_runs (a ∷ as_) (b ∷ bs) = ((a.first == b.first) && (a.len == b.len)) && same_runs as_ bs
same_runs [] (b ∷ bs) = false
same_runs (a ∷ as_) [] = false

-- ---- the whole

-- a record without what holds it in memory
pub record RecordTold : Type 0 where
  pub version : ℕ
  pub metaslab : ℕ
  pub group : ℕ
  pub slots : List (List ArmTold)
  pub last_pass : ℕ
  pub pass : Option PassTold
  pub blocks : List Pointer

-- the metaslab, the group and the number of slots
abbrev pub head : Limits → Grammar ℕ
head limits = do
  metaslab ← number 2 limits.metaslab limits.metaslab
  group ← number 8 limits.group limits.group
  children ← number 2 limits.children limits.children
  Done children

abbrev pub last_pass : Grammar ℕ
last_pass = number 8 0 LAST_NUMBER >>= λ last. Done last

-- what stands behind the blocks, nothing: the space runs are those of the blocks
abbrev pub behind_blocks : Limits → List (List ArmTold) → ℕ → Option PassTold → List Run → List Pointer → Grammar RecordTold
behind_blocks limits all last running runs list =
    check (same_runs runs (spaces_of list)) (8 + 16 * length runs + 72 * length list) >>= λ kept.
    Done (record { version = limits.version; metaslab = limits.metaslab; group = limits.group; slots = all; last_pass = last; pass = running; blocks = list })

abbrev pub behind_spaces : Limits → List (List ArmTold) → ℕ → Option PassTold → List Run → Grammar RecordTold
behind_spaces limits all last running runs = blocks limits >>= λ list. behind_blocks limits all last running runs list

abbrev pub behind_pass : Limits → List (List ArmTold) → ℕ → Option PassTold → Grammar RecordTold
behind_pass limits all last running = spaces >>= λ runs. behind_spaces limits all last running runs

abbrev pub behind_last : Limits → List (List ArmTold) → ℕ → Grammar RecordTold
behind_last limits all last = pass limits all >>= λ running. behind_pass limits all last running

abbrev pub behind_slots : Limits → List (List ArmTold) → Grammar RecordTold
behind_slots limits all = last_pass >>= λ last. behind_last limits all last

abbrev pub behind_head : Limits → Grammar RecordTold
behind_head limits = slots limits >>= λ all. behind_slots limits all

-- the fields behind the length
abbrev pub body : Limits → Grammar RecordTold
body limits = head limits >>= λ children. behind_head limits

-- what stands before the fields: `DZRC`, the version, and the length
abbrev pub front : Limits → ℕ → Grammar ℕ
front limits area = number 4 1146769987 1146769987 >>= λ magic. number 2 limits.version limits.version >>= λ version. number 4 10 area >>= λ len. Done len

-- ---- what is held in memory, as it is told

abbrev pub told_arm : Arm × Numbers → ArmTold
told_arm pair = (pair.0, pair.1.runs)

abbrev pub told_slot : List (Arm × Numbers) → List ArmTold
told_slot list = map told_arm list

abbrev pub told_slots : List (Vec (Arm × Numbers) Global) → List (List ArmTold)
told_slots lists = map (λ (list : Vec (Arm × Numbers) Global). told_slot list.items) lists

abbrev pub told_pass : Pass → PassTold
told_pass pass = record { kind = pass.kind; targets = pass.targets.items; max = pass.max; «at» = pass.«at»; errors = pass.errors; running = pass.running }

abbrev pub told_record : Record → RecordTold
told_record it = record { version = it.version; metaslab = it.metaslab; group = it.group; slots = told_slots it.slots.items; last_pass = it.last_pass; pass = option_map told_pass it.pass; blocks = it.blocks.items }

-- limits that a layout gives
pub record AreLimits (limits : Limits) : Type 0 where
  pub some_sector : 1 ≤ limits.sector
  pub most_sector : limits.sector ≤ 4096
  pub some_data : 1 ≤ limits.ndata
  pub most_data : limits.ndata ≤ 2 ^ 32
  pub some_height : 1 ≤ limits.height
  pub most_stripes : limits.stripes ≤ NUMBERS

-- what the ranges of a metaslab's record go by
abbrev pub limits_of : Geometry → ℕ → ℕ → ℕ → Limits
limits_of geometry metaslab group next_leaf =
    record {
      version = geometry.props.version;
      children = geometry.spec.children;
      spares = geometry.spec.spares;
      next_leaf = next_leaf;
      metaslab = metaslab;
      group = group;
      stripes = metaslab_stripes geometry;
      height = geometry.props.height;
      sector = geometry.props.sector;
      ndata = geometry.spec.ndata;
    }

-- ---- the whole record, at the front of its area

-- the bytes behind the length are the record's fields and end with them; no bytes are left behind them
abbrev pub ended : ℕ → Result (RecordTold × List ℕ) Fault → Result RecordTold RecordFault
ended len (Err f) = Err (placed len f)
ended len (Ok (value, [])) = Ok value
ended len (Ok (value, byte ∷ left)) = Err (placed len (goes_on (suc (length left))))

-- behind its front a record has as many bytes as its length says
abbrev pub fronted : Limits → ℕ → Result (ℕ × List ℕ) Fault → Result RecordTold RecordFault
fronted limits area (Err f) = Err (placed area f)
fronted limits area (Ok (len, rest)) = ended len (read (body limits) (take (len - 10) rest))

-- what an area tells: the record, or its first fault
abbrev pub record_of : Limits → List ℕ → Result RecordTold RecordFault
record_of limits area = fronted limits (length area) (read (front limits (length area)) area)

-- An area begins with the bytes of a record: its front, which says the length, and the fields behind. Bytes behind
-- the length may follow.
pub record Spelled (limits : Limits) (area : List ℕ) (value : RecordTold) : Type 0 where
  pub len : ℕ
  pub head_bytes : List ℕ
  pub text_bytes : List ℕ
  pub more : List ℕ
  pub parts : area ≡ head_bytes ++ (text_bytes ++ more)
  pub front_is : Spells (front limits (length area)) head_bytes len
  pub whole : length head_bytes + length text_bytes ≡ len
  pub fields_are : Spells (body limits) text_bytes value

-- What a reader answered is what is found, unless memory ran out.
abbrev pub Fits : RecordFault → Result RecordTold RecordFault → Type 0
Fits faults.NoMemory found = ⊤
Fits (faults.Bad place kind) found = found ≡ Err (faults.Bad place kind)

abbrev pub Answers : Result Record RecordFault → Result RecordTold RecordFault → Type 0
Answers (Ok it) found = found ≡ Ok (told_record it)
Answers (Err e) found = Fits e found
