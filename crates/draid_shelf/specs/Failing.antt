use Rattle.std.specs.Prelude.{◌≡◌, ◌<◌, ⊤, ◌==◌, ℕ, Bool, List, [], Option, Some, is_some, option_map, if◌then◌else◌}
use Rattle.draid_area.specs.Memory.{size_of_memory}
use Rattle.draid_faults.specs.declared.calls.Calls.{Calls}
use Rattle.draid_faults.specs.declared.crash.CrashRule.{CrashRule}
use Rattle.draid_faults.specs.Calls.{failing_calls}
use Rattle.draid_rack.specs.Rack.{Told}
use Rattle.draid_shelf.specs.Kits.{Held}
use Rattle.draid_shelf.specs.Memory.{MakesAll, held_at, held_by, list_at, list_of}
use Rattle.draid_spec.specs.declared.layout.Geometry.{Geometry}
use Rattle.draid_shelf.specs.declared.devices.Devices.{Devices}
use Rattle.draid_shelf.specs.declared.memory.MemoryShelf.{MemoryShelf}
use Rattle.draid_shelf.specs.declared.place.Place.{Place}
use Rattle.draid_shelf.specs.declared.place.Place.TheVariants.{Own, Rack, Even, Odd, CheckEven, CheckOdd, Uber}
use Rattle.draid_shelf.specs.declared.plan.Plan.{Plan}

abbrev pub held_by_memory : MemoryShelf → ℕ → Option Told
held_by_memory shelf = held_at shelf.devices.racks

-- its own calls that can fail, and which of them do
abbrev pub calls_of : MemoryShelf → Calls
calls_of shelf = shelf.calls

abbrev pub told_of : MemoryShelf → Option Held
told_of shelf = Some (held_by shelf.devices)

-- how long the area of the uberblock is, where it is held
abbrev pub uber_size_of : MemoryShelf → Option ℕ
uber_size_of shelf = option_map size_of_memory shelf.devices.uber

-- the numbers of the calls that fail: those of the shelf itself, and those of the devices that are made
pub record Lists : Type 0 where
  pub own : List ℕ
  pub racks : ℕ → List ℕ
  pub evens : ℕ → List ℕ
  pub odds : ℕ → List ℕ
  pub check_even : List ℕ
  pub check_odd : List ℕ
  pub uber : List ℕ

abbrev pub lists_by : Calls → Plan → Lists
lists_by calls plan = record {
  own = failing_calls calls;
  racks = list_at plan.racks;
  evens = list_at plan.evens;
  odds = list_at plan.odds;
  check_even = list_of plan.check_even;
  check_odd = list_of plan.check_odd;
  uber = list_of plan.uber;
}

abbrev pub lists_of : MemoryShelf → Lists
lists_of shelf = lists_by shelf.calls shelf.plan

-- no call fails
abbrev pub no_lists : Lists
no_lists = record { own = []; racks = λ _. []; evens = λ _. []; odds = λ _. []; check_even = []; check_odd = []; uber = [] }

-- f with another list at one metaslab
abbrev pub put_list : ℕ → List ℕ → (ℕ → List ℕ) → ℕ → List ℕ
put_list m list f q = if q == m then list else f q

-- at this place the calls with these numbers fail, and elsewhere the same as before
abbrev pub fails_at : Place → List ℕ → Lists → Lists
fails_at Own list x = record { own = list; racks = x.racks; evens = x.evens; odds = x.odds; check_even = x.check_even; check_odd = x.check_odd; uber = x.uber }
fails_at (Rack m) list x = record { own = x.own; racks = put_list m list x.racks; evens = x.evens; odds = x.odds; check_even = x.check_even; check_odd = x.check_odd; uber = x.uber }
fails_at (Even m) list x = record { own = x.own; racks = x.racks; evens = put_list m list x.evens; odds = x.odds; check_even = x.check_even; check_odd = x.check_odd; uber = x.uber }
fails_at (Odd m) list x = record { own = x.own; racks = x.racks; evens = x.evens; odds = put_list m list x.odds; check_even = x.check_even; check_odd = x.check_odd; uber = x.uber }
fails_at CheckEven list x = record { own = x.own; racks = x.racks; evens = x.evens; odds = x.odds; check_even = list; check_odd = x.check_odd; uber = x.uber }
fails_at CheckOdd list x = record { own = x.own; racks = x.racks; evens = x.evens; odds = x.odds; check_even = x.check_even; check_odd = list; uber = x.uber }
fails_at Uber list x = record { own = x.own; racks = x.racks; evens = x.evens; odds = x.odds; check_even = x.check_even; check_odd = x.check_odd; uber = list }

-- the number of the shelf's next call
abbrev pub next_at : Place → ℕ → ℕ
next_at Own next = 0
next_at place next = next

-- the metaslab of a place is one that a shelf has
abbrev pub IsPlace : Place → Type 0
IsPlace (Rack m) = m < 64
IsPlace (Even m) = m < 64
IsPlace (Odd m) = m < 64
IsPlace place = ⊤

-- what a crash leaves of what wasn't flushed
abbrev pub rule_of : MemoryShelf → CrashRule
rule_of shelf = shelf.rule

-- the devices that are made from now on are given a fuse
abbrev pub is_planned : MemoryShelf → Bool
is_planned shelf = is_some shelf.plan.fuse

-- how often making and taking has failed
abbrev pub shelf_faults : MemoryShelf → ℕ
shelf_faults shelf = shelf.faults

-- The rule, the lists and the fuse of what is made are as they were.
pub record KeepsPlan (old new : MemoryShelf) : Type 0 where
  pub rule : rule_of new ≡ rule_of old
  pub lists : lists_of new ≡ lists_of old
  pub fuse : is_planned new ≡ is_planned old

-- devices as they are made by these lists
abbrev pub MakesBy : Geometry → Lists → Bool → Devices → Type 0
MakesBy geometry lists fused devices = MakesAll geometry lists.racks lists.evens lists.odds lists.check_even lists.check_odd lists.uber fused devices
