use Rattle.std.specs.Prelude.{◌≡◌, ◌<◌, ℕ, Bool, List, [], Option, Some, None, Vec, zero, suc, option_map, ◌∷◌, if◌then◌else◌}
use Rattle.draid_machine.specs.Names.{key_eq, name_eq, segment_eq, has_segment}
use Rattle.std.specs.Global.{Global}
use Rattle.draid_names.specs.declared.numbers.TheConstants.{NUMBERS}
use Rattle.draid_ranges.specs.Numbers.{has}
use Rattle.draid_machine.specs.declared.names.Key.{Key}
use Rattle.draid_machine.specs.declared.names.ArmName.{ArmName}
use Rattle.draid_machine.specs.declared.names.Held.{Held}
use Rattle.draid_machine.specs.declared.names.Segment.{Segment}
use Rattle.draid_machine.specs.State as state
use Rattle.draid_machine.specs.Arms.{first_spares}
use Rattle.draid_layouts.specs.Layout.{layout_of}
use Rattle.draid_world.specs.declared.site.Site.{Site}
use Rattle.draid_world.specs.declared.world.Arm.{Arm}
use Rattle.draid_world.specs.declared.world.Detached.{Detached}
use Rattle.draid_world.specs.declared.world.WorldPass.{WorldPass}
use Rattle.draid_world.specs.declared.world.Lent.{Lent}
use Rattle.draid_world.specs.declared.world.Tables.{Tables}
use Rattle.draid_world.specs.declared.world.Image.{Image}
use Rattle.draid_world.specs.declared.world.World.{World}

abbrev pub gone_of : Detached → state.Gone
gone_of g = record { slot = g.slot; group = g.group }

abbrev pub arm_of : Arm → state.Arm
arm_of a = record { offline = a.offline; fresh = a.fresh; log = has a.log; gone = option_map gone_of a.gone }

-- the entry of a key, the arm of a name
abbrev pub held_in : List (Key × Held) → Key → Option Held
held_in [] k = None
held_in (e ∷ es) k = if key_eq e.0 k then Some e.1 else held_in es k

abbrev pub arm_in : List (ArmName × Arm) → ArmName → Option state.Arm
arm_in [] n = None
arm_in (e ∷ es) n = if name_eq e.0 n then Some (arm_of e.1) else arm_in es n

-- the group for which a segment is kept
abbrev pub kept_in : List (Segment × ℕ) → Segment → Option ℕ
kept_in [] s = None
kept_in (e ∷ es) s = if segment_eq e.0 s then Some e.1 else kept_in es s

-- the arms of a slot, of a column
abbrev pub names_at : List (Vec ArmName Global) → ℕ → List ArmName
names_at [] c = []
names_at (v ∷ vs) zero = v.items
names_at (v ∷ vs) (suc c) = names_at vs c

abbrev pub name_at : List (Option ArmName) → ℕ → Option ArmName
name_at [] c = None
name_at (o ∷ os) zero = o
name_at (o ∷ os) (suc c) = name_at os c

abbrev pub pass_of : WorldPass → state.Pass
pass_of p = record { number = p.number; kind = p.kind; targets = p.targets.items; max = p.max; next = p.next; errors = p.errors; running = p.running }

abbrev pub loan_of : Lent → state.Loan
loan_of n = record { key = n.key; stripe = n.stripe; serial = n.serial; read = names_at n.read.items; chosen = name_at n.chosen.items }

abbrev pub core_of : Tables → state.Core
core_of t = record { held = held_in t.held.entries; arm = arm_in t.arms.entries; order = names_at t.order.items; pass = option_map pass_of t.pass; last = t.last }

abbrev pub image_of : Image → state.Image
image_of i = record { group = i.group; version = i.version; core = core_of i.tables }

-- the state that a world is
abbrev pub state_of : World → state.State
state_of w = record {
  open_group = w.open_group;
  closing = w.closing;
  committed = w.committed;
  version = w.version;
  asked = w.asked;
  core = core_of w.tables;
  serial = w.serial;
  loan = option_map loan_of w.loan;
  image = image_of w.image;
  sealed = option_map image_of w.sealed;
  present = has_segment w.present.keys;
  aside = has_segment w.aside.keys;
  kept = kept_in w.kept.entries;
}

-- the layout of a metaslab
abbrev pub site_layout : Site → state.Layout
site_layout s = layout_of s.geometry s.perms s.metaslab

-- an arm whose leaf is offline or isn't
abbrev pub offline_arm : Arm → Bool → Arm
offline_arm a offline = record a { offline = offline }

abbrev pub switched : state.Arm → Bool → state.Arm
switched a offline = record a { offline = offline }

-- the slot on whose first leaf a spare keeps what belongs to a stripe, by the arms of each slot
abbrev pub home_at : state.Layout → (ℕ → List ArmName) → ℕ → ℕ → ℕ
home_at l order spare x = l.home (first_spares order) spare x

-- the slot that has a column of a stripe
abbrev pub slot_at : state.Layout → ℕ → ℕ → ℕ
slot_at l x c = l.slot_of x c

-- blocks and tickets begin at stripes below 2^48
abbrev pub AreAllLow : (Key → Option Held) → Type 0
AreAllLow held = (k : Key) (h : Held) → held k ≡ Some h → h.first < NUMBERS

abbrev pub AreLow : state.Core → Type 0
AreLow q = AreAllLow q.held
