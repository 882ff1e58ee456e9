-- The slots of the uberblock area.
use Rattle.std.specs.Prelude.{◌≡◌, ◌==◌, ◌<◌, ◌≤◌, ◌-◌, ◌%◌, ◌^◌, ◌||◌, ℕ, Bool, true, nat_le, List, ◌++◌, Result, Ok, Err, is_ok}
use Rattle.std.specs.Int.{is_power_of_two}
use Rattle.draid_names.specs.declared.numbers.TheConstants.{LAST_NUMBER}
use Rattle.draid_spec.specs.Geometry.{IsProps, IsVersion, geometry_of}
use Rattle.draid_spec.specs.Spec.{IsSpec, have_of, most_children, need_of}
use Rattle.draid_spec.specs.declared.layout.Props.{Props}
use Rattle.draid_spec.specs.declared.spec.Spec.{Spec}
use Rattle.draid_record.specs.declared.fault.Fault.{Fault}
use Rattle.draid_record.specs.declared.fault.RecordFault.{RecordFault}
use Rattle.draid_record.specs.Reading.{placed}
use Rattle.draid_record.specs.declared.uber.UberBody.{UberBody}
use Rattle.draid_record.specs.Grammar.{Grammar, Done, ◌>>=◌, Spells, check, number}

-- what a layout goes by beside the spec and the seed
abbrev pub seedless : ℕ → ℕ → ℕ → ℕ → ℕ → Props
seedless version sector height metaslabs slices =
    record { sector = sector; height = height; metaslabs = metaslabs; slices = slices; seed = 0; version = version }

-- a spec and properties give a layout; where they are in their ranges, its sectors are few enough
abbrev pub gives_layout : Spec → Props → Bool
gives_layout spec props = is_ok (geometry_of spec props)

abbrev pub is_wide : Spec → Bool
is_wide spec = nat_le (need_of spec) (have_of spec)

-- the gate, `DZUB`, the version and the group, whose parity is the number of the slot
abbrev pub head : ℕ → Grammar (ℕ × ℕ)
head slot = do
  gate ← number 1 90 90
  magic ← number 4 1146770754 1146770754
  version ← number 2 1 2
  group ← number 8 1 (LAST_NUMBER - 1)
  even ← check (group % 2 == slot) 8
  Done (version, group)

-- a spec with as many children as the version allows
abbrev pub spec : ℕ → Grammar Spec
spec version = do
  parity ← number 1 1 3
  ndata ← number 1 1 255
  children ← number 1 2 (most_children version)
  spares ← number 1 0 4
  wide ← check (is_wide (record { parity = parity; ndata = ndata; children = children; spares = spares })) 1
  Done (record { parity = parity; ndata = ndata; children = children; spares = spares })

-- the properties of a pool of this spec
abbrev pub props : ℕ → Spec → Grammar Props
props version s = do
  sector ← number 4 512 4096
  known ← check (sector == 512 || sector == 4096) 4
  height ← number 4 8 4096
  power ← check (is_power_of_two height) 4
  metaslabs ← number 4 1 64
  slices ← number 4 1 1024
  layout ← check (gives_layout s (seedless version sector height metaslabs slices)) 4
  seed ← number 8 0 (2 ^ 64 - 1)
  Done (record { sector = sector; height = height; metaslabs = metaslabs; slices = slices; seed = seed; version = version })

abbrev pub behind_props : ℕ → Spec → Props → Grammar UberBody
behind_props group s p =
    number 8 s.children LAST_NUMBER >>= λ next_leaf. Done (record { group = group; spec = s; props = p; next_leaf = next_leaf })

abbrev pub behind_spec : ℕ × ℕ → Spec → Grammar UberBody
behind_spec front s = props front.0 s >>= λ p. behind_props front.1 s p

abbrev pub behind_head : ℕ × ℕ → Grammar UberBody
behind_head front = spec front.0 >>= λ s. behind_spec front s

-- the bytes of an open slot
unfoldable pub uber : ℕ → Grammar UberBody
uber slot = head slot >>= λ front. behind_head front

-- a value that a slot can spell
pub record IsUber (body : UberBody) : Type 0 where
  pub group_above : 1 ≤ body.group
  pub group_below : body.group ≤ LAST_NUMBER - 1
  pub version_is : IsVersion body.props.version
  pub spec_is : IsSpec body.props.version body.spec
  pub wide : need_of body.spec ≤ have_of body.spec
  pub props_are : IsProps body.props
  pub layout : gives_layout body.spec (seedless body.props.version body.props.sector body.props.height body.props.metaslabs body.props.slices) ≡ true
  pub seed_below : body.props.seed < 2 ^ 64
  pub leaf_above : body.spec.children ≤ body.next_leaf
  pub leaf_below : body.next_leaf ≤ LAST_NUMBER

-- what reading a text of so many bytes tells: the value, or the first fault by its place
abbrev pub told : {A : Type 0} → ℕ → Result (A × List ℕ) Fault → Result A RecordFault
told len (Ok x) = Ok x.0
told len (Err f) = Err (placed len f)

-- the bytes begin with what a grammar spells for a value
abbrev pub Begins : {A : Type 0} → List ℕ → Grammar A → A → Type 0
Begins bytes grammar value = (front : List ℕ) × (rest : List ℕ) × (bytes ≡ front ++ rest) × Spells grammar front value
