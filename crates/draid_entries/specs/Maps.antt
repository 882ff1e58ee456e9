-- The two maps of a metaslab's blocks and tickets: by first stripe, and by key.
use Rattle.std.specs.Prelude.{◌≡◌, ◌<◌, ℕ, List, [], ◌∷◌, Option, Some, None, option_map, if◌then◌else◌}
use Rattle.std.specs.Ordering.{nat_cmp}
use Rattle.std.specs.BTreeMap.{BTreeMap, get}
use Rattle.draid_names.specs.declared.numbers.TheConstants.{NUMBERS}
use Rattle.draid_names.specs.declared.pointer.Pointer.{Pointer}
use Rattle.draid_machine.specs.declared.names.Key.{Key}
use Rattle.draid_machine.specs.declared.names.Held.{Held}
use Rattle.draid_machine.specs.declared.names.Stage.{Stage}
use Rattle.draid_machine.specs.Names.{key_eq}
use Rattle.draid_entries.specs.declared.entry.Entry.{Entry}

-- by what a pointer's block is known in its metaslab
abbrev pub key_of : Pointer → Key
key_of p = record { object = p.object; seq = p.seq }

-- a pointer's block at a stage
abbrev pub staged : Stage → Pointer → Entry
staged s p = record { pointer = p; stage = s }

-- what a state has of a block or a ticket
abbrev pub held_at : Entry → Held
held_at e = record {
  first = e.pointer.first;
  stripes = e.pointer.stripes;
  len = e.pointer.len;
  birth = e.pointer.birth;
  digest = e.pointer.digest;
  stage = e.stage;
}

-- the entry at a first stripe
abbrev pub entry_in : BTreeMap ℕ Entry → ℕ → Option Entry
entry_in firsts first = get nat_cmp firsts first

-- the first stripe of a key
abbrev pub first_in : List (Key × ℕ) → Key → Option ℕ
first_in [] key = None
first_in (e ∷ es) key = if key_eq e.0 key then Some e.1 else first_in es key

abbrev pub held_from : BTreeMap ℕ Entry → Option ℕ → Option Held
held_from firsts None = None
held_from firsts (Some first) = option_map held_at (entry_in firsts first)

-- an entry stands at its first stripe, and its key leads there
pub record IsFoundAt (keys : BTreeMap Key ℕ) (first : ℕ) (e : Entry) : Type 0 where
  pub first_is : e.pointer.first ≡ first
  pub low : first < NUMBERS
  pub named : first_in keys.entries (key_of e.pointer) ≡ Some first

-- both maps have the same blocks and tickets
pub record Agree (firsts : BTreeMap ℕ Entry) (keys : BTreeMap Key ℕ) : Type 0 where
  pub found : (first : ℕ) (e : Entry) → entry_in firsts first ≡ Some e → IsFoundAt keys first e
  pub leads : (key : Key) (first : ℕ) → first_in keys.entries key ≡ Some first → option_map (λ (e : Entry). key_of e.pointer) (entry_in firsts first) ≡ Some key
