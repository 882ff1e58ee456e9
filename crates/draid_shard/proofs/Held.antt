-- What a state has of the blocks of a shard, and for which states a shard stands whose tables changed.
use Rattle.std.proofs.Common.{◌≡◌, ◌∙◌, ℕ, Bool, Option, Some, None, option_map, refl, sym, ap}
use Rattle.draid_metaslab.specs.Spaces.{Stripes}
use Rattle.draid_machine.specs.declared.names.Key.{Key}
use Rattle.draid_machine.specs.declared.names.Held.{Held}
use Rattle.draid_machine.specs.declared.names.Segment.{Segment}
use Rattle.draid_machine.specs.State.{State}
use Rattle.draid_machine.proofs.Small.{none_some, some_injective}
use Rattle.draid_entries.specs.declared.entry.Entry.{Entry}
use Rattle.draid_entries.specs.declared.entries.Entries.{Entries}
use Rattle.draid_entries.specs.declared.history.History.{History}
use Rattle.draid_entries.specs.Entries.{entry_at, held_in}
use Rattle.draid_entries.specs.Maps.{first_in, held_at, held_from, key_of}
use Rattle.draid_entries.proofs.Counted.{led_held}
use Rattle.draid_shard.specs.declared.shard.Shard.{Shard}
use Rattle.draid_shard.specs.States.{IsIn}
use Rattle.draid_shard.proofs.Tables.{first_is}

-- ---- entries and keys

-- what a state has of a block is what its entry says
pub key_leads : (t : Entries) (first : ℕ) (e : Entry) → entry_at t first ≡ Some e → held_in t (key_of e.pointer) ≡ Some (held_at e)
key_leads t first e there = ap (held_from t.firsts) (t.agree.found first e there).named ∙ ap (option_map held_at) there

-- the entry of a block that a state has
pub record HasEntry (t : Entries) (key : Key) (h : Held) : Type 0 where
  pub e : Entry
  pub there : entry_at t h.first ≡ Some e
  pub key_is : key_of e.pointer ≡ key
  pub held_is : held_at e ≡ h

pub held_entry : (t : Entries) (key : Key) (h : Held) → held_in t key ≡ Some h → HasEntry t key h
held_entry t key h is = by (first_in t.keys.entries key) refl
  where
    by : (o : Option ℕ) → first_in t.keys.entries key ≡ o → HasEntry t key h
    by None at = absurd (none_some (held_in t key) h (ap (held_from t.firsts) at) is)
    by (Some x) at =
        let z = led_held t key x at in
        let same : held_at z.0 ≡ h = some_injective (held_at z.0) h (sym z.3 ∙ is) in
        let first : h.first ≡ x = sym (ap (λ (i : Held). i.first) same) ∙ first_is t x z.0 z.1 in
        record { e = z.0; there = ap (entry_at t) first ∙ z.1; key_is = z.2; held_is = same }

-- ---- states

abbrev pub with_tables : {R A : Type 0} → Shard R A → Stripes → Entries → History → Shard R A
with_tables shard space entries history = record shard { space = space; entries = entries; history = history }

pub tables_in : {R A : Type 0} (old : Shard R A) (space : Stripes) (entries : Entries) (history : History) (w : State) (held : Key → Option Held) (present aside : Segment → Bool)
    (kept : Segment → Option ℕ) → IsIn old w → ((key : Key) → held key ≡ held_in entries key)
    → IsIn (with_tables old space entries history) (record w { core = record w.core { held = held }; present = present; aside = aside; kept = kept })
tables_in old space entries history w held present aside kept is_in same = record {
  held = same;
  slots = record { order = is_in.slots.order; arms = is_in.slots.arms; detached = is_in.slots.detached; only = is_in.slots.only };
  pass = is_in.pass;
  last = is_in.last;
  open_group_is = is_in.open_group_is;
  closing = is_in.closing;
  sealed = is_in.sealed;
  committed = is_in.committed;
  version = is_in.version;
  asked = is_in.asked;
  serial = is_in.serial;
  loan = is_in.loan;
}
