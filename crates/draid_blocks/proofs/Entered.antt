-- What stays where one entry of the tables is set: the keys, the births of tickets, and the metaslab that pointers name.
use Rattle.std.proofs.Common.{◌≡◌, ◌==◌, ◌≤◌, ◌∙◌, ℕ, Bool, true, false, Option, Some, None, option_map, if◌then◌else◌, arith, refl, sym, ap, inl, inr}
use Rattle.std.proofs.lemmas.Bool.{true≢false}
use Rattle.draid_names.specs.declared.pointer.Pointer.{Pointer}
use Rattle.draid_metaslab.specs.Spaces.{Stripes}
use Rattle.draid_machine.specs.declared.names.Key.{Key}
use Rattle.draid_machine.specs.declared.names.Held.{Held}
use Rattle.draid_machine.specs.declared.names.Stage.{Stage}
use Rattle.draid_machine.specs.declared.names.Stage.TheVariants.{Writing}
use Rattle.draid_machine.specs.Names.{is_block, key_eq}
use Rattle.draid_machine.specs.After.{set_held}
use Rattle.draid_machine.specs.State.{State}
use Rattle.draid_machine.proofs.Small.{none_some, some_injective}
use Rattle.draid_entries.specs.declared.entry.Entry.{Entry}
use Rattle.draid_entries.specs.declared.entries.Entries.{Entries}
use Rattle.draid_entries.specs.declared.history.History.{History}
use Rattle.draid_entries.specs.Entries.{SameEntries, SetsEntry, entry_at, held_in}
use Rattle.draid_entries.specs.Maps.{held_at, key_of, staged}
use Rattle.draid_shard.specs.declared.shard.Shard.{Shard}
use Rattle.draid_shard.specs.Fits.{AreHere, TicketsAreNew}
use Rattle.draid_shard.specs.States.{IsIn}
use Rattle.draid_shard.proofs.Tables.{entry_cases}
use Rattle.draid_shard.proofs.Held.{tables_in, with_tables}

-- ---- entries and keys

-- the table with one entry changed is the state's
pub set_same : (held : Key → Option Held) (old new : Entries) (p : Pointer) (entry : Option Entry) → ((key : Key) → held key ≡ held_in old key) → SetsEntry old new p entry
    → (key : Key) → set_held held (key_of p) (option_map held_at entry) key ≡ held_in new key
set_same held old new p entry same sets key =
    ap (λ o. if key_eq (key_of p) key then option_map held_at entry else o) (same key) ∙ sym (sets.held key)

-- ---- states

-- nothing changed that a state has
pub stays_in : {R A : Type 0} (old : Shard R A) (space : Stripes) (entries : Entries) (history : History) (w : State) → SameEntries old.entries entries → IsIn old w
    → IsIn (with_tables old space entries history) w
stays_in old space entries history w same is_in =
    tables_in old space entries history w w.core.held w.present w.aside w.kept is_in (λ key. is_in.held key ∙ sym (same.held key))

-- ---- tickets

pub tickets_set : (old new : Entries) (p : Pointer) (entry : Option Entry) (from : ℕ) → TicketsAreNew old from → SetsEntry old new p entry
    → ((e : Entry) (put missed : ℕ) → entry ≡ Some e → e.stage ≡ Writing put missed → from ≤ e.pointer.birth) → TicketsAreNew new from
tickets_set old new p entry from tickets sets own first e put missed there stage = elim (entry_cases old new p first entry e sets there) [
  | inl here ↦ own e put missed here.1 stage
  | inr other ↦ tickets first e put missed other.1 stage
]

-- a ticket came, or came to another stage
pub tickets_staged : (old new : Entries) (p : Pointer) (s : Stage) (from : ℕ) → from ≤ p.birth → TicketsAreNew old from → SetsEntry old new p (Some (staged s p)) → TicketsAreNew new from
tickets_staged old new p s from due tickets sets = tickets_set old new p (Some (staged s p)) from tickets sets own
  where
    own : (e : Entry) (put missed : ℕ) → Some (staged s p) ≡ Some e → e.stage ≡ Writing put missed → from ≤ e.pointer.birth
    own e put missed is stage = let same : p.birth ≡ e.pointer.birth = ap (λ (e : Entry). e.pointer.birth) (some_injective (staged s p) e is) in omega (arith, due, same)

-- nothing came, or a block
pub tickets_gone : (old new : Entries) (p : Pointer) (from : ℕ) → TicketsAreNew old from → SetsEntry old new p None → TicketsAreNew new from
tickets_gone old new p from tickets sets = tickets_set old new p None from tickets sets (λ e put missed is stage. absurd (none_some None e refl is))

pub tickets_block : (old new : Entries) (p : Pointer) (s : Stage) (from : ℕ) → is_block s ≡ true → TicketsAreNew old from → SetsEntry old new p (Some (staged s p)) → TicketsAreNew new from
tickets_block old new p s from block tickets sets = tickets_set old new p (Some (staged s p)) from tickets sets own
  where
    own : (e : Entry) (put missed : ℕ) → Some (staged s p) ≡ Some e → e.stage ≡ Writing put missed → from ≤ e.pointer.birth
    own e put missed is stage =
        let same : s ≡ Writing put missed = ap (λ (e : Entry). e.stage) (some_injective (staged s p) e is) ∙ stage in
        absurd (true≢false (sym block ∙ ap is_block same))

pub tickets_same : (old new : Entries) (from : ℕ) → TicketsAreNew old from → SameEntries old new → TicketsAreNew new from
tickets_same old new from tickets same first e put missed there stage = tickets first e put missed (sym (same.at first) ∙ there) stage

-- ---- the metaslab that pointers name

pub here_set : (old new : Entries) (p : Pointer) (entry : Option Entry) (number : ℕ) → ((e : Entry) → entry ≡ Some e → e.pointer.metaslab ≡ number) → SetsEntry old new p entry → AreHere old number
    → AreHere new number
here_set old new p entry number named sets here = record {
  each = λ first e there. of first e (first == p.first) refl there;
}
  where
    of : (first : ℕ) (e : Entry) (b : Bool) → (first == p.first) ≡ b → entry_at new first ≡ Some e → e.pointer.metaslab ≡ number
    of first e true is there = named e (sym (sets.at first ∙ ap (λ c. if c then entry else entry_at old first) is) ∙ there)
    of first e false other there = here.each first e (sym (sets.at first ∙ ap (λ c. if c then entry else entry_at old first) other) ∙ there)

pub here_same : (old new : Entries) (number : ℕ) → AreHere old number → SameEntries old new → AreHere new number
here_same old new number here same = record { each = λ first e there. here.each first e (sym (same.at first) ∙ there) }

-- a block or a ticket came to another stage
pub here_turned : (old new : Entries) (p : Pointer) (was stage : Stage) (number : ℕ) → entry_at old p.first ≡ Some (staged was p) → SetsEntry old new p (Some (staged stage p)) → AreHere old number
    → AreHere new number
here_turned old new p was stage number there sets here =
    here_set old new p (Some (staged stage p)) number (λ e is. ap (λ (x : Entry). x.pointer.metaslab) (sym (some_is (staged stage p) e is)) ∙ here.each p.first (staged was p) there) sets here
  where
    some_is : (x e : Entry) → Some x ≡ Some e → x ≡ e
    some_is x e is = cc

-- one went
pub here_gone : (old new : Entries) (p : Pointer) (number : ℕ) → SetsEntry old new p None → AreHere old number → AreHere new number
here_gone old new p number sets here = here_set old new p None number (λ e is. absurd (cc)) sets here
