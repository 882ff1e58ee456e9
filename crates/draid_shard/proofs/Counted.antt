-- Entries that pass a test are counted one after another, and those that a state has are as many.
use Rattle.std.proofs.Common.{◌≡◌, ◌+◌, ◌<◌, ◌≤◌, ◌∙◌, ℕ, List, ◌∷◌, Some, false, arith, sym, ap, subst, inl, inr, length}
use Rattle.std.specs.Prelude.{Contains}
use Rattle.draid_machine.specs.declared.names.Key.{Key}
use Rattle.draid_machine.specs.declared.names.Held.{Held}
use Rattle.draid_machine.specs.Names.{is_block}
use Rattle.draid_machine.specs.State as machine
use Rattle.draid_machine.proofs.Small.{some_injective}
use Rattle.draid_entries.specs.declared.entry.Entry.{Entry}
use Rattle.draid_entries.specs.declared.entries.Entries.{Entries}
use Rattle.draid_entries.specs.Entries.{entry_at, held_in}
use Rattle.draid_entries.specs.Maps.{first_in, held_at, key_of}
use Rattle.draid_entries.specs.Thin.{Distinct}
use Rattle.draid_shard.specs.Looks.{HasTickets}
use Rattle.draid_shard.specs.States.{IsIn}
use Rattle.draid_shard.specs.declared.shard.Shard.{Shard}
use Rattle.draid_shard.proofs.Among.{has_behind, has_cases, has_first}
use Rattle.draid_shard.proofs.Held.{HasEntry, held_entry, key_leads}
use Rattle.draid_shard.proofs.Passing.{NoneBetween, NoneFrom, all_passed, next_cases, own_place}

-- an entry that begins before a stripe, of this key, passes the test
pub record IsCounted (t : Entries) (test : Entry → Type 0) (stripe : ℕ) (key : Key) : Type 0 where
  pub e : Entry
  pub there : entry_at t e.pointer.first ≡ Some e
  pub key_is : key_of e.pointer ≡ key
  pub low : e.pointer.first < stripe
  pub passes : test e

-- so many of those that begin before a stripe pass the test
pub record CountsBelow (t : Entries) (test : Entry → Type 0) (stripe count : ℕ) : Type 0 where
  pub keys : List Key
  pub once : Distinct keys
  pub each : (key : Key) → Contains keys key → IsCounted t test stripe key
  pub all : (e : Entry) → entry_at t e.pointer.first ≡ Some e → e.pointer.first < stripe → test e → Contains keys (key_of e.pointer)
  pub many : count ≡ length keys

module _ (t : Entries) (test : Entry → Type 0) where
  -- an entry further on
  further : (stripe at : ℕ) (key : Key) → stripe ≤ at → IsCounted t test stripe key → IsCounted t test (at + 1) key
  further stripe at key from c = record { e = c.e; there = c.there; key_is = c.key_is; low = (let low = c.low in omega (arith, low, from)); passes = c.passes }

  -- entries of one key are one
  one_place : (d e : Entry) → entry_at t d.pointer.first ≡ Some d → entry_at t e.pointer.first ≡ Some e → key_of d.pointer ≡ key_of e.pointer → d.pointer.first ≡ e.pointer.first
  one_place d e at there same =
      let a = (t.agree.found d.pointer.first d at).named in
      let b = (t.agree.found e.pointer.first e there).named in
      some_injective d.pointer.first e.pointer.first (sym a ∙ ap (first_in t.keys.entries) same ∙ b)

  module _ (stripe count : ℕ) (e : Entry) (was : CountsBelow t test stripe count) (there : entry_at t e.pointer.first ≡ Some e) (from : stripe ≤ e.pointer.first)
      (empty : NoneBetween t stripe e.pointer.first) where
    pub counts_same : (test e → ⊥) → CountsBelow t test (e.pointer.first + 1) count
    counts_same fails = record {
      keys = was.keys;
      once = was.once;
      each = λ key among. further stripe e.pointer.first key from (was.each key among);
      all = λ d at low passes. elim (next_cases t stripe e d empty there at low) [
        | inl same ↦ absurd (fails (subst test same passes))
        | inr before ↦ was.all d at before passes
      ];
      many = was.many;
    }

    new_key : Contains was.keys (key_of e.pointer) → ⊥
    new_key among =
        let c = was.each (key_of e.pointer) among in
        let same = one_place c.e e c.there there c.key_is in
        let low = c.low in
        omega (arith, same, low, from)

    pub counts_more : test e → CountsBelow t test (e.pointer.first + 1) (count + 1)
    counts_more passes = record {
      keys = key_of e.pointer ∷ was.keys;
      once = (new_key, was.once);
      each = λ key among. elim (has_cases (key_of e.pointer) was.keys key among) [
        | inl same ↦ record { e = e; there = there; key_is = same; low = omega arith; passes = passes }
        | inr behind ↦ further stripe e.pointer.first key from (was.each key behind)
      ];
      all = λ d at low p. elim (next_cases t stripe e d empty there at low) [
        | inl same ↦ has_first (key_of e.pointer) was.keys (key_of d.pointer) (ap (λ (x : Entry). key_of x.pointer) (sym same))
        | inr before ↦ has_behind (key_of e.pointer) was.keys (key_of d.pointer) (was.all d at before p)
      ];
      many = (let many = was.many in omega (arith, many));
    }

  -- all were counted
  pub counted_held : (stripe count : ℕ) (was : CountsBelow t test stripe count) → NoneFrom t stripe → (key : Key) (h : Held) (z : HasEntry t key h) → test z.e → Contains was.keys key
  counted_held stripe count was none key h z passes =
      let at = own_place t key h z in
      subst (Contains was.keys) z.key_is (was.all z.e at (all_passed t stripe z.e none at) passes)

-- ---- open writes

abbrev pub IsTicket : Entry → Type 0
IsTicket e = is_block e.stage ≡ false

pub has_tickets : {R A : Type 0} (shard : Shard R A) (stripe count : ℕ) → CountsBelow shard.entries IsTicket stripe count → NoneFrom shard.entries stripe → (w : machine.State) → IsIn shard w
    → HasTickets w.core count
has_tickets shard stripe count was none w is_in = record {
  keys = was.keys;
  once = was.once;
  each = λ key among. (let c = was.each key among in
      (held_at c.e, is_in.held key ∙ ap (held_in shard.entries) (sym c.key_is) ∙ key_leads shard.entries c.e.pointer.first c.e c.there, c.passes));
  all = λ key h found ticket.
      let z = held_entry shard.entries key h (sym (is_in.held key) ∙ found) in
      counted_held shard.entries IsTicket stripe count was none key h z (ap (λ (i : Held). is_block i.stage) z.held_is ∙ ticket);
  many = was.many;
}
