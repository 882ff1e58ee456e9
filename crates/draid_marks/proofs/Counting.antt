-- Entries are counted one after another, and those that a state has are as many.
use Rattle.std.proofs.Common.{◌≡◌, ◌⊎◌, ◌+◌, ◌<◌, ◌≤◌, ◌∙◌, ℕ, zero, suc, List, [], ◌∷◌, Option, Some, None, arith, refl, sym, ap, subst, inl, inr, length}
use Rattle.std.specs.Prelude.{Contains, option_map, slice_index_or}
use Rattle.std.proofs.lemmas.Bool.{cases_eq, cases_lt}
use Rattle.draid_names.specs.declared.numbers.TheConstants.{NUMBERS}
use Rattle.draid_map.specs.Place.{IsLayout}
use Rattle.draid_machine.specs.declared.names.Key.{Key}
use Rattle.draid_machine.specs.declared.names.Held.{Held}
use Rattle.draid_machine.specs.Created.{IsReached}
use Rattle.draid_machine.specs.Names.{is_block, is_freed_by}
use Rattle.draid_machine.specs.State as machine
use Rattle.draid_machine.proofs.Small.{none_some, some_injective, some_same}
use Rattle.draid_entries.specs.declared.entry.Entry.{Entry}
use Rattle.draid_entries.specs.declared.entries.Entries.{Entries}
use Rattle.draid_entries.specs.Entries.{entry_at, held_in}
use Rattle.draid_entries.specs.Maps.{first_in, held_at, held_from, key_of}
use Rattle.draid_entries.specs.Thin.{IsThin, IsUncertain, ThinIs}
use Rattle.draid_entries.proofs.Counted.{led_held}
use Rattle.draid_slots.specs.States.{HasSlots}
use Rattle.draid_slots.specs.Table.{SlotTable}
use Rattle.draid_marks.specs.Counting.{CountIs, CountsBelow, HasEntries, IsCounted, IsThinIn}
use Rattle.draid_marks.specs.Layout.{layout_with}
use Rattle.draid_marks.proofs.Thinning.{none_by, uncertain_by}

-- ---- lists of keys
has_nothing : (x : Key) → Contains [] x → ⊥
has_nothing x c = let less = c.1 in omega (arith, less)

has_first : (y : Key) (xs : List Key) (x : Key) → y ≡ x → Contains (y ∷ xs) x
has_first y xs x same = (zero, omega arith, same)

has_behind : (y : Key) (xs : List Key) (x : Key) → Contains xs x → Contains (y ∷ xs) x
has_behind y xs x c = (suc c.0, (let less = c.1 in omega (arith, less)), c.2)

has_cases : (y : Key) (xs : List Key) (x : Key) → Contains (y ∷ xs) x → (y ≡ x) ⊎ Contains xs x
has_cases y xs x c = by c.0 c.1 c.2
  where
    by : (k : ℕ) → k < length (y ∷ xs) → slice_index_or (y ∷ xs) k x ≡ x → (y ≡ x) ⊎ Contains xs x
    by zero less same = inl same
    by (suc k) less same = inr (k, omega (arith, less), same)

-- ---- entries and keys
first_is : (t : Entries) (first : ℕ) (e : Entry) → entry_at t first ≡ Some e → e.pointer.first ≡ first
first_is t first e there = (t.agree.found first e there).first_is

-- the entry of a block or an open write that a state has
pub record HasEntry (t : Entries) (key : Key) (h : Held) : Type 0 where
  pub e : Entry
  pub there : entry_at t e.pointer.first ≡ Some e
  pub key_is : key_of e.pointer ≡ key
  pub held_is : held_at e ≡ h

pub held_entry : (t : Entries) (key : Key) (h : Held) → held_in t key ≡ Some h → HasEntry t key h
held_entry t key h is = by (first_in t.keys.entries key) refl
  where
    by : (o : Option ℕ) → first_in t.keys.entries key ≡ o → HasEntry t key h
    by None at = absurd (none_some (held_in t key) h (ap (held_from t.firsts) at) is)
    by (Some x) at =
        let z = led_held t key x at in
        record {
          e = z.0;
          there = ap (entry_at t) (first_is t x z.0 z.1) ∙ z.1;
          key_is = z.2;
          held_is = some_injective (held_at z.0) h (sym z.3 ∙ is);
        }

module _ (t : Entries) (test : Entry → Type 0) where
  pub counts_none : CountsBelow t test 0 0
  counts_none = record {
    keys = [];
    once = tt;
    each = λ key among. absurd (has_nothing key among);
    all = λ e there low passes. absurd (omega (arith, low));
    many = refl;
  }

  -- an entry further on, and no other before it
  further : (stripe at : ℕ) (key : Key) → stripe ≤ at → IsCounted t test stripe key → IsCounted t test at key
  further stripe at key from c = record { e = c.e; there = c.there; key_is = c.key_is; low = (let low = c.low in omega (arith, low, from)); passes = c.passes }

  -- what begins before the next stripe is this one, or began before the last
  next_cases : (stripe : ℕ) (e d : Entry) → ((x : ℕ) → stripe ≤ x → x < e.pointer.first → entry_at t x ≡ None) → entry_at t e.pointer.first ≡ Some e
      → entry_at t d.pointer.first ≡ Some d → d.pointer.first < e.pointer.first + 1 → (d ≡ e) ⊎ (d.pointer.first < stripe)
  next_cases stripe e d empty there at low = elim (cases_lt d.pointer.first stripe) [
    | inl before ↦ inr before
    | inr from ↦ elim (cases_eq d.pointer.first e.pointer.first) [
      | inl same ↦ inl (some_same (entry_at t e.pointer.first) d e (ap (entry_at t) (sym same) ∙ at) there)
      | inr other ↦ absurd (none_some (entry_at t d.pointer.first) d (empty d.pointer.first from (omega (arith, low, other))) at)
    ]
  ]

  -- entries of one key are one
  one_place : (d e : Entry) → entry_at t d.pointer.first ≡ Some d → entry_at t e.pointer.first ≡ Some e → key_of d.pointer ≡ key_of e.pointer → d.pointer.first ≡ e.pointer.first
  one_place d e at there same =
      let a = (t.agree.found d.pointer.first d at).named in
      let b = (t.agree.found e.pointer.first e there).named in
      some_injective d.pointer.first e.pointer.first (sym a ∙ ap (first_in t.keys.entries) same ∙ b)

  module _ (stripe count : ℕ) (e : Entry) (was : CountsBelow t test stripe count) (there : entry_at t e.pointer.first ≡ Some e) (from : stripe ≤ e.pointer.first)
      (empty : (x : ℕ) → stripe ≤ x → x < e.pointer.first → entry_at t x ≡ None) where
    pub counts_same : (test e → ⊥) → CountsBelow t test (e.pointer.first + 1) count
    counts_same fails = record {
      keys = was.keys;
      once = was.once;
      each = λ key among. further stripe (e.pointer.first + 1) key (omega (arith, from)) (was.each key among);
      all = λ d at low passes. elim (next_cases stripe e d empty there at low) [
        | inl same ↦ absurd (fails (subst test same passes))
        | inr before ↦ was.all d at before passes
      ];
      many = was.many;
    }

    new_key : Contains was.keys (key_of e.pointer) → ⊥
    new_key among =
        let c = was.each (key_of e.pointer) among in
        let same = one_place c.e e c.there there c.key_is in
        let low = c.low in
        omega (arith, same, low, from)

    pub counts_more : test e → CountsBelow t test (e.pointer.first + 1) (count + 1)
    counts_more passes = record {
      keys = key_of e.pointer ∷ was.keys;
      once = (new_key, was.once);
      each = λ key among. elim (has_cases (key_of e.pointer) was.keys key among) [
        | inl same ↦ record { e = e; there = there; key_is = same; low = omega arith; passes = passes }
        | inr behind ↦ further stripe (e.pointer.first + 1) key (omega (arith, from)) (was.each key behind)
      ];
      all = λ d at low p. elim (next_cases stripe e d empty there at low) [
        | inl same ↦ has_first (key_of e.pointer) was.keys (key_of d.pointer) (ap (λ (x : Entry). key_of x.pointer) (sym same))
        | inr before ↦ has_behind (key_of e.pointer) was.keys (key_of d.pointer) (was.all d at before p)
      ];
      many = (let many = was.many in omega (arith, many));
    }

  -- all were counted
  pub counts_all : (stripe count : ℕ) → CountsBelow t test stripe count → stripe ≤ NUMBERS → ((x : ℕ) → stripe ≤ x → entry_at t x ≡ None) → CountIs t test count
  counts_all stripe count was low empty = record {
    keys = was.keys;
    once = was.once;
    each = λ key among. further stripe NUMBERS key low (was.each key among);
    all = λ e there below passes. elim (cases_lt e.pointer.first stripe) [
      | inl before ↦ was.all e there before passes
      | inr past ↦ absurd (none_some (entry_at t e.pointer.first) e (empty e.pointer.first past) there)
    ];
    many = was.many;
  }

  -- what passes has its key among those that were counted
  pub counted_key : (count : ℕ) (is : CountIs t test count) (key : Key) (e : Entry) → entry_at t e.pointer.first ≡ Some e → key_of e.pointer ≡ key → test e → Contains is.keys key
  counted_key count is key e there same passes = subst (Contains is.keys) same (is.all e there (t.agree.found e.pointer.first e there).low passes)

-- ---- what a state has of them

-- what it has of an entry that was counted
pub counted_is : (t : Entries) (test : Entry → Type 0) (key : Key) (q : machine.Core) → HasEntries t q → (c : IsCounted t test NUMBERS key) → q.held key ≡ Some (held_at c.e)
counted_is t test key q has c =
    has key ∙ ap (held_in t) (sym c.key_is) ∙ ap (held_from t.firsts) (t.agree.found c.e.pointer.first c.e c.there).named ∙ ap (option_map held_at) c.there

module _ (slots : SlotTable) (lay : IsLayout slots.geometry slots.perms) (t : Entries) (group count : ℕ) (is : CountIs t (IsThinIn slots group) count) where
  pub thin_is : (w : machine.State) → IsReached (layout_with slots) w → HasSlots slots w.core → HasEntries t w.core → ThinIs (layout_with slots) w.core group count
  thin_is w reached has held = record {
    keys = is.keys;
    once = is.once;
    each = λ key among. each key (is.each key among);
    all = all;
    many = is.many;
  } where
    each : (key : Key) → IsCounted t (IsThinIn slots group) NUMBERS key → IsThin (layout_with slots) w.core group key
    each key c = record {
      h = held_at c.e;
      found = counted_is t (IsThinIn slots group) key w.core held c;
      block = c.passes.0.block;
      born = c.passes.0.born;
      stays = c.passes.0.stays;
      column = c.passes.1.0;
      there = c.passes.1.1;
      uncertain = uncertain_by slots lay w reached has c.e.pointer c.passes.1.0 c.passes.1.2;
    }

    all : (key : Key) → IsThin (layout_with slots) w.core group key → Contains is.keys key
    all key thin =
        let z = held_entry t key thin.h (sym (held key) ∙ thin.found) in
        counted_key t (IsThinIn slots group) count is key z.e z.there z.key_is (
          record {
            block = ap (λ (i : Held). is_block i.stage) z.held_is ∙ thin.block;
            born = ap (λ (i : Held). i.birth) z.held_is ∙ thin.born;
            stays = ap (λ (i : Held). is_freed_by group i.stage) z.held_is ∙ thin.stays;
          },
          (
            thin.column,
            thin.there,
            none_by slots lay w reached has z.e.pointer thin.column (subst (λ (i : Held). IsUncertain (layout_with slots) w.core i thin.column) (sym z.held_is) thin.uncertain),
          ),
        )
