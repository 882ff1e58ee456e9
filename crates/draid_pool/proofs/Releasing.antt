-- What was freed up to a group goes, entry by entry.
use Rattle.std.proofs.Common.{◌≡◌, ◌⊎◌, ◌+◌, ◌<◌, ◌≤◌, ◌∙◌, ℕ, Bool, true, false, Option, None, arith, refl, sym, ap, subst, inl, inr}
use Rattle.std.proofs.lemmas.Bool.{cases_eq, cases_lt}
use Rattle.draid_machine.specs.After.{is_freed_block}
use Rattle.draid_machine.proofs.Small.{absurd_test}
use Rattle.draid_metaslab.specs.Spaces.{Stripes}
use Rattle.draid_entries.specs.declared.entries.Entries.{Entries}
use Rattle.draid_entries.specs.Entries.{entry_at, held_in}
use Rattle.draid_spec.specs.declared.layout.Geometry.{Geometry}
use Rattle.draid_shard.specs.Fits.{Tables, AreFitting}
use Rattle.draid_pool.specs.Committing.{DropsSome, NoneFreed, is_freed_entry}

-- ---- what a test says of one place

-- it is as it was, or went and passed the test
abbrev Went : {X : Type 0} → (Option X → Bool) → Option X → Option X → Type 0
Went test old new = (new ≡ old) ⊎ ((new ≡ None) × (test old ≡ true))

chained : {X : Type 0} (test : Option X → Bool) (old mid new : Option X) → test None ≡ false → Went test old mid → Went test mid new → Went test old new
chained test old mid new none (inl a) (inl b) = inl (b ∙ a)
chained test old mid new none (inl a) (inr b) = inr (b.0, subst (λ o. test o ≡ true) a b.1)
chained test old mid new none (inr a) (inl b) = inr (b ∙ a.0, a.1)
chained test old mid new none (inr a) (inr b) = absurd_test (test None) (subst (λ o. test o ≡ true) a.0 b.1) none

-- ---- the table

pub more_goes : (group : ℕ) (old mid new : Entries) → DropsSome group old mid → DropsSome group mid new → DropsSome group old new
more_goes group old mid new a b = record {
  at = λ first. chained (is_freed_entry group) (entry_at old first) (entry_at mid first) (entry_at new first) refl (a.at first) (b.at first);
  held = λ key. chained (is_freed_block group) (held_in old key) (held_in mid key) (held_in new key) refl (a.held key) (b.held key);
  owed = λ columns. b.owed columns ∙ a.owed columns;
  count = (let x = a.count in let y = b.count in omega (arith, x, y));
}

-- ---- one entry after another

pub none_below : (group : ℕ) (mid new : Entries) (stripe at : ℕ) → DropsSome group mid new → NoneFreed group mid stripe → ((x : ℕ) → stripe ≤ x → x < at → entry_at mid x ≡ None)
    → is_freed_entry group (entry_at new at) ≡ false → NoneFreed group new (at + 1)
none_below group mid new stripe at some before empty here first less = elim (cases_eq first at) [
  | inl same ↦ subst (λ x. is_freed_entry group (entry_at new x) ≡ false) (sym same) here
  | inr other ↦ by (some.at first) (elim (cases_lt first stripe) [
    | inl low ↦ before first low
    | inr high ↦ ap (is_freed_entry group) (empty first high (omega (arith, less, other)))
  ])
] where
  by : Went (is_freed_entry group) (entry_at mid first) (entry_at new first) → is_freed_entry group (entry_at mid first) ≡ false → is_freed_entry group (entry_at new first) ≡ false
  by (inl same) was = ap (is_freed_entry group) same ∙ was
  by (inr went) was = ap (is_freed_entry group) went.0

-- tables that fit together after a change that keeps them so
pub still_fitting : (space now : Stripes) (entries new : Entries) → AreFitting space entries → ((geometry : Geometry) (open_group : ℕ) → Tables geometry open_group space entries → Tables geometry open_group now new)
    → AreFitting now new
still_fitting space now entries new fits kept = record {
  geometry = fits.geometry;
  open_group = fits.open_group;
  tables = kept fits.geometry fits.open_group fits.tables;
  low = fits.low;
}
