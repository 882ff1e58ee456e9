-- Entries are looked at one after another, by their first stripes: which of them were passed.
use Rattle.std.proofs.Common.{◌≡◌, ◌⊎◌, ◌+◌, ◌<◌, ◌≤◌, ◌∙◌, ℕ, Some, None, arith, sym, ap, subst, inl, inr}
use Rattle.std.proofs.lemmas.Bool.{cases_eq, cases_lt}
use Rattle.draid_machine.specs.declared.names.Key.{Key}
use Rattle.draid_machine.specs.declared.names.Held.{Held}
use Rattle.draid_machine.proofs.Small.{none_some, some_same}
use Rattle.draid_entries.specs.declared.entry.Entry.{Entry}
use Rattle.draid_entries.specs.declared.entries.Entries.{Entries}
use Rattle.draid_entries.specs.Entries.{entry_at}
use Rattle.draid_shard.specs.Looks.{IsBlockUpto, NoBlockBetween}
use Rattle.draid_shard.proofs.Held.{HasEntry}
use Rattle.draid_shard.proofs.Tables.{first_is}

-- no entry begins from one stripe on and before another
abbrev pub NoneBetween : Entries → ℕ → ℕ → Type 0
NoneBetween t from to = (x : ℕ) → from ≤ x → x < to → entry_at t x ≡ None

-- no entry begins at a stripe or behind it
abbrev pub NoneFrom : Entries → ℕ → Type 0
NoneFrom t from = (x : ℕ) → from ≤ x → entry_at t x ≡ None

-- what begins before the next stripe is the entry that was met, or began before the last
pub next_cases : (t : Entries) (stripe : ℕ) (e d : Entry) → NoneBetween t stripe e.pointer.first → entry_at t e.pointer.first ≡ Some e
    → entry_at t d.pointer.first ≡ Some d → d.pointer.first < e.pointer.first + 1 → (d ≡ e) ⊎ (d.pointer.first < stripe)
next_cases t stripe e d empty there at low = elim (cases_lt d.pointer.first stripe) [
  | inl before ↦ inr before
  | inr from ↦ elim (cases_eq d.pointer.first e.pointer.first) [
    | inl same ↦ inl (some_same (entry_at t e.pointer.first) d e (ap (entry_at t) (sym same) ∙ at) there)
    | inr other ↦ absurd (none_some (entry_at t d.pointer.first) d (empty d.pointer.first from (omega (arith, low, other))) at)
  ]
]

-- where none is left, each was passed
pub all_passed : (t : Entries) (stripe : ℕ) (e : Entry) → NoneFrom t stripe → entry_at t e.pointer.first ≡ Some e → e.pointer.first < stripe
all_passed t stripe e none there = elim (cases_lt e.pointer.first stripe) [
  | inl before ↦ before
  | inr from ↦ absurd (none_some (entry_at t e.pointer.first) e (none e.pointer.first from) there)
]

-- the entry of what a state has stands at its own stripe
pub own_stripe : (t : Entries) (key : Key) (h : Held) (z : HasEntry t key h) → z.e.pointer.first ≡ h.first
own_stripe t key h z = first_is t h.first z.e z.there

pub own_place : (t : Entries) (key : Key) (h : Held) (z : HasEntry t key h) → entry_at t z.e.pointer.first ≡ Some z.e
own_place t key h z = ap (entry_at t) (own_stripe t key h z) ∙ z.there

-- no block up to a group was passed, and none begins before the next entry
pub block_first : (t : Entries) (upto from stripe first : ℕ) → NoBlockBetween t upto from stripe → NoneBetween t stripe first → NoBlockBetween t upto from first
block_first t upto from stripe first none empty d there after before block = elim (cases_lt d.pointer.first stripe) [
  | inl low ↦ none d there after low block
  | inr past ↦ none_some (entry_at t d.pointer.first) d (empty d.pointer.first past before) there
]

pub block_passed : (t : Entries) (upto from stripe : ℕ) (e : Entry) → NoBlockBetween t upto from stripe → NoneBetween t stripe e.pointer.first → entry_at t e.pointer.first ≡ Some e
    → (IsBlockUpto upto e → ⊥) → NoBlockBetween t upto from (e.pointer.first + 1)
block_passed t upto from stripe e none empty there other d at after before block = elim (next_cases t stripe e d empty there at before) [
  | inl same ↦ other (subst (IsBlockUpto upto) same block)
  | inr low ↦ none d at after low block
]
