-- The greatest birth of those entries that were passed.
use Rattle.std.proofs.Common.{◌≡◌, ◌⊎◌, ◌+◌, ◌<◌, ◌≤◌, ◌∙◌, ℕ, Some, arith, sym, subst, inl, inr, max, nat_cmp}
use Rattle.std.specs.Ordering.{ord_max}
use Rattle.std.proofs.Math.Nat.{le-max_left, le-max_right}
use Rattle.std.proofs.lemmas.Bool.{cases_lt}
use Rattle.std.proofs.lemmas.Bool.Decides.{nat_tests}
use Rattle.draid_machine.specs.declared.names.Held.{Held}
use Rattle.draid_machine.specs.State as machine
use Rattle.draid_entries.specs.declared.entry.Entry.{Entry}
use Rattle.draid_entries.specs.declared.entries.Entries.{Entries}
use Rattle.draid_entries.specs.Entries.{entry_at}
use Rattle.draid_entries.specs.Maps.{held_at, key_of}
use Rattle.draid_shard.specs.Looks.{IsGreatestBirth}
use Rattle.draid_shard.specs.States.{IsIn}
use Rattle.draid_shard.specs.declared.shard.Shard.{Shard}
use Rattle.draid_shard.proofs.Held.{held_entry, key_leads}
use Rattle.draid_shard.proofs.Passing.{NoneBetween, NoneFrom, all_passed, next_cases, own_place}

-- the greatest birth of the entries that begin before a stripe, 0 where there is none
pub record GreatestBelow (t : Entries) (stripe birth : ℕ) : Type 0 where
  pub births : (e : Entry) → entry_at t e.pointer.first ≡ Some e → e.pointer.first < stripe → e.pointer.birth ≤ birth
  pub one : (birth ≡ 0) ⊎ ((e : Entry) × (entry_at t e.pointer.first ≡ Some e) × (e.pointer.birth ≡ birth))

-- the greater by the order of numbers is the greater
greater_is : (a b : ℕ) → ord_max nat_cmp a b ≡ max a b
greater_is a b = grind (arith, nat_tests)

-- one more was passed
pub greatest_more : (t : Entries) (stripe birth new : ℕ) (e : Entry) → GreatestBelow t stripe birth → entry_at t e.pointer.first ≡ Some e → NoneBetween t stripe e.pointer.first
    → new ≡ ord_max nat_cmp birth e.pointer.birth → GreatestBelow t (e.pointer.first + 1) new
greatest_more t stripe birth new e was there empty greater = record {
  births = λ d at low. elim (next_cases t stripe e d empty there at low) [
    | inl same ↦ subst (λ (x : Entry). x.pointer.birth ≤ new) (sym same) (let more = le-max_right birth e.pointer.birth in omega (arith, is, more))
    | inr before ↦ (let old = was.births d at before in let more = le-max_left birth e.pointer.birth in omega (arith, is, old, more))
  ];
  one = elim (cases_lt birth e.pointer.birth) [
    | inl later ↦ inr (e, there, later_one later)
    | inr not_later ↦ subst (λ n. (n ≡ 0) ⊎ ((d : Entry) × (entry_at t d.pointer.first ≡ Some d) × (d.pointer.birth ≡ n))) (not_later_one not_later) was.one
  ];
}
  where
    is : new ≡ max birth e.pointer.birth
    is = greater ∙ greater_is birth e.pointer.birth

    later_one : birth < e.pointer.birth → e.pointer.birth ≡ new
    later_one later = let m : max birth e.pointer.birth ≡ e.pointer.birth = grind (arith, nat_tests, later) in omega (arith, is, m)

    not_later_one : e.pointer.birth ≤ birth → birth ≡ new
    not_later_one not_later = let m : max birth e.pointer.birth ≡ birth = grind (arith, nat_tests, not_later) in omega (arith, is, m)

-- all were passed
pub is_greatest : {R A : Type 0} (shard : Shard R A) (stripe birth : ℕ) → GreatestBelow shard.entries stripe birth → NoneFrom shard.entries stripe → (w : machine.State) → IsIn shard w
    → IsGreatestBirth w.core birth
is_greatest shard stripe birth was none w is_in = record {
  births = λ k h found.
      let z = held_entry shard.entries k h (sym (is_in.held k) ∙ found) in
      let at = own_place shard.entries k h z in
      subst (λ (i : Held). i.birth ≤ birth) z.held_is (was.births z.e at (all_passed shard.entries stripe z.e none at));
  one = elim was.one [
    | inl nothing ↦ inl nothing
    | inr some ↦ inr (key_of some.0.pointer, held_at some.0, is_in.held (key_of some.0.pointer) ∙ key_leads shard.entries some.0.pointer.first some.0 some.1, some.2)
  ];
}
