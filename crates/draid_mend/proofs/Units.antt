-- The next stripe that is lent, and the entry that has it.
use Rattle.std.proofs.Common.{◌≡◌, ◌<◌, ◌≤◌, ℕ, None, Some, arith, sym, subst}
use Rattle.draid_machine.specs.State as machine
use Rattle.draid_machine.specs.Step.{IsTaken}
use Rattle.draid_entries.specs.declared.entry.Entry.{Entry}
use Rattle.draid_entries.specs.Entries.{entry_at}
use Rattle.draid_pass.specs.declared.pass.Pass.{Pass}
use Rattle.draid_shard.specs.Looks.{IsNextTaken, IsOver}
use Rattle.draid_shard.specs.States.{IsIn}
use Rattle.draid_shard.specs.declared.shard.Shard.{Shard}
use Rattle.draid_shard.proofs.Over.{next_behind, next_here, none_behind}
use Rattle.draid_mend.specs.Loans.{IsPlaceOf, IsUnit}

module _ {R A : Type 0} (shard : Shard R A) (from : ℕ) (place : IsPlaceOf shard.pass from) where
  pub at_place : (p : Pass) → shard.pass ≡ Some p → from ≡ p.at
  at_place p there = subst (λ o. IsPlaceOf o from) there place

  pub none_at : (p : Pass) → shard.pass ≡ Some p → (w : machine.State) → ((x : ℕ) → from ≤ x → IsTaken w.core x → ⊥) → (x : ℕ) → p.at ≤ x → IsTaken w.core x → ⊥
  none_at p there w none x le = none x (subst (λ n. n ≤ x) (sym (at_place p there)) le)

-- an entry has the stripe where the pass stands
pub unit_here : {R A : Type 0} (shard : Shard R A) (from : ℕ) (place : IsPlaceOf shard.pass from) (entry : Entry) → IsOver shard.entries from entry → IsUnit shard entry from
unit_here shard from place entry over = record {
  over = over;
  next = λ w is p there. subst (λ n. IsNextTaken w.core n from) (at_place shard from place p there) (next_here shard w is from entry over);
}

-- none has it, and an entry is the first that begins behind it
module _ {R A : Type 0} (shard : Shard R A) (from : ℕ) (place : IsPlaceOf shard.pass from) (none : (e : Entry) → IsOver shard.entries from e → ⊥) where
  pub unit_behind : (entry : Entry) → 1 ≤ entry.pointer.stripes → entry_at shard.entries entry.pointer.first ≡ Some entry → from ≤ entry.pointer.first → ((x : ℕ) → from ≤ x → x < entry.pointer.first → entry_at shard.entries x ≡ None)
      → IsUnit shard entry entry.pointer.first
  unit_behind entry some there behind empty = record {
    over = record { there = there; from = omega arith; to = omega (arith, some) };
    next = λ w is p at. subst (λ n. IsNextTaken w.core n entry.pointer.first) (at_place shard from place p at) (next_behind shard w is from none entry some there behind empty);
  }

  pub none_left : (p : Pass) → shard.pass ≡ Some p → (w : machine.State) → IsIn shard w → ((x : ℕ) → from ≤ x → entry_at shard.entries x ≡ None) → (x : ℕ) → p.at ≤ x → IsTaken w.core x → ⊥
  none_left p there w is empty = none_at shard from place p there w (none_behind shard w is from none empty)
