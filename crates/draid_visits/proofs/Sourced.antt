-- Of a block of a scrub that was restored no more columns were taken from no arm than there are parity columns.
use Rattle.std.proofs.Common.{arith, ◌≡◌, ◌==◌, ◌+◌, ◌<◌, ◌≤◌, ◌∷◌, ◌∙◌, [], ℕ, zero, suc, Bool, true, false, List, Option, None, Some, refl, sym, ap, subst, length, if◌then◌else◌}
use Rattle.std.specs.Prelude.{◌↔◌, Contains, IfSome, is_none, slice_get, slice_index_or}
use Rattle.std.proofs.lemmas.List.Elements.{Contains-append_right}
use Rattle.std.proofs.lemmas.Option.{get_or_from_slice_get}
use Rattle.draid_rack.specs.declared.Rack as racks
use Rattle.draid_spec.specs.declared.layout.Geometry.{Geometry}
use Rattle.draid_block.specs.Blocks.{BlockValue, cut_of}
use Rattle.draid_block.specs.Solving.{IsRestoredOf, absent_columns, sets_of}
use Rattle.draid_block.proofs.Held.{absent_contains}
use Rattle.draid_block.proofs.Order.{order_only}
use Rattle.draid_machine.specs.Names.{count_below, has_number}
use Rattle.draid_machine.proofs.Small.{absurd_test, equal, true_left, true_right}
use Rattle.draid_shard.specs.Fits.{Valid}
use Rattle.draid_shard.specs.Loans.{IsKept, IsLentBlock}
use Rattle.draid_shard.specs.Part.{Part}
use Rattle.draid_shard.specs.declared.loan.KeptLoan.{KeptLoan}
use Rattle.draid_shard.specs.declared.loan.LentBlock.{LentBlock}
use Rattle.draid_shard.specs.declared.shard.Shard.{Shard}
use Rattle.draid_restore.specs.Loans.{LendsBlock}
use Rattle.draid_restore.specs.Restoring.{AnswersBlock, RestoresLent, fetched_of}
use Rattle.draid_session.proofs.Written.{few_in}

-- ---- numbers below a bound
has_of : (set : List ℕ) (i : ℕ) → Contains set i → has_number set i ≡ true
has_of [] i at = absurd (let less = at.1 in omega (arith, less))
has_of (x ∷ set) i (zero, less, is) = true_left (x == i) (has_number set i) (equal x i is)
has_of (x ∷ set) i (suc k, less, is) = true_right (x == i) (has_number set i) (has_of set i (k, omega (arith, less), is))

more_step : (a b : Bool) (m n : ℕ) → m ≤ n → (a ≡ true → b ≡ true) → (if a then m + 1 else m) ≤ (if b then n + 1 else n)
more_step true true m n low more = omega (arith, low)
more_step true false m n low more = absurd_test false (more refl) refl
more_step false true m n low more = omega (arith, low)
more_step false false m n low more = low

count_more : (n : ℕ) (f g : ℕ → Bool) → ((i : ℕ) → i < n → f i ≡ true → g i ≡ true) → count_below n f ≤ count_below n g
count_more zero f g more = omega arith
count_more (suc n) f g more = more_step (f n) (g n) (count_below n f) (count_below n g) (count_more n f g (λ i less is. more i (omega (arith, less)) is)) (more n (omega arith))

nothing : {A : Type 0} (o : Option A) → is_none o ≡ true → o ≡ None
nothing None is = refl
nothing (Some a) is = absurd_test false is refl

-- ---- what was lent
few_sources : (geometry : Geometry) (lent : LentBlock) (block : BlockValue) → length lent.columns.items ≡ geometry.g
    → ((c : ℕ) → c < geometry.g → (slice_get lent.columns.items c ≡ Some None) ↔ (slice_index_or lent.chosen.items c None ≡ None))
    → IsRestoredOf (cut_of geometry) (fetched_of lent) block → count_below geometry.g (λ c. is_none (slice_index_or lent.chosen.items c None)) ≤ geometry.spec.parity
few_sources geometry lent block many reads restored =
    let first = restored.first in
    let columns = lent.columns.items in
    let cut = cut_of geometry in
    let there : Contains (sets_of cut (fetched_of lent)) first.set
    = subst (λ sets. Contains sets first.set) (sym first.order) (Contains-append_right first.before (first.set ∷ first.after) first.set (0, omega arith, refl)) in
    let tried = order_only cut.parity (cut.parity + cut.ndata) (absent_columns columns) first.set there in
    let more = count_more geometry.g (λ c. is_none (slice_index_or lent.chosen.items c None)) (has_number first.set) (λ c less is.
    has_of first.set c (tried.absent c (absent_contains columns (length columns) c (omega (arith, less, many))
    (get_or_from_slice_get columns c None None ((reads c less).1 (nothing (slice_index_or lent.chosen.items c None) is)))))) in
    let few = few_in first.set geometry.g in
    let least = tried.few in
    omega (arith, more, few, least)

module _ {R A : Type 0} (rack : racks.Ghosts R) (old lent : Shard R A) (unit : LendsBlock rack old lent) (lent_valid : Valid rack lent) (kept : Option KeptLoan) (restores : RestoresLent lent.geometry unit.lent kept) where
  geometry_is : lent.geometry ≡ old.geometry
  geometry_is = ap (λ (p : Part). p.geometry) unit.does.part

  kept_is : IsLentBlock lent.geometry lent.pass unit.lent
  kept_is = subst (λ o. IfSome o (IsKept lent.geometry lent.pass)) unit.lent_is lent_valid.kept

  many : length unit.lent.columns.items ≡ lent.geometry.g
  many = kept_is.fetched.count ∙ sym lent_valid.part.layout.geometry_is.columns

  pub sourced : (block : BlockValue) → restores.block ≡ Some block → count_below lent.geometry.g (λ c. is_none (slice_index_or unit.lent.chosen.items c None)) ≤ lent.geometry.spec.parity
  sourced block is =
      few_sources lent.geometry unit.lent block many
      (subst (λ (g : Geometry). (c : ℕ) → c < g.g → (slice_get unit.lent.columns.items c ≡ Some None) ↔ (slice_index_or unit.lent.chosen.items c None ≡ None)) (sym geometry_is) unit.reads.none)
      (subst (AnswersBlock lent.geometry (fetched_of unit.lent)) is restores.answers)
