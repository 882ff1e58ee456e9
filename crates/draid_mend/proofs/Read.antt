-- One more column of a stripe was read.
use Rattle.std.proofs.Common.{◌≡◌, ◌≢◌, ◌==◌, ◌+◌, ◌<◌, ◌≤◌, ◌++◌, ◌∙◌, ℕ, zero, suc, true, List, [], ◌∷◌, Option, Some, None, arith, refl, sym, ap, subst, inl, inr, length, slice_get}
use Rattle.std.proofs.lemmas.Bool.{cases_lt}
use Rattle.std.proofs.lemmas.List.{length-append}
use Rattle.draid_names.specs.declared.pointer.Pointer.{Pointer}
use Rattle.draid_parity.specs.Columns.{column_at}
use Rattle.draid_rack.specs.Rack.{Told}
use Rattle.draid_rack.specs.declared.Rack.{Ghosts}
use Rattle.draid_machine.specs.Names.{has_number}
use Rattle.draid_machine.proofs.Small.{absurd_test, either_true, equal, is_equal, some_same, true_left, true_right}
use Rattle.draid_slots.specs.Table.{SlotTable}
use Rattle.draid_shard.specs.Calls.{CountsFailed}
use Rattle.draid_shard.specs.Part.{Part}
use Rattle.draid_shard.specs.States.{part_of}
use Rattle.draid_shard.specs.declared.shard.Shard.{Shard}
use Rattle.draid_shard.specs.Rows.{IsRowsOf}
use Rattle.draid_shard.specs.declared.places.ColumnRows.{ColumnRows}
use Rattle.draid_shard.proofs.Counts.{counts_kept, counts_more, longer, number_more}
use Rattle.draid_mend.specs.Reading.{CountsTaken, ReadsStripe, Takes, TakesAt, failed_with}
use Rattle.draid_mend.specs.declared.reading.Taken.{Taken}
use Rattle.draid_mend.specs.declared.reading.Taken.TheVariants.{Nowhere, Failed, From}

-- ---- a list with one more
pub get_before : {A : Type 0} (xs : List A) (x : A) (k : ℕ) → k < length xs → slice_get (xs ++ x ∷ []) k ≡ slice_get xs k
get_before [] x k less = absurd (omega (arith, less))
get_before (y ∷ ys) x zero less = refl
get_before (y ∷ ys) x (suc k) less = get_before ys x k (omega (arith, less))

pub get_last : {A : Type 0} (xs : List A) (x : A) (k : ℕ) → k ≡ length xs → slice_get (xs ++ x ∷ []) k ≡ Some x
get_last [] x k is = ap (slice_get (x ∷ [])) is
get_last (y ∷ ys) x zero is = absurd (omega (arith, is))
get_last (y ∷ ys) x (suc k) is = get_last ys x k (omega (arith, is))

get_upto : {A : Type 0} (xs : List A) (k : ℕ) (x : A) → slice_get xs k ≡ Some x → k < length xs
get_upto [] k x is = absurd (cc)
get_upto (y ∷ ys) zero x is = omega arith
get_upto (y ∷ ys) (suc k) x is = let less = get_upto ys k x is in omega (arith, less)

module _ (part : Part) (slots : SlotTable) (pointer : Pointer) (n : ℕ) (told : Option Told) (old new : List (List ℕ)) (taken : List Taken) (failed : List ℕ) (rows : ColumnRows) (of : IsRowsOf part pointer n rows) (now : Taken)
    (was : ReadsStripe part slots pointer n told old taken failed) (takes : Takes slots rows now told (column_at new n)) (others : (k : ℕ) → k ≢ n → column_at new k ≡ column_at old k)
    (long : length (column_at new n) ≡ part.geometry.props.sector) where
  abbrev longer_list : List Taken
  longer_list = taken ++ now ∷ []

  less_is : (k : ℕ) → k < length taken → k < n
  less_is k less = let e = was.many in omega (arith, e, less)

  below : (k : ℕ) (t : Taken) → slice_get longer_list k ≡ Some t → k < suc n
  below k t at = let less = get_upto longer_list k t at in let e : length longer_list ≡ length taken + 1 = length-append taken (now ∷ []) in let m = was.many in omega (arith, less, e, m)

  earlier : (k : ℕ) → k < n → slice_get longer_list k ≡ slice_get taken k
  earlier k less = get_before taken now k (let e = was.many in omega (arith, e, less))

  here : (k : ℕ) → k ≡ n → slice_get longer_list k ≡ Some now
  here k is = get_last taken now k (let e = was.many in omega (arith, e, is))

  taken_at : TakesAt part slots pointer n now told (column_at new n)
  taken_at = record { rows = rows; of = of; takes = takes; long = long }

  each : (c : ℕ) (t : Taken) → slice_get longer_list c ≡ Some t → TakesAt part slots pointer c t told (column_at new c)
  each c t at = elim (cases_lt c n) [
    | inl lower ↦ subst (TakesAt part slots pointer c t told) (sym (others c (λ e. absurd (omega (arith, e, lower))))) (was.each c t (sym (earlier c lower) ∙ at))
    | inr high ↦ (let less = below c t at in let same : c ≡ n = omega (arith, high, less) in
        subst (λ t. TakesAt part slots pointer c t told (column_at new c)) (some_same (slice_get longer_list c) now t (here c same) at)
        (subst (λ k. TakesAt part slots pointer k now told (column_at new k)) (sym same) taken_at))
  ]

  kept : (t : Taken) (leaf : ℕ) → has_number failed leaf ≡ true → has_number (failed_with t failed) leaf ≡ true
  kept Nowhere leaf at = at
  kept (Failed own) leaf at = number_more failed own leaf ∙ true_left (has_number failed leaf) (own == leaf) at
  kept (From arm on) leaf at = at

  own : (t : Taken) (leaf : ℕ) → t ≡ Failed leaf → has_number (failed_with t failed) leaf ≡ true
  own t leaf is = ap (λ t. has_number (failed_with t failed) leaf) is ∙ number_more failed leaf leaf ∙ true_right (has_number failed leaf) (leaf == leaf) (equal leaf leaf refl)

  listed : (c leaf : ℕ) → slice_get longer_list c ≡ Some (Failed leaf) → has_number (failed_with now failed) leaf ≡ true
  listed c leaf at = elim (cases_lt c n) [
    | inl lower ↦ kept now leaf (was.listed c leaf (sym (earlier c lower) ∙ at))
    | inr high ↦ (let less = below c (Failed leaf) at in own now leaf (some_same (slice_get longer_list c) now (Failed leaf) (here c (omega (arith, high, less))) at))
  ]

  fail_before : (leaf : ℕ) → has_number failed leaf ≡ true → (c : ℕ) × (slice_get longer_list c ≡ Some (Failed leaf))
  fail_before leaf at = let z = was.fail leaf at in (z.0, earlier z.0 (less_is z.0 (get_upto taken z.0 (Failed leaf) z.1)) ∙ z.1)

  fail : (t : Taken) → now ≡ t → (leaf : ℕ) → has_number (failed_with t failed) leaf ≡ true → (c : ℕ) × (slice_get longer_list c ≡ Some (Failed leaf))
  fail Nowhere is leaf at = fail_before leaf at
  fail (Failed it) is leaf at = elim (either_true (has_number failed leaf) (it == leaf) (sym (number_more failed it leaf) ∙ at)) [
    | inl before ↦ fail_before leaf before
    | inr same ↦ (n, here n refl ∙ ap Some (is ∙ ap Failed (is_equal it leaf same)))
  ]
  fail (From arm on) is leaf at = fail_before leaf at

  few : (t : Taken) → length (failed_with t failed) ≤ n + 1
  few Nowhere = let z = was.few in omega (arith, z)
  few (Failed leaf) = longer failed leaf n was.few
  few (From arm on) = let z = was.few in omega (arith, z)

  reads_next : ReadsStripe part slots pointer (n + 1) told new longer_list (failed_with now failed)
  reads_next = record {
    many = (let e : length longer_list ≡ length taken + 1 = length-append taken (now ∷ []) in let m = was.many in omega (arith, e, m));
    each = each;
    listed = listed;
    fail = fail now refl;
    few = few now;
  }

  pub reads_more : (t : List Taken) (f : List ℕ) → t ≡ longer_list → f ≡ failed_with now failed → ReadsStripe part slots pointer (n + 1) told new t f
  reads_more t f e is = subst (λ t. ReadsStripe part slots pointer (n + 1) told new t f) (sym e) (subst (ReadsStripe part slots pointer (n + 1) told new longer_list) (sym is) reads_next)

-- nothing was read yet
pub reads_none : (part : Part) (slots : SlotTable) (pointer : Pointer) (told : Option Told) (columns : List (List ℕ)) (taken : List Taken) (failed : List ℕ) → taken ≡ [] → failed ≡ []
    → ReadsStripe part slots pointer 0 told columns taken failed
reads_none part slots pointer told columns taken failed none no_leaf = record {
  many = ap length none;
  each = λ c t at. absurd (let e : slice_get taken c ≡ None = ap (λ ts. slice_get ts c) none ∙ nothing c in cc);
  listed = λ c leaf at. absurd (let e : slice_get taken c ≡ None = ap (λ ts. slice_get ts c) none ∙ nothing c in cc);
  fail = λ leaf at. absurd_test (has_number failed leaf) at (ap (λ ls. has_number ls leaf) no_leaf);
  few = (let e = ap length no_leaf in omega (arith, e));
}
  where
    nothing : (c : ℕ) → slice_get {X = Taken} [] c ≡ None
    nothing zero = refl
    nothing (suc c) = refl

-- the counts after one more column was read
pub counts_taken : (taken : Taken) (failed : List ℕ) (first old new : Option ℕ → ℕ) → CountsTaken taken old new → CountsFailed failed first old → CountsFailed (failed_with taken failed) first new
counts_taken Nowhere failed first old new on was = counts_kept failed first old new was on.later
counts_taken (Failed leaf) failed first old new on was = counts_more failed leaf first old new was on.later (on.cause leaf refl)
counts_taken (From arm leaf) failed first old new on was = counts_kept failed first old new was on.later

-- what was read of a shard is the same of one that differs in its rack, which tells the same
pub stripe_in : {R A : Type 0} (rack : Ghosts R) (old new : Shard R A) (pointer : Pointer) (n : ℕ) (columns : List (List ℕ)) (taken : List Taken) (failed : List ℕ) → new ≡ record old { rack = new.rack } → rack.told new.rack ≡ rack.told old.rack
    → ReadsStripe (part_of old) old.slots pointer n (rack.told old.rack) columns taken failed → ReadsStripe (part_of new) new.slots pointer n (rack.told new.rack) columns taken failed
stripe_in rack old new pointer n columns taken failed after told was =
    subst (λ s. ReadsStripe (part_of s) s.slots pointer n (rack.told new.rack) columns taken failed) (sym after)
    (subst (λ t. ReadsStripe (part_of old) old.slots pointer n t columns taken failed) (sym told) was)

pub stripe_back : {R A : Type 0} (rack : Ghosts R) (old new : Shard R A) (pointer : Pointer) (n : ℕ) (columns : List (List ℕ)) (taken : List Taken) (failed : List ℕ) → new ≡ record old { rack = new.rack } → rack.told new.rack ≡ rack.told old.rack
    → ReadsStripe (part_of new) new.slots pointer n (rack.told new.rack) columns taken failed → ReadsStripe (part_of old) old.slots pointer n (rack.told old.rack) columns taken failed
stripe_back rack old new pointer n columns taken failed after told now =
    subst (λ t. ReadsStripe (part_of old) old.slots pointer n t columns taken failed) told
    (subst (λ s. ReadsStripe (part_of s) s.slots pointer n (rack.told new.rack) columns taken failed) after now)
