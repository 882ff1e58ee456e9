-- One more column of a block was read.
use Rattle.std.proofs.Common.{◌≡◌, ◌==◌, ◌+◌, ◌*◌, ◌<◌, ◌≤◌, ◌⊎◌, ◌∙◌, ℕ, suc, true, List, [], Option, Some, None, Vec, Global, arith, refl, sym, ap, subst, inl, inr, length, slice_get}
use Rattle.std.proofs.lemmas.Bool.{cases_eq, cases_lt}
use Rattle.std.proofs.lemmas.Option.{slice_get_within}
use Rattle.draid_names.specs.declared.pointer.Pointer.{Pointer}
use Rattle.draid_rack.specs.Rack.{Told}
use Rattle.draid_machine.specs.Names.{has_number}
use Rattle.draid_machine.proofs.Small.{absurd_test, either_true, equal, is_equal, none_some, some_same, true_left, true_right}
use Rattle.draid_slots.specs.Table.{SlotTable}
use Rattle.draid_shard.specs.Part.{Part}
use Rattle.draid_blocks.specs.Reads.{AreLong, AreWhole, Columns, IsReadAt, IsSilentAt, ReadsColumns, ReadsOn, Replaces, StandsAt, column_after, failed_after}
use Rattle.draid_shard.specs.Calls.{CountsFailed}
use Rattle.draid_blocks.specs.Landings.{CountsOn}
use Rattle.draid_shard.specs.Rows.{IsRowsOf}
use Rattle.draid_blocks.specs.declared.outcome.Outcome.{Outcome}
use Rattle.draid_blocks.specs.declared.outcome.Outcome.TheVariants.{Done, Failed, Silent}
use Rattle.draid_shard.specs.declared.places.ColumnRows.{ColumnRows}
use Rattle.draid_shard.proofs.Counts.{counts_kept, counts_more, longer, number_more}

module _ (part : Part) (slots : SlotTable) (pointer : Pointer) (n : ℕ) (told : Option Told) (old new : Columns) (failed : List ℕ) (rows : ColumnRows) (of : IsRowsOf part pointer n rows) (outcome : Outcome) (bytes : Vec ℕ Global)
    (was : ReadsColumns part slots pointer n told old failed) (reads : ReadsOn slots rows outcome told bytes.items) (long : length bytes.items ≡ pointer.stripes * part.geometry.props.sector)
    (replaces : Replaces old new n (column_after outcome bytes)) where
  earlier : (k : ℕ) → k < n → slice_get new k ≡ slice_get old k
  earlier k less = replaces.others k (λ e. absurd (omega (arith, e, less)))

  here_is : (x : Option (Vec ℕ Global)) (k : ℕ) → k ≡ n → slice_get new k ≡ Some x → column_after outcome bytes ≡ x
  here_is x k same at = some_same (slice_get new n) (column_after outcome bytes) x replaces.here (subst (λ j. slice_get new j ≡ Some x) same at)

  long_more : AreLong new (pointer.stripes * part.geometry.props.sector)
  long_more k b at = elim (cases_eq k n) [
    | inl same ↦ by outcome (here_is (Some b) k same at)
    | inr other ↦ was.long k b (sym (replaces.others k other) ∙ at)
  ] where
    by : (o : Outcome) → column_after o bytes ≡ Some b → length b.items ≡ pointer.stripes * part.geometry.props.sector
    by Silent e = absurd (cc)
    by (Failed leaf) e = absurd (cc)
    by Done e = subst (λ (v : Vec ℕ Global). length v.items ≡ pointer.stripes * part.geometry.props.sector) (some_same (Some bytes) bytes b refl e) long

  stand_here : (o : Outcome) → ReadsOn slots rows o told bytes.items → (b : Vec ℕ Global) → column_after o bytes ≡ Some b → StandsAt part slots pointer n told b.items
  stand_here Silent r b e = absurd (cc)
  stand_here (Failed leaf) r b e = absurd (cc)
  stand_here Done r b e = subst (λ (v : Vec ℕ Global). StandsAt part slots pointer n told v.items) (some_same (Some bytes) bytes b refl e) (record { rows = rows; of = of; leaf = r.0; on = r.1; stand = r.2 })

  absent_here : (o : Outcome) → ReadsOn slots rows o told bytes.items → column_after o bytes ≡ None
      → IsSilentAt part slots pointer n ⊎ ((leaf : ℕ) × IsReadAt part slots pointer n leaf × (has_number (failed_after o failed) leaf ≡ true))
  absent_here Silent r e = inl (record { rows = rows; of = of; silent = r })
  absent_here (Failed leaf) r e =
      inr (leaf, record { rows = rows; of = of; on = r }, number_more failed leaf leaf ∙ true_right (has_number failed leaf) (leaf == leaf) (equal leaf leaf refl))
  absent_here Done r e = absurd (cc)

  still_failed : (o : Outcome) (leaf : ℕ) → has_number failed leaf ≡ true → has_number (failed_after o failed) leaf ≡ true
  still_failed Silent leaf at = at
  still_failed (Failed own) leaf at = number_more failed own leaf ∙ true_left (has_number failed leaf) (own == leaf) at
  still_failed Done leaf at = at

  fail_before : (leaf : ℕ) → has_number failed leaf ≡ true → (c : ℕ) × (c < suc n) × (slice_get new c ≡ Some None) × IsReadAt part slots pointer c leaf
  fail_before leaf at = let z = was.fail leaf at in (z.0, (let less = z.1 in omega (arith, less)), earlier z.0 z.1 ∙ z.2, z.3)

  fail_more : (o : Outcome) → ReadsOn slots rows o told bytes.items → slice_get new n ≡ Some (column_after o bytes) → (leaf : ℕ) → has_number (failed_after o failed) leaf ≡ true
      → (c : ℕ) × (c < suc n) × (slice_get new c ≡ Some None) × IsReadAt part slots pointer c leaf
  fail_more Silent r here leaf at = fail_before leaf at
  fail_more (Failed own) r here leaf at = elim (either_true (has_number failed leaf) (own == leaf) (sym (number_more failed own leaf) ∙ at)) [
    | inl before ↦ fail_before leaf before
    | inr it ↦ (n, omega arith, here, subst (IsReadAt part slots pointer n) (is_equal own leaf it) (record { rows = rows; of = of; on = r }))
  ]
  fail_more Done r here leaf at = fail_before leaf at

  few_more : (o : Outcome) → length (failed_after o failed) ≤ n + 1
  few_more Silent = let few = was.few in omega (arith, few)
  few_more (Failed leaf) = longer failed leaf n was.few
  few_more Done = let few = was.few in omega (arith, few)

  reads_next : ReadsColumns part slots pointer (suc n) told new (failed_after outcome failed)
  reads_next = record {
    all = replaces.all ∙ was.all;
    long = long_more;
    rest = λ k from at. was.rest k (omega (arith, from)) (sym (replaces.others k (λ e. absurd (omega (arith, e, from)))) ∙ at);
    stand = λ k b less at. elim (cases_lt k n) [
      | inl lower ↦ was.stand k b lower (sym (earlier k lower) ∙ at)
      | inr same ↦ (let e : k ≡ n = omega (arith, same, less) in subst (λ j. StandsAt part slots pointer j told b.items) (sym e) (stand_here outcome reads b (here_is (Some b) k e at)))
    ];
    absent = λ k less at. elim (cases_lt k n) [
      | inl lower ↦ elim (was.absent k lower (sym (earlier k lower) ∙ at)) [
        | inl silent ↦ inl silent
        | inr z ↦ inr (z.0, z.1, still_failed outcome z.0 z.2)
      ]
      | inr same ↦ (let e : k ≡ n = omega (arith, same, less) in
          subst (λ j. IsSilentAt part slots pointer j ⊎ ((leaf : ℕ) × IsReadAt part slots pointer j leaf × (has_number (failed_after outcome failed) leaf ≡ true))) (sym e) (absent_here outcome reads (here_is None k e at)))
    ];
    fail = fail_more outcome reads replaces.here;
    few = subst (λ k. length (failed_after outcome failed) ≤ k) (omega arith) (few_more outcome);
  }

  pub reads_more : (k : ℕ) (now : List ℕ) → k ≡ n + 1 → now ≡ failed_after outcome failed → ReadsColumns part slots pointer k told new now
  reads_more k now e is = subst (λ ls. ReadsColumns part slots pointer k told new ls) (sym is) (subst (λ j. ReadsColumns part slots pointer j told new (failed_after outcome failed)) (omega (arith, e)) reads_next)

-- a place was emptied, and then filled again or not
pub replaces_twice : (a b c : Columns) (n : ℕ) (x y : Option (Vec ℕ Global)) → Replaces a b n x → Replaces b c n y → Replaces a c n y
replaces_twice a b c n x y one two = record { all = two.all ∙ one.all; here = two.here; others = λ k other. two.others k other ∙ one.others k other }

-- nothing was read yet
pub reads_none : (part : Part) (slots : SlotTable) (pointer : Pointer) (told : Option Told) (columns : Columns) (failed : List ℕ) → length columns ≡ part.geometry.g
    → AreWhole columns (pointer.stripes * part.geometry.props.sector) → failed ≡ [] → ReadsColumns part slots pointer 0 told columns failed
reads_none part slots pointer told columns failed all whole none = record {
  all = all;
  long = λ c b at. (let z = whole c (slice_get_within columns c (Some b) at) in
      subst (λ (v : Vec ℕ Global). length v.items ≡ pointer.stripes * part.geometry.props.sector) (same_some z.0 b (some_same (slice_get columns c) (Some z.0) (Some b) z.1 at)) z.2);
  rest = λ c from gone. (let z = whole c (slice_get_within columns c None gone) in none_some None z.0 refl (some_same (slice_get columns c) None (Some z.0) gone z.1));
  stand = λ c b less at. absurd (omega (arith, less));
  absent = λ c less at. absurd (omega (arith, less));
  fail = λ leaf at. absurd_test (has_number failed leaf) at (ap (λ ls. has_number ls leaf) none);
  few = (let e = ap length none in omega (arith, e));
}
  where
    same_some : (a b : Vec ℕ Global) → Some a ≡ Some b → a ≡ b
    same_some a b e = some_same (Some a) a b refl e

-- the counts after one more column was read
pub counts_after : (outcome : Outcome) (failed : List ℕ) (first old new : Option ℕ → ℕ) → CountsOn outcome old new → CountsFailed failed first old → CountsFailed (failed_after outcome failed) first new
counts_after Silent failed first old new on was = counts_kept failed first old new was on.later
counts_after (Failed leaf) failed first old new on was = counts_more failed leaf first old new was on.later (on.cause leaf refl)
counts_after Done failed first old new on was = counts_kept failed first old new was on.later
