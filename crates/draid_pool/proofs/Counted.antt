-- How many objects of a pool have bytes.
use Rattle.std.proofs.Common.{arith, ◌≡◌, ◌≢◌, ◌∙◌, ◌⊎◌, ◌<◌, ◌+◌, inl, inr, refl, sym, subst, ℕ, zero, suc, Bool, true, false, List, [], ◌∷◌, Option, Some, None, length, if◌then◌else◌}
use Rattle.std.proofs.lemmas.Map.Entries.{length-keys_of}
use Rattle.std.proofs.lemmas.Map.Views.{hash_map_contains_key_iff}
use Rattle.std.proofs.lemmas.Bool.Decides.{nat_tests}
use Rattle.std.specs.Prelude.{◌↔◌, ⊤, Contains, IsSome, nat_eq, nat_lt, slice_index, slice_index_or}
use Rattle.std.specs.List.{AllByRecursion, IsDistinct}
use Rattle.std.specs.List.Sorted.{IsStrictlyIncreasing}
use Rattle.std.specs.Cmp.{nat_eq_equiv}
use Rattle.std.specs.HashMap.{HashMap, IsUnique, get, hash_map_len, keys}
use Rattle.draid_names.specs.declared.pointer.Pointer.{Pointer}
use Rattle.draid_objects.specs.Changes.{Change, Write, write_of}
use Rattle.draid_shard.specs.declared.shard.Shard.{Shard}
use Rattle.draid_session.specs.Opening.{HasObjects}
use Rattle.draid_pool.specs.Pools.{HasNames}
use Rattle.draid_pool.specs.Objects.{PointsTo}

-- ---- numbers in ascending order

-- all are above a number, and ascend
abbrev Above : ℕ → List ℕ → Type 0
Above b [] = ⊤
Above b (x ∷ xs) = (b < x) × Above x xs

abbrev IsAscending : List ℕ → Type 0
IsAscending [] = ⊤
IsAscending (x ∷ xs) = Above x xs

-- a number is among some
abbrev In : ℕ → List ℕ → Type 0
In q [] = ⊥
In q (x ∷ xs) = (x ≡ q) ⊎ In q xs

ascends : (x : ℕ) (xs : List ℕ) → Above x xs → IsStrictlyIncreasing (x ∷ xs)
ascends x [] a k less = absurd (omega (arith, less))
ascends x (y ∷ ys) a zero less = (let one : zero + 1 ≡ suc zero = omega arith in subst (λ j. x < slice_index (x ∷ y ∷ ys) j) (sym one) a.0)
ascends x (y ∷ ys) a (suc k) less =
    (let more = ascends y ys a.1 k (omega (arith, less)) in let one : suc k + 1 ≡ suc (k + 1) = omega arith in subst (λ j. slice_index (y ∷ ys) k < slice_index (x ∷ y ∷ ys) j) (sym one) more)

increasing : (xs : List ℕ) → IsAscending xs → IsStrictlyIncreasing xs
increasing [] a = λ k less. absurd (omega (arith, less))
increasing (x ∷ xs) a = ascends x xs a

contains_in : (xs : List ℕ) (q : ℕ) (k : ℕ) → k < length xs → slice_index_or xs k q ≡ q → In q xs
contains_in [] q k less is = absurd (omega (arith, less))
contains_in (x ∷ xs) q zero less is = inl is
contains_in (x ∷ xs) q (suc k) less is = inr (contains_in xs q k (omega (arith, less)) is)

in_contains : (xs : List ℕ) (q : ℕ) → In q xs → Contains xs q
in_contains [] q is = absurd is
in_contains (x ∷ xs) q (inl same) = (0, omega arith, same)
in_contains (x ∷ xs) q (inr more) = (let c = in_contains xs q more in let less = c.1 in (suc c.0, omega (arith, less), c.2))

abbrev put : ℕ → List ℕ → List ℕ
put k [] = k ∷ []
put k (x ∷ xs) = if nat_lt k x then k ∷ x ∷ xs else x ∷ put k xs

module _ (k : ℕ) where
  length-put : (xs : List ℕ) → length (put k xs) ≡ length xs + 1
  length-put [] = refl
  length-put (x ∷ xs) = by (nat_lt k x) (length-put xs) where
    by : (b : Bool) → length (put k xs) ≡ length xs + 1 → length (if b then k ∷ x ∷ xs else x ∷ put k xs) ≡ length (x ∷ xs) + 1
    by true more = omega arith
    by false more = omega (arith, more)

  above_put : (b : ℕ) (xs : List ℕ) → b < k → Above b xs → (In k xs → ⊥) → Above b (put k xs)
  above_put b [] less a other = (less, tt)
  above_put b (x ∷ xs) less a other = by (nat_lt k x) refl (λ below. above_put x xs below a.1 (λ more. other (inr more))) where
    by : (c : Bool) → nat_lt k x ≡ c → (x < k → Above x (put k xs)) → Above b (if c then k ∷ x ∷ xs else x ∷ put k xs)
    by true is more = (less, (grind (arith, nat_tests), a.1))
    by false is more = (let differs : x ≢ k = λ same. other (inl same) in let below : x < k = grind (arith, nat_tests) in (a.0, more below))

  ascends_put : (xs : List ℕ) → IsAscending xs → (In k xs → ⊥) → IsAscending (put k xs)
  ascends_put [] a other = tt
  ascends_put (x ∷ xs) a other = by (nat_lt k x) refl where
    by : (c : Bool) → nat_lt k x ≡ c → IsAscending (if c then k ∷ x ∷ xs else x ∷ put k xs)
    by true is = (grind (arith, nat_tests), a)
    by false is = (let differs : x ≢ k = λ same. other (inl same) in let below : x < k = grind (arith, nat_tests) in above_put x xs below a (λ more. other (inr more)))

  in_put : (q : ℕ) (xs : List ℕ) → In q (put k xs) → (k ≡ q) ⊎ In q xs
  in_put q [] is = is
  in_put q (x ∷ xs) is = by (nat_lt k x) (in_put q xs) is where
    by : (c : Bool) → (In q (put k xs) → (k ≡ q) ⊎ In q xs) → In q (if c then k ∷ x ∷ xs else x ∷ put k xs) → (k ≡ q) ⊎ In q (x ∷ xs)
    by true rest is = is
    by false rest (inl same) = inr (inl same)
    by false rest (inr more) = elim (rest more) [ inl same ↦ inl same | inr there ↦ inr (inr there) ]

  put_in : (q : ℕ) (xs : List ℕ) → (k ≡ q) ⊎ In q xs → In q (put k xs)
  put_in q [] is = is
  put_in q (x ∷ xs) is = by (nat_lt k x) (put_in q xs) is where
    by : (c : Bool) → ((k ≡ q) ⊎ In q xs → In q (put k xs)) → (k ≡ q) ⊎ In q (x ∷ xs) → In q (if c then k ∷ x ∷ xs else x ∷ put k xs)
    by true rest is = is
    by false rest (inl same) = inr (rest (inl same))
    by false rest (inr (inl same)) = inl same
    by false rest (inr (inr more)) = inr (rest (inr more))

abbrev sorted : List ℕ → List ℕ
sorted [] = []
sorted (k ∷ ks) = put k (sorted ks)

length-sorted : (ks : List ℕ) → length (sorted ks) ≡ length ks
length-sorted [] = refl
length-sorted (k ∷ ks) = (let one = length-put k (sorted ks) in let more = length-sorted ks in omega (arith, one, more))

in_sorted : (q : ℕ) (ks : List ℕ) → In q (sorted ks) → In q ks
in_sorted q [] is = is
in_sorted q (k ∷ ks) is = elim (in_put k q (sorted ks) is) [ inl same ↦ inl same | inr more ↦ inr (in_sorted q ks more) ]

sorted_in : (q : ℕ) (ks : List ℕ) → In q ks → In q (sorted ks)
sorted_in q [] is = is
sorted_in q (k ∷ ks) (inl same) = put_in k q (sorted ks) (inl same)
sorted_in q (k ∷ ks) (inr more) = put_in k q (sorted ks) (inr (sorted_in q ks more))

apart : (k : ℕ) (ks : List ℕ) → AllByRecursion (λ y. nat_eq k y ≡ false) ks → In k ks → ⊥
apart k [] all is = is
apart k (x ∷ xs) all (inl same) = (let other = all.0 in grind (arith, nat_tests))
apart k (x ∷ xs) all (inr more) = apart k xs all.1 more

distinct_ascend : (ks : List ℕ) → IsDistinct nat_eq ks → IsAscending (sorted ks)
unfolding IsDistinct
distinct_ascend [] d = tt
distinct_ascend (k ∷ ks) d = ascends_put k (sorted ks) (distinct_ascend ks d.1) (λ is. apart k ks d.0 (in_sorted k ks is))

-- ---- objects

some_written : {R A : Type 0} (shards : List (Shard R A)) (p : Option Pointer) (w : Option Write) → PointsTo shards p w → IsSome p ↔ (w ≢ None)
some_written shards None None is = (λ e. absurd (cc e), λ e. absurd (e refl))
some_written shards (Some p) (Some w) is = (λ e f. cc f, λ e. refl)
some_written shards None (Some w) is = absurd is
some_written shards (Some p) None is = absurd is

pub has_names : {S : Type 0} (objects : HashMap ℕ Pointer S) (result : ℕ) → IsUnique nat_eq objects → result ≡ hash_map_len objects → HasNames (get nat_eq objects) result
has_names objects result unique counted = record {
  names = sorted (keys objects);
  ascending = increasing (sorted (keys objects)) (distinct_ascend (keys objects) unique);
  each = each;
  many = counted ∙ (sym (length-keys_of objects.entries) ∙ sym (length-sorted (keys objects)));
} where
  exact : (x y : ℕ) → nat_eq x y ≡ true → x ≡ y
  exact x y is = grind (arith, nat_tests)

  each : (object : ℕ) → Contains (sorted (keys objects)) object ↔ IsSome (get nat_eq objects object)
  each object =
      let has = hash_map_contains_key_iff nat_eq_equiv exact objects object in (
        λ c. has.1 (in_contains (keys objects) object (in_sorted object (keys objects) (contains_in (sorted (keys objects)) object c.0 c.1 c.2))),
        λ w. (let c = has.0 w in in_contains (sorted (keys objects)) object (sorted_in object (keys objects) (contains_in (keys objects) object c.0 c.1 c.2))),
      )

pub has_objects : {R A S : Type 0} (shards : List (Shard R A)) (objects : HashMap ℕ Pointer S) (changes : List Change) (result : ℕ) → IsUnique nat_eq objects → result ≡ hash_map_len objects
    → ((object : ℕ) → PointsTo shards (get nat_eq objects object) (write_of changes object)) → HasObjects changes result
has_objects shards objects changes result unique counted points = record {
  names = sorted (keys objects);
  ascending = increasing (sorted (keys objects)) (distinct_ascend (keys objects) unique);
  each = each;
  many = counted ∙ (sym (length-keys_of objects.entries) ∙ sym (length-sorted (keys objects)));
} where
  exact : (x y : ℕ) → nat_eq x y ≡ true → x ≡ y
  exact x y is = grind (arith, nat_tests)

  each : (object : ℕ) → Contains (sorted (keys objects)) object ↔ (write_of changes object ≢ None)
  each object =
      let has = hash_map_contains_key_iff nat_eq_equiv exact objects object in
      let written = some_written shards (get nat_eq objects object) (write_of changes object) (points object) in (
        λ c. written.0 (has.1 (in_contains (keys objects) object (in_sorted object (keys objects) (contains_in (sorted (keys objects)) object c.0 c.1 c.2)))),
        λ w. (let c = has.0 (written.1 w) in in_contains (sorted (keys objects)) object (sorted_in object (keys objects) (contains_in (keys objects) object c.0 c.1 c.2))),
      )
