-- What maps by key and by first stripe have after a change.
use Rattle.std.proofs.Common.{◌≡◌, ◌==◌, ℕ, true, List, [], ◌∷◌, Option, Some, cond, if◌then◌else◌, refl, sym, ◌∙◌, arith, nat_cmp, Ordering}
use Rattle.std.specs.Ordering.{ordering_then}
use Rattle.std.specs.Map.{lookup}
use Rattle.std.specs.BTreeMap.{is_at}
use Rattle.std.proofs.lemmas.Bool.Decides.{nat_tests}
use Rattle.draid_machine.specs.declared.names.Key.{Key}
use Rattle.draid_machine.specs.Names.{key_eq}
use Rattle.draid_entries.specs.Maps.{first_in}

-- the order of keys
abbrev pub key_cmp : Key → Key → Ordering
key_cmp a b = ordering_then (nat_cmp a.object b.object) (nat_cmp a.seq b.seq)

same_key : (k j : Key) → is_at (key_cmp k) j ≡ key_eq j k
same_key k j = grind (arith, nat_tests)

turned_key : (k j : Key) → is_at (key_cmp k) j ≡ key_eq k j
turned_key k j = grind (arith, nat_tests)

pub first_lookup : (es : List (Key × ℕ)) (k : Key) → lookup (is_at (key_cmp k)) es ≡ first_in es k
first_lookup [] k = refl
first_lookup (e ∷ es) k = λ i. if same_key k e.0 i then Some e.1 else first_lookup es k i

-- a map by keys in which one key leads elsewhere
pub key_set : (old new : List (Key × ℕ)) (k j : Key) (v : Option ℕ) → k ≡ j
    → ((q : Key) → lookup (is_at (key_cmp q)) new ≡ cond (is_at (key_cmp k) q) v (lookup (is_at (key_cmp q)) old))
    → (q : Key) → first_in new q ≡ (if key_eq j q then v else first_in old q)
key_set old new k j v is e q =
    sym (first_lookup new q) ∙ e q ∙ (λ i. cond (turned_key k q i) v (first_lookup old q i)) ∙ (λ i. if key_eq (is i) q then v else first_in old q)

same_place : (k j : ℕ) → is_at (nat_cmp k) j ≡ (j == k)
same_place k j = grind (arith, nat_tests)

-- a map by first stripes in which one place has another entry
pub place_set : {X : Type 0} (old new : ℕ → Option X) (k : ℕ) (v : Option X) → ((q : ℕ) → new q ≡ cond (is_at (nat_cmp k) q) v (old q))
    → (q : ℕ) → new q ≡ (if q == k then v else old q)
place_set {X} old new k v e q = e q ∙ (λ i. cond (same_place k q i) v (old q))

pub key_equal : (k j : Key) → key_eq k j ≡ true → k ≡ j
key_equal k j e = fields k j (grind (arith, nat_tests)) (grind (arith, nat_tests))
  where
    fields : (k j : Key) → k.object ≡ j.object → k.seq ≡ j.seq → k ≡ j
    fields k j o s = λ i. record { object = o i; seq = s i }

pub key_itself : (k : Key) → key_eq k k ≡ true
key_itself k = grind (arith, nat_tests)
