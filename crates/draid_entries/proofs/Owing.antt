-- What the blocks and tickets of a state owe is the sum over a table's first stripes.
use Rattle.std.proofs.Common.{◌≡◌, ◌==◌, ◌+◌, ℕ, zero, suc, Bool, true, false, List, [], ◌∷◌, Option, Some, None, Contains, if◌then◌else◌, refl, sym, ◌∙◌, ap, subst, arith}
use Rattle.std.specs.Ordering.{eq_by_cmp}
use Rattle.std.specs.Map.{keys_of}
use Rattle.std.specs.List.{IsDistinct, AllByRecursion}
use Rattle.std.proofs.lemmas.Bool.Decides.{nat_tests}
use Rattle.std.proofs.lemmas.Map.Keys.{IsDistinct-from_sorted, IsDistinct-head, IsDistinct-tail}
use Rattle.draid_names.specs.declared.numbers.TheConstants.{NUMBERS}
use Rattle.draid_machine.specs.declared.names.Key.{Key}
use Rattle.draid_machine.specs.declared.names.Held.{Held}
use Rattle.draid_machine.specs.Names.{key_eq}
use Rattle.draid_machine.specs.State.{Core}
use Rattle.draid_machine.proofs.Small.{key_refl, some_injective}
use Rattle.draid_entries.specs.declared.entry.Entry.{Entry}
use Rattle.draid_entries.specs.declared.entries.Entries.{Entries}
use Rattle.draid_entries.specs.Entries.{entry_at, held_in, owed_at, owed_by, sum_below}
use Rattle.draid_entries.specs.Maps.{entry_in, first_in, held_at, held_from, key_of}
use Rattle.draid_entries.specs.Owed.{OwedByBlocks, OwedByKeys, owed_in}
use Rattle.draid_entries.proofs.Counted.{key_there, led_held}
use Rattle.draid_entries.proofs.Keys.{key_cmp}
use Rattle.draid_entries.proofs.Sums.{sum_none, sum_set}

-- a member of a list is its head or one of the others
contains_more : {A : Type 0} (x : A) (xs : List A) (y : A) → Contains xs y → Contains (x ∷ xs) y
contains_more x xs y (i, less, at) = (suc i, omega (arith, less), at)

contains_head : {A : Type 0} (x : A) (xs : List A) → Contains (x ∷ xs) x
contains_head x xs = (0, omega arith, refl)

-- the first stripe to which a key that is held leads
pub record Leads (t : Entries) (k : Key) (h : Held) : Type 0 where
  pub x : ℕ
  pub leads : first_in t.keys.entries k ≡ Some x
  pub e : Entry
  pub there : entry_in t.firsts x ≡ Some e
  pub key_is : key_of e.pointer ≡ k
  pub held_is : held_at e ≡ h

held_leads : (t : Entries) (k : Key) (h : Held) → held_in t k ≡ Some h → Leads t k h
held_leads t k h is = by (first_in t.keys.entries k) refl is
  where
    by : (o : Option ℕ) → first_in t.keys.entries k ≡ o → held_from t.firsts o ≡ Some h → Leads t k h
    by None at is = absurd (cc)
    by (Some x) at found =
        let z = led_held t k x at in
        record { x = x; leads = at; e = z.0; there = z.1; key_is = z.2; held_is = some_injective (held_at z.0) h (sym z.3 ∙ is) }

-- two keys lead to two places
places_apart : (t : Entries) (k j : Key) (h : Held) (x : ℕ) → (l : Leads t k h) → first_in t.keys.entries j ≡ Some x → (k ≡ j → ⊥) → (x ≡ l.x) → ⊥
places_apart t k j h x l leads other same =
    let z = led_held t j x leads in
    let e : Some z.0 ≡ Some l.e = sym z.1 ∙ ap (entry_in t.firsts) same ∙ l.there in
    other (sym l.key_is ∙ ap (λ (e : Entry). key_of e.pointer) (sym (some_injective z.0 l.e e)) ∙ z.2)

-- numbers that are what is owed at the places of some keys, and nothing elsewhere
pub record CountsFor (t : Entries) (columns : ℕ) (keys : List Key) (f : ℕ → ℕ) : Type 0 where
  pub here : (k : Key) (x : ℕ) → Contains keys k → first_in t.keys.entries k ≡ Some x → f x ≡ owed_at columns (entry_at t x)
  pub elsewhere : (x : ℕ) → ((k : Key) → Contains keys k → first_in t.keys.entries k ≡ Some x → ⊥) → f x ≡ 0

sum_keys : (t : Entries) (q : Core) (columns : ℕ) → ((key : Key) → q.held key ≡ held_in t key) → (keys : List Key) (owed : ℕ) (f : ℕ → ℕ)
    → OwedByKeys columns q keys owed → CountsFor t columns keys f → sum_below f NUMBERS ≡ owed
sum_keys t q columns same [] owed f none counts =
    sum_none f NUMBERS (λ x. counts.elsewhere x (λ k (i, less, at) leads. absurd (omega (arith, less)))) ∙ sym none
sum_keys t q columns same (key ∷ keys) owed f (h, more, held, once, rest, is) counts =
    let l = held_leads t key h (sym (same key) ∙ held) in
    let low = (t.agree.found l.x l.e l.there).low in
    let fewer : ℕ → ℕ = λ x. if x == l.x then 0 else f x in
    let before = sum_keys t q columns same keys more fewer rest (others l) in
    let set = sum_set f fewer NUMBERS l.x low (λ k other. ap (λ b. if b then 0 else f k) (apart k l.x other)) in
    let own : f l.x ≡ owed_in columns h.stage = counts.here key l.x (contains_head key keys) l.leads ∙ ap (owed_at columns) l.there ∙ ap (λ (h : Held). owed_in columns h.stage) l.held_is in
    let zero_there : fewer l.x ≡ 0 = ap (λ b. if b then 0 else f l.x) (itself l.x) in
    omega (arith, before, set, own, zero_there, is)
  where
    apart : (x y : ℕ) → (x ≡ y → ⊥) → (x == y) ≡ false
    apart x y other = grind (arith, nat_tests)

    itself : (x : ℕ) → (x == x) ≡ true
    itself x = grind (arith, nat_tests)

    others : (l : Leads t key h) → CountsFor t columns keys (λ x. if x == l.x then 0 else f x)
    others l = record {
      here = λ k x there leads.
          ap (λ b. if b then 0 else f x) (apart x l.x (places_apart t key k h x l leads (λ e. once (subst (λ j. Contains keys j) (sym e) there))))
          ∙ counts.here k x (contains_more key keys k there) leads;
      elsewhere = λ x none. by x none (x == l.x) refl;
    }
      where
        by : (x : ℕ) → ((k : Key) → Contains keys k → first_in t.keys.entries k ≡ Some x → ⊥) → (b : Bool) → (x == l.x) ≡ b → (if x == l.x then 0 else f x) ≡ 0
        by x none true at = ap (λ b. if b then 0 else f x) at
        by x none false at = ap (λ b. if b then 0 else f x) at ∙ counts.elsewhere x (λ k there leads. outside k there leads)
          where
            outside : (k : Key) → Contains (key ∷ keys) k → first_in t.keys.entries k ≡ Some x → ⊥
            outside k (zero, less, here) leads =
                let e : Some x ≡ Some l.x = sym leads ∙ ap (first_in t.keys.entries) (sym here) ∙ l.leads in
                let f : x ≡ l.x = some_injective x l.x e in
                (let a = at in grind (arith, nat_tests))
            outside k (suc i, less, there) leads = none k (i, omega (arith, less), there) leads

-- what is owed at each place is owed by the key that leads there
all_count : (t : Entries) (q : Core) (columns : ℕ) → ((key : Key) → q.held key ≡ held_in t key) → (keys : List Key) → ((key : Key) (h : Held) → q.held key ≡ Some h → Contains keys key)
    → CountsFor t columns keys (λ x. owed_at columns (entry_at t x))
all_count t q columns same keys all = record {
  here = λ k x there leads. refl;
  elsewhere = λ x none. by x none (entry_at t x) refl;
} where
  by : (x : ℕ) → ((k : Key) → Contains keys k → first_in t.keys.entries k ≡ Some x → ⊥) → (o : Option Entry) → entry_at t x ≡ o → owed_at columns o ≡ 0
  by x none None at = refl
  by x none (Some e) at =
      let f = t.agree.found x e at in
      let z = led_held t (key_of e.pointer) x f.named in
      absurd (none (key_of e.pointer) (all (key_of e.pointer) (held_at z.0) (same (key_of e.pointer) ∙ z.3)) f.named)

pub owes : (t : Entries) (q : Core) (columns owed : ℕ) → ((key : Key) → q.held key ≡ held_in t key) → OwedByBlocks columns q owed → owed ≡ owed_by columns t
unfolding owed_by
owes t q columns owed same by = sym (sum_keys t q columns same by.keys owed (λ x. owed_at columns (entry_at t x)) by.are (all_count t q columns same by.keys by.all))

-- some keys of a table, each once, owe something
keys_owe : (t : Entries) (q : Core) (columns : ℕ) → ((key : Key) → q.held key ≡ held_in t key) → (es : List (Key × ℕ)) → IsDistinct (eq_by_cmp key_cmp) (keys_of es)
    → ((k : Key) → Contains (keys_of es) k → (x : ℕ) × (first_in t.keys.entries k ≡ Some x)) → (owed : ℕ) × OwedByKeys columns q (keys_of es) owed
keys_owe t q columns same [] distinct lead = (0, refl)
keys_owe t q columns same (e ∷ es) distinct lead =
    let rest = keys_owe t q columns same es (IsDistinct-tail (eq_by_cmp key_cmp) e.0 (keys_of es) distinct) (λ k there. lead k (contains_more e.0 (keys_of es) k there)) in
    let x = lead e.0 (contains_head e.0 (keys_of es)) in
    let z = led_held t e.0 x.0 x.1 in
    let are : OwedByKeys columns q (e.0 ∷ keys_of es) (owed_in columns z.0.stage + rest.0) =
    (held_at z.0, rest.0, same e.0 ∙ z.3, once (keys_of es) (IsDistinct-head (eq_by_cmp key_cmp) e.0 (keys_of es) distinct), rest.1, refl) in
    (owed_in columns z.0.stage + rest.0, are)
  where
    once : (ks : List Key) → AllByRecursion (λ y. eq_by_cmp key_cmp e.0 y ≡ false) ks → Contains ks e.0 → ⊥
    once [] all (i, less, at) = omega (arith, less)
    once (k ∷ ks) all (zero, less, at) = let a = all.0 in let r : key_eq e.0 k ≡ true = subst (λ y. key_eq e.0 y ≡ true) (sym at) (key_refl e.0) in grind (arith, nat_tests)
    once (k ∷ ks) all (suc i, less, at) = once ks all.1 (i, omega (arith, less), at)

-- each of the keys leads somewhere
lead_in : (es : List (Key × ℕ)) (k : Key) → Contains (keys_of es) k → (x : ℕ) × (first_in es k ≡ Some x)
lead_in [] k (i, less, at) = absurd (omega (arith, less))
lead_in (e ∷ es) k (zero, less, at) = (e.1, ap (λ b. if b then Some e.1 else first_in es k) (subst (λ j. key_eq e.0 j ≡ true) at (key_refl e.0)))
lead_in (e ∷ es) k (suc i, less, at) = by (key_eq e.0 k) refl (lead_in es k (i, omega (arith, less), at))
  where
    by : (b : Bool) → key_eq e.0 k ≡ b → (x : ℕ) × (first_in es k ≡ Some x) → (x : ℕ) × ((if key_eq e.0 k then Some e.1 else first_in es k) ≡ Some x)
    by true at z = (e.1, ap (λ b. if b then Some e.1 else first_in es k) at)
    by false at z = (z.0, ap (λ b. if b then Some e.1 else first_in es k) at ∙ z.1)

pub owes_back : (t : Entries) (q : Core) (columns owed : ℕ) → ((key : Key) → q.held key ≡ held_in t key) → owed ≡ owed_by columns t → OwedByBlocks columns q owed
owes_back t q columns owed same is =
    let made = keys_owe t q columns same t.keys.entries (IsDistinct-from_sorted key_cmp (keys_of t.keys.entries) t.ordered) (lead_in t.keys.entries) in
    let own : OwedByBlocks columns q made.0 = record { keys = keys_of t.keys.entries; all = λ k h held. key_there t k h (sym (same k) ∙ held); are = made.1 } in
    subst (OwedByBlocks columns q) (owes t q columns made.0 same own ∙ sym is) own
