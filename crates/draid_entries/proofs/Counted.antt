-- A state with the blocks and tickets of a table has as many.
use Rattle.std.proofs.Common.{◌≡◌, ◌<◌, ◌||◌, ℕ, zero, suc, Bool, true, false, List, [], ◌∷◌, Option, Some, None, Contains, if◌then◌else◌, refl, sym, ◌∙◌, ap, subst, arith}
use Rattle.std.specs.Ordering.{eq_by_cmp}
use Rattle.std.specs.Map.{keys_of}
use Rattle.std.specs.Set.{is_member}
use Rattle.std.specs.Cmp.{IsEquivalence}
use Rattle.std.proofs.lemmas.Bool.{true≢false}
use Rattle.std.proofs.lemmas.Bool.Decides.{nat_tests}
use Rattle.std.proofs.lemmas.Map.Keys.{IsDistinct-from_sorted}
use Rattle.std.proofs.lemmas.Map.Entries.{length-keys_of}
use Rattle.std.proofs.lemmas.Map.Made.{length-le_from_is_member}
use Rattle.draid_machine.specs.declared.names.Key.{Key}
use Rattle.draid_machine.specs.declared.names.Held.{Held}
use Rattle.draid_machine.specs.Names.{key_eq}
use Rattle.draid_machine.specs.State.{Core}
use Rattle.draid_machine.specs.Step.{HoldsFewer}
use Rattle.draid_machine.proofs.Small.{key_true, key_refl}
use Rattle.draid_entries.specs.declared.entry.Entry.{Entry}
use Rattle.draid_entries.specs.declared.entries.Entries.{Entries}
use Rattle.draid_entries.specs.Entries.{count_of, held_in}
use Rattle.draid_entries.specs.Maps.{entry_in, first_in, held_at, held_from, key_of}
use Rattle.draid_entries.proofs.Keys.{key_cmp}

-- a key that leads somewhere is one of the keys
first_there : (es : List (Key × ℕ)) (k : Key) (x : ℕ) → first_in es k ≡ Some x → Contains (keys_of es) k
first_there [] k x is = absurd (cc)
first_there (e ∷ es) k x is = by (key_eq e.0 k) refl is (λ found. first_there es k x found)
  where
    by : (b : Bool) → key_eq e.0 k ≡ b → (if b then Some e.1 else first_in es k) ≡ Some x → (first_in es k ≡ Some x → Contains (keys_of es) k) → Contains (e.0 ∷ keys_of es) k
    by true at is more = (0, omega arith, key_true e.0 k at)
    by false at is more = let z = more is in (suc z.0, (let l = z.1 in omega (arith, l)), z.2)

-- the key of a block or a ticket is one of the keys
pub key_there : (t : Entries) (k : Key) (h : Held) → held_in t k ≡ Some h → Contains (keys_of t.keys.entries) k
key_there t k h is = by (first_in t.keys.entries k) refl is
  where
    by : (o : Option ℕ) → first_in t.keys.entries k ≡ o → held_from t.firsts o ≡ Some h → Contains (keys_of t.keys.entries) k
    by None at is = absurd (cc)
    by (Some x) at is = first_there t.keys.entries k x at

key_laws : IsEquivalence (eq_by_cmp key_cmp)
key_laws = grind (arith, nat_tests)

-- one of the keys leads somewhere
member_leads : (es : List (Key × ℕ)) (k : Key) → is_member (eq_by_cmp key_cmp) (keys_of es) k ≡ true → (x : ℕ) × (first_in es k ≡ Some x)
member_leads [] k is = absurd (true≢false (sym is))
member_leads (e ∷ es) k is = by (key_eq e.0 k) refl (λ there. member_leads es k there)
  where
    turn : (a b : Key) → eq_by_cmp key_cmp a b ≡ key_eq b a
    turn a b = grind (arith, nat_tests)

    by : (b : Bool) → key_eq e.0 k ≡ b → (is_member (eq_by_cmp key_cmp) (keys_of es) k ≡ true → (x : ℕ) × (first_in es k ≡ Some x))
        → (x : ℕ) × ((if key_eq e.0 k then Some e.1 else first_in es k) ≡ Some x)
    by true at more = (e.1, ap (λ b. if b then Some e.1 else first_in es k) at)
    by false at more =
        let z = more (ap (λ b. b || is_member (eq_by_cmp key_cmp) (keys_of es) k) (sym (turn k e.0 ∙ at)) ∙ is) in
        (z.0, ap (λ b. if b then Some e.1 else first_in es k) at ∙ z.1)

-- and so is that of a block or a ticket
pub led_held : (t : Entries) (k : Key) (x : ℕ) → first_in t.keys.entries k ≡ Some x → (e : Entry) × (entry_in t.firsts x ≡ Some e) × (key_of e.pointer ≡ k) × (held_in t k ≡ Some (held_at e))
led_held t k x leads = by (entry_in t.firsts x) refl (t.agree.leads k x leads)
  where
    by : (o : Option Entry) → entry_in t.firsts x ≡ o → (elim o as (λ o. Option Key) [ None ↦ None | Some e ↦ Some (key_of e.pointer) ]) ≡ Some k
        → (e : Entry) × (entry_in t.firsts x ≡ Some e) × (key_of e.pointer ≡ k) × (held_in t k ≡ Some (held_at e))
    by None at is = absurd (cc)
    by (Some e) at is = (e, at, cc, ap (held_from t.firsts) leads ∙ ap (λ o. elim o as (λ o. Option Held) [ None ↦ None | Some e ↦ Some (held_at e) ]) at)

there_member : (ks : List Key) (k : Key) → Contains ks k → is_member (eq_by_cmp key_cmp) ks k ≡ true
there_member [] k (i, less, at) = absurd (omega (arith, less))
there_member (x ∷ xs) k (zero, less, at) = let same : key_eq k x ≡ true = subst (λ y. key_eq k y ≡ true) (sym at) (key_refl k) in grind (arith, nat_tests)
there_member (x ∷ xs) k (suc i, less, at) = by (eq_by_cmp key_cmp k x) (there_member xs k (i, omega (arith, less), at))
  where
    by : (b : Bool) → is_member (eq_by_cmp key_cmp) xs k ≡ true → (b || is_member (eq_by_cmp key_cmp) xs k) ≡ true
    by true e = refl
    by false e = e

pub few : (t : Entries) (q : Core) (limit : ℕ) → ((key : Key) → q.held key ≡ held_in t key) → count_of t < limit → HoldsFewer q limit
few t q limit same less = record {
  keys = keys_of t.keys.entries;
  all = λ k h is. key_there t k h (sym (same k) ∙ is);
  few = let n = length-keys_of t.keys.entries in omega (arith, n, less);
}

pub few_back : (t : Entries) (q : Core) (limit : ℕ) → ((key : Key) → q.held key ≡ held_in t key) → HoldsFewer q limit → count_of t < limit
few_back t q limit same few =
    let le = length-le_from_is_member key_laws (keys_of t.keys.entries) few.keys (IsDistinct-from_sorted key_cmp (keys_of t.keys.entries) t.ordered)
    (λ k is. let z = member_leads t.keys.entries k is in
    let h = led_held t k z.0 z.1 in
    there_member few.keys k (few.all k (held_at h.0) (same k ∙ h.3))) in
    let n = length-keys_of t.keys.entries in
    let f = few.few in
    omega (arith, le, n, f)
