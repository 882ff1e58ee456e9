-- The table after one entry came, turned or went.
use Rattle.std.proofs.Common.{◌≡◌, ◌==◌, ◌<◌, ◌+◌, ◌⊎◌, ℕ, Bool, true, false, Option, Some, None, option_map, cond, if◌then◌else◌, refl, sym, ◌∙◌, ap, subst, inl, inr, arith, nat_cmp, Result, Ok, Err, OnErr, is_some}
use Rattle.std.specs.Map.{lookup}
use Rattle.std.proofs.lemmas.Bool.Decides.{nat_tests}
use Rattle.std.specs.BTreeMap.{BTreeMap, is_at}
use Rattle.draid_machine.proofs.Small.{some_injective}
use Rattle.draid_names.specs.declared.numbers.TheConstants.{NUMBERS}
use Rattle.draid_names.specs.declared.pointer.Pointer.{Pointer}
use Rattle.draid_machine.specs.declared.names.Key.{Key}
use Rattle.draid_machine.specs.declared.names.Stage.{Stage}
use Rattle.draid_machine.specs.Names.{key_eq}
use Rattle.draid_entries.specs.declared.entry.Entry.{Entry}
use Rattle.draid_entries.specs.declared.entries.Entries.{Entries}
use Rattle.draid_entries.specs.Entries.{SameEntries, SetsEntry, begun, count_of, entry_at, owed_at, owed_by}
use Rattle.draid_entries.specs.Maps.{Agree, IsFoundAt, entry_in, first_in, held_at, held_from, key_of, staged}
use Rattle.draid_entries.proofs.Keys.{key_cmp, key_equal, key_itself, key_set, place_set}
use Rattle.draid_entries.proofs.Sums.{sum_same, sum_set}

-- what was at a pointer's place and key: nothing, or its block or ticket
abbrev pub Was : BTreeMap ℕ Entry → BTreeMap Key ℕ → Pointer → Type 0
Was firsts keys p = ((entry_in firsts p.first ≡ None) × (first_in keys.entries (key_of p) ≡ None))
    ⊎ ((s : Stage) × (entry_in firsts p.first ≡ Some (staged s p)))

-- the entry that comes is of the pointer
abbrev pub IsOf : Pointer → Option Entry → Type 0
IsOf p entry = (e : Entry) → entry ≡ Some e → e.pointer ≡ p

pub record Changed (firsts new : BTreeMap ℕ Entry) (keys named : BTreeMap Key ℕ) (p : Pointer) (entry : Option Entry) : Type 0 where
  pub agree : Agree firsts keys
  pub was : Was firsts keys p
  pub is_of : IsOf p entry
  pub low : p.first < NUMBERS
  pub places : (x : ℕ) → entry_in new x ≡ (if x == p.first then entry else entry_in firsts x)
  pub leads : (k : Key) → first_in named.entries k ≡ (if key_eq (key_of p) k then option_map (λ e. p.first) entry else first_in keys.entries k)

module _ (firsts new : BTreeMap ℕ Entry) (keys named : BTreeMap Key ℕ) (p : Pointer) (entry : Option Entry) (c : Changed firsts new keys named p entry) where
  -- an entry elsewhere has another key
  other_key : (x : ℕ) (e : Entry) → entry_in firsts x ≡ Some e → (x == p.first) ≡ false → key_eq (key_of p) (key_of e.pointer) ≡ false
  other_key x e there other = by (key_eq (key_of p) (key_of e.pointer)) refl
    where
      named_at : first_in keys.entries (key_of e.pointer) ≡ Some x
      named_at = (c.agree.found x e there).named

      clash : key_eq (key_of p) (key_of e.pointer) ≡ true → ⊥
      clash same =
          let k : first_in keys.entries (key_of p) ≡ Some x = ap (first_in keys.entries) (key_equal (key_of p) (key_of e.pointer) same) ∙ named_at in
          elim c.was [
            | inl none ↦ (let n = none.1 in cc)
            | inr some ↦ place_clash (c.agree.found p.first (staged some.0 p) some.1).named k
          ]
        where
          place_clash : first_in keys.entries (key_of p) ≡ Some p.first → first_in keys.entries (key_of p) ≡ Some x → ⊥
          place_clash a b = apart (sym a ∙ b)
            where
              apart : Some p.first ≡ Some x → ⊥
              apart e = let f : p.first ≡ x = cc in (let o = other in grind (arith, nat_tests))

      by : (b : Bool) → key_eq (key_of p) (key_of e.pointer) ≡ b → b ≡ false
      by true is = absurd (clash is)
      by false is = refl

  -- a key that leads elsewhere leads to another place
  other_place : (k : Key) (x : ℕ) → first_in keys.entries k ≡ Some x → key_eq (key_of p) k ≡ false → (x == p.first) ≡ false
  other_place k x leads other = by (x == p.first) refl
    where
      at : option_map (λ (e : Entry). key_of e.pointer) (entry_in firsts x) ≡ Some k
      at = c.agree.leads k x leads

      clash : x ≡ p.first → ⊥
      clash same = elim c.was [
        | inl none ↦ (let a = at in let n = none.0 in cc)
        | inr some ↦ key_clash some.0 some.1
      ]
        where
          key_clash : (s : Stage) → entry_in firsts p.first ≡ Some (staged s p) → ⊥
          key_clash s there =
              let k_is : Some (key_of p) ≡ Some k = sym (ap (option_map (λ (e : Entry). key_of e.pointer)) (ap (entry_in firsts) same ∙ there)) ∙ at in
              let eq : key_of p ≡ k = cc in
              let t = key_itself (key_of p) in
              cc

      by : (b : Bool) → (x == p.first) ≡ b → b ≡ false
      by true is = absurd (clash (grind (arith, nat_tests)))
      by false is = refl

  -- both maps have the same entries again
  pub agrees : Agree new named
  agrees = record { found = found; leads = leads }
    where
      found : (x : ℕ) (e : Entry) → entry_in new x ≡ Some e → IsFoundAt named x e
      found x e there = by (x == p.first) refl (sym (c.places x) ∙ there)
        where
          by : (b : Bool) → (x == p.first) ≡ b → (if b then entry else entry_in firsts x) ≡ Some e → IsFoundAt named x e
          by true is here =
              let at : x ≡ p.first = grind (arith, nat_tests) in
              let own : e.pointer ≡ p = c.is_of e here in
              record {
                first_is = ap (λ (q : Pointer). q.first) own ∙ sym at;
                low = subst (λ y. y < NUMBERS) (sym at) c.low;
                named =
                    c.leads (key_of e.pointer)
                    ∙ (λ i. if key_eq (key_of p) (key_of (own i)) then option_map (λ e. p.first) entry else first_in keys.entries (key_of e.pointer))
                    ∙ (λ i. if key_itself (key_of p) i then option_map (λ e. p.first) entry else first_in keys.entries (key_of e.pointer))
                    ∙ ap (option_map (λ e. p.first)) here ∙ ap Some (sym at);
              }
          by false is here =
              let f = c.agree.found x e here in
              record {
                first_is = f.first_is;
                low = f.low;
                named =
                    c.leads (key_of e.pointer)
                    ∙ (λ i. if other_key x e here is i then option_map (λ e. p.first) entry else first_in keys.entries (key_of e.pointer))
                    ∙ f.named;
              }

      leads : (k : Key) (x : ℕ) → first_in named.entries k ≡ Some x → option_map (λ (e : Entry). key_of e.pointer) (entry_in new x) ≡ Some k
      leads k x is = by (key_eq (key_of p) k) refl (sym (c.leads k) ∙ is)
        where
          by : (b : Bool) → key_eq (key_of p) k ≡ b → (if b then option_map (λ e. p.first) entry else first_in keys.entries k) ≡ Some x
              → option_map (λ (e : Entry). key_of e.pointer) (entry_in new x) ≡ Some k
          by true same here = own entry refl here
            where
              own : (o : Option Entry) → entry ≡ o → option_map (λ e. p.first) o ≡ Some x → option_map (λ (e : Entry). key_of e.pointer) (entry_in new x) ≡ Some k
              own None o at = absurd (cc)
              own (Some e) o at =
                  let at_first : p.first ≡ x = cc in
                  let here : (x == p.first) ≡ true = grind (arith, nat_tests) in
                  ap (option_map (λ (e : Entry). key_of e.pointer)) (c.places x ∙ (λ i. if here i then entry else entry_in firsts x) ∙ o)
                  ∙ ap (λ (q : Pointer). Some (key_of q)) (c.is_of e o) ∙ ap Some (key_equal (key_of p) k same)
          by false other here =
              ap (option_map (λ (e : Entry). key_of e.pointer)) (c.places x ∙ (λ i. if other_place k x here other i then entry else entry_in firsts x))
              ∙ c.agree.leads k x here

  -- what a state has of each key
  pub held_set : (k : Key) → held_from new (first_in named.entries k)
      ≡ (if key_eq (key_of p) k then option_map held_at entry else held_from firsts (first_in keys.entries k))
  held_set k = by (key_eq (key_of p) k) refl
    where
      own : (o : Option Entry) → entry ≡ o → held_from new (option_map (λ e. p.first) o) ≡ option_map held_at o
      own None o = refl
      own (Some e) o =
          let here : (p.first == p.first) ≡ true = grind (arith, nat_tests) in
          ap (option_map held_at) (c.places p.first ∙ (λ i. if here i then entry else entry_in firsts p.first) ∙ o)

      elsewhere : (o : Option ℕ) → first_in keys.entries k ≡ o → key_eq (key_of p) k ≡ false → held_from new o ≡ held_from firsts o
      elsewhere None is other = refl
      elsewhere (Some x) is other =
          ap (option_map held_at) (c.places x ∙ (λ i. if other_place k x is other i then entry else entry_in firsts x))

      by : (b : Bool) → key_eq (key_of p) k ≡ b → held_from new (first_in named.entries k) ≡ (if b then option_map held_at entry else held_from firsts (first_in keys.entries k))
      by true is = ap (held_from new) (c.leads k ∙ (λ i. if is i then option_map (λ e. p.first) entry else first_in keys.entries k)) ∙ own entry refl
      by false is =
          ap (held_from new) (c.leads k ∙ (λ i. if is i then option_map (λ e. p.first) entry else first_in keys.entries k))
          ∙ elsewhere (first_in keys.entries k) refl is

-- the table is as it was, but at one place and key
pub sets : (old new : Entries) (p : Pointer) (entry : Option Entry) → Changed old.firsts new.firsts old.keys new.keys p entry → SetsEntry old new p entry
unfolding owed_by
sets old new p entry c = record {
  at = c.places;
  held = held_set old.firsts new.firsts old.keys new.keys p entry c;
  owed = λ columns. owed columns;
} where
  here : (p.first == p.first) ≡ true
  here = grind (arith, nat_tests)

  elsewhere : (k : ℕ) → (k ≡ p.first → ⊥) → (k == p.first) ≡ false
  elsewhere k other = grind (arith, nat_tests)

  owed : (columns : ℕ) → owed_by columns new + owed_at columns (entry_at old p.first) ≡ owed_by columns old + owed_at columns entry
  owed columns =
      let sum = sum_set (λ x. owed_at columns (entry_at old x)) (λ x. owed_at columns (entry_at new x)) NUMBERS p.first c.low
      (λ k other. ap (owed_at columns) (c.places k ∙ (λ i. if elsewhere k other i then entry else entry_at old k))) in
      let own : owed_at columns (entry_at new p.first) ≡ owed_at columns entry = ap (owed_at columns) (c.places p.first ∙ (λ i. if here i then entry else entry_at old p.first)) in
      omega (arith, sum, own)

-- the table is as it was
pub same_entries : (old new : Entries) → ((x : ℕ) → entry_in new.firsts x ≡ entry_in old.firsts x) → ((k : Key) → first_in new.keys.entries k ≡ first_in old.keys.entries k)
    → count_of new ≡ count_of old → SameEntries old new
unfolding owed_by
same_entries old new places leads count = record {
  at = places;
  held = λ k. ap (held_from new.firsts) (leads k) ∙ held (first_in old.keys.entries k);
  count = count;
  owed = λ columns. sum_same (λ x. owed_at columns (entry_at old x)) (λ x. owed_at columns (entry_at new x)) NUMBERS (λ k lt. ap (owed_at columns) (places k));
} where
  held : (o : Option ℕ) → held_from new.firsts o ≡ held_from old.firsts o
  held None = refl
  held (Some x) = ap (option_map held_at) (places x)

-- both maps have the same entries where they have those that they had
pub agrees_still : (firsts new : BTreeMap ℕ Entry) (keys named : BTreeMap Key ℕ) → Agree firsts keys → ((x : ℕ) → entry_in new x ≡ entry_in firsts x)
    → ((k : Key) → first_in named.entries k ≡ first_in keys.entries k) → Agree new named
agrees_still firsts new keys named agree places leads = record {
  found = λ x e there. (let f = agree.found x e (sym (places x) ∙ there) in
      record { first_is = f.first_is; low = f.low; named = leads (key_of e.pointer) ∙ f.named });
  leads = λ k x is. ap (option_map (λ (e : Entry). key_of e.pointer)) (places x) ∙ agree.leads k x (sym (leads k) ∙ is);
}

-- a key of no block leads nowhere
pub unused_key : (firsts : BTreeMap ℕ Entry) (keys : BTreeMap Key ℕ) (k : Key) → Agree firsts keys → held_from firsts (first_in keys.entries k) ≡ None → first_in keys.entries k ≡ None
unused_key firsts keys k agree none = by (first_in keys.entries k) refl none
  where
    there : (x : ℕ) (o : Option Entry) → option_map (λ (e : Entry). key_of e.pointer) o ≡ Some k → option_map held_at o ≡ None → ⊥
    there x None a b = cc
    there x (Some e) a b = cc

    by : (o : Option ℕ) → first_in keys.entries k ≡ o → held_from firsts o ≡ None → o ≡ None
    by None is at = refl
    by (Some x) is at = absurd (there x (entry_in firsts x) (agree.leads k x is) at)

-- a key that came and went again
pub key_undone : (keys more fewer : BTreeMap Key ℕ) (key : Key) (v : ℕ) → first_in keys.entries key ≡ None
    → ((k : Key) → first_in more.entries k ≡ (if key_eq key k then Some v else first_in keys.entries k))
    → ((k : Key) → first_in fewer.entries k ≡ (if key_eq key k then None else first_in more.entries k))
    → (k : Key) → first_in fewer.entries k ≡ first_in keys.entries k
key_undone keys more fewer key v none came went k = by (key_eq key k) refl
  where
    by : (b : Bool) → key_eq key k ≡ b → first_in fewer.entries k ≡ first_in keys.entries k
    by true is = went k ∙ (λ i. if is i then None else first_in more.entries k) ∙ sym none ∙ ap (first_in keys.entries) (key_equal key k is)
    by false is =
        went k ∙ (λ i. if is i then None else first_in more.entries k) ∙ came k ∙ (λ i. if is i then Some v else first_in keys.entries k)

-- a key keeps its place as its block turns
pub key_still : (firsts : BTreeMap ℕ Entry) (keys : BTreeMap Key ℕ) (p : Pointer) (s : Stage) (now : Entry) → Agree firsts keys → entry_in firsts p.first ≡ Some (staged s p)
    → (k : Key) → first_in keys.entries k ≡ (if key_eq (key_of p) k then option_map (λ e. p.first) (Some now) else first_in keys.entries k)
key_still firsts keys p s now agree there k = by (key_eq (key_of p) k) refl
  where
    by : (b : Bool) → key_eq (key_of p) k ≡ b → first_in keys.entries k ≡ (if b then Some p.first else first_in keys.entries k)
    by true is = ap (first_in keys.entries) (sym (key_equal (key_of p) k is)) ∙ (agree.found p.first (staged s p) there).named
    by false is = refl

-- ---- what the maps say after each call

pub comes : (firsts new : BTreeMap ℕ Entry) (keys named : BTreeMap Key ℕ) (p : Pointer) (key : Key) → key ≡ key_of p → Agree firsts keys → entry_in firsts p.first ≡ None
    → held_from firsts (first_in keys.entries (key_of p)) ≡ None → p.first < NUMBERS
    → ((x : ℕ) → entry_in new x ≡ cond (is_at (nat_cmp p.first) x) (Some (begun p)) (entry_in firsts x))
    → ((k : Key) → lookup (is_at (key_cmp k)) named.entries ≡ cond (is_at (key_cmp key) k) (Some p.first) (lookup (is_at (key_cmp k)) keys.entries))
    → Changed firsts new keys named p (Some (begun p))
comes firsts new keys named p key key_is agree free unused low places leads = record {
  agree = agree;
  was = inl (free, unused_key firsts keys (key_of p) agree unused);
  is_of = λ e is. ap (λ (x : Entry). x.pointer) (sym (some_injective (begun p) e is));
  low = low;
  places = place_set (entry_in firsts) (entry_in new) p.first (Some (begun p)) places;
  leads = key_set keys.entries named.entries key (key_of p) (Some p.first) key_is leads;
}

pub turns : (firsts new : BTreeMap ℕ Entry) (keys : BTreeMap Key ℕ) (p : Pointer) (now : Stage) → Agree firsts keys → (s : Stage) → entry_in firsts p.first ≡ Some (staged s p)
    → ((x : ℕ) → entry_in new x ≡ cond (is_at (nat_cmp p.first) x) (Some (staged now p)) (entry_in firsts x))
    → Changed firsts new keys keys p (Some (staged now p))
turns firsts new keys p now agree s there places = record {
  agree = agree;
  was = inr (s, there);
  is_of = λ e is. ap (λ (x : Entry). x.pointer) (sym (some_injective (staged now p) e is));
  low = (agree.found p.first (staged s p) there).low;
  places = place_set (entry_in firsts) (entry_in new) p.first (Some (staged now p)) places;
  leads = key_still firsts keys p s (staged now p) agree there;
}

pub goes : (firsts new : BTreeMap ℕ Entry) (keys named : BTreeMap Key ℕ) (p : Pointer) (key : Key) → key ≡ key_of p → Agree firsts keys → (s : Stage) → entry_in firsts p.first ≡ Some (staged s p)
    → ((x : ℕ) → entry_in new x ≡ cond (is_at (nat_cmp p.first) x) None (entry_in firsts x))
    → ((k : Key) → lookup (is_at (key_cmp k)) named.entries ≡ cond (is_at (key_cmp key) k) None (lookup (is_at (key_cmp k)) keys.entries))
    → Changed firsts new keys named p None
goes firsts new keys named p key key_is agree s there places leads = record {
  agree = agree;
  was = inr (s, there);
  is_of = λ e is. absurd (cc);
  low = (agree.found p.first (staged s p) there).low;
  places = place_set (entry_in firsts) (entry_in new) p.first None places;
  leads = key_set keys.entries named.entries key (key_of p) None key_is leads;
}

pub on_err_of : {T E : Type 0} (r : Result T E) (P : Type 0) → P → OnErr r P
on_err_of (Ok x) P p = tt
on_err_of (Err e) P p = p

-- an entry that came is one more, and one that went one less
pub one_undone : (was got : Option ℕ) (v before mid after : ℕ) → was ≡ None → mid ≡ before + (if is_some was then 0 else 1) → got ≡ Some v → after + (if is_some got then 1 else 0) ≡ mid
    → after ≡ before
one_undone was got v before mid after none came some went =
    let a : mid ≡ before + 1 = came ∙ ap (λ (o : Option ℕ). before + (if is_some o then 0 else 1)) none in
    let b : after + 1 ≡ mid = ap (λ (o : Option ℕ). after + (if is_some o then 1 else 0)) (sym some) ∙ went in
    omega (arith, a, b)

pub one_more : (was : Option ℕ) (before now : ℕ) → was ≡ None → now ≡ before + (if is_some was then 0 else 1) → now ≡ before + 1
one_more was before now none len = len ∙ ap (λ (o : Option ℕ). before + (if is_some o then 0 else 1)) none

pub one_less : (got : Option ℕ) (v before now : ℕ) → got ≡ Some v → now + (if is_some got then 1 else 0) ≡ before → now + 1 ≡ before
one_less got v before now some len = ap (λ (o : Option ℕ). now + (if is_some o then 1 else 0)) (sym some) ∙ len
