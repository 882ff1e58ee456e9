-- What a book says of what befell the objects of a pool.
use Rattle.std.proofs.Common.{[], ◌≡◌, ◌∙◌, ◌==◌, ◌<◌, ◌≤◌, ℕ, Bool, true, false, nat_le, List, ◌∷◌, Option, Some, All, inl, inr, refl, sym, ap, arith, if◌then◌else◌, None, ◌⊎◌}
use Rattle.std.proofs.lemmas.Bool.Decides.{nat_tests}
use Rattle.std.proofs.lemmas.List.Elements.{All-cons, All-weaker}
use Rattle.draid_machine.proofs.Small.{absurd_test, bool_cases, equal, is_equal, is_low, none_some}
use Rattle.draid_objects.specs.Changes.{Change, group_of, kept, object_of, write_in, write_of, Write}
use Rattle.draid_objects.proofs.Finding.{changes_it, kept_all, kept_later, other_changes}
use Rattle.draid_session.specs.Opening.{HasObjects}
use Rattle.draid_session.specs.Book.{AreMany, Objects, Book, HaveBeen, WereSo, changed, with_object, synced}
use Rattle.draid_session.specs.Keeping.{SaysObjects, bytes_in}

pub not_low : (x y : ℕ) → y < x → nat_le x y ≡ false
not_low x y less = elim (bool_cases (nat_le x y)) [ inl e ↦ (let a = is_low x y e in absurd (omega (arith, a, less))) | inr e ↦ e ]

have_more : (b : Book) (object : ℕ) (bytes : Option (List ℕ)) (objects : Objects) → HaveBeen b objects → HaveBeen (changed object bytes b) objects
have_more b object bytes objects (inl e) = inl e
have_more b object bytes objects (inr h) = inr (inr h)

were_same : (since : List Objects) (objects others : Objects) → ((o : ℕ) → objects o ≡ others o) → WereSo since objects → WereSo since others
were_same [] objects others same were = were
were_same (once ∷ more) objects others same (inl is) = inl (λ o. sym (same o) ∙ is o)
were_same (once ∷ more) objects others same (inr were) = inr (were_same more objects others same were)

-- the same objects
pub have_same : (b : Book) (objects others : Objects) → ((o : ℕ) → objects o ≡ others o) → HaveBeen b objects → HaveBeen b others
have_same b objects others same (inl is) = inl (λ o. sym (same o) ∙ is o)
have_same b objects others same (inr were) = inr (were_same b.since objects others same were)

-- a change of a group that is at least that of all before
pub tells_change : (committed : ℕ) (c : Change) (cs : List Change) (b : Book) → committed < group_of c → All (λ d. group_of d ≤ group_of c) cs → SaysObjects committed cs b
    → SaysObjects committed (c ∷ cs) (changed (object_of c) (bytes_in (write_in (Some c))) b)
tells_change committed c cs b later last t = record { now = now; keeps = kept_; had = had }
  where
    now : (o : ℕ) → with_object (object_of c) (bytes_in (write_in (Some c))) b.now o ≡ bytes_in (write_of (c ∷ cs) o)
    now o = by (object_of c == o) refl
      where
        by : (z : Bool) → (object_of c == o) ≡ z → with_object (object_of c) (bytes_in (write_in (Some c))) b.now o ≡ bytes_in (write_of (c ∷ cs) o)
        by true is = ap (λ z. if z then bytes_in (write_in (Some c)) else b.now o) is ∙ sym (ap bytes_in (changes_it c cs o is))
        by false is = ap (λ z. if z then bytes_in (write_in (Some c)) else b.now o) is ∙ (t.now o ∙ sym (ap bytes_in (other_changes c cs o is)))

    kept_ : b.group ≡ committed → (o : ℕ) → b.kept o ≡ bytes_in (kept committed (c ∷ cs) o)
    kept_ same o = t.keeps same o ∙ sym (ap bytes_in (kept_later committed c cs o (not_low (group_of c) committed later)))

    had : (group : ℕ) → committed ≤ group → HaveBeen (changed (object_of c) (bytes_in (write_in (Some c))) b) (λ o. bytes_in (kept group (c ∷ cs) o))
    had group from = by (nat_le (group_of c) group) refl
      where
        all : group_of c ≤ group → (o : ℕ) → kept group (c ∷ cs) o ≡ write_of (c ∷ cs) o
        all up o = kept_all group o (c ∷ cs) (All-cons (λ d. object_of d ≡ o → group_of d ≤ group) c cs (λ is. up)
            (All-weaker (λ d. group_of d ≤ group_of c) (λ d. object_of d ≡ o → group_of d ≤ group) (λ d less is. omega (arith, less, up)) cs last))

        by : (x : Bool) → nat_le (group_of c) group ≡ x → HaveBeen (changed (object_of c) (bytes_in (write_in (Some c))) b) (λ o. bytes_in (kept group (c ∷ cs) o))
        by true up = inr (inl (λ o. ap bytes_in (all (is_low (group_of c) group up) o) ∙ sym (now o)))
        by false up = have_more b (object_of c) (bytes_in (write_in (Some c))) (λ o. bytes_in (kept group (c ∷ cs) o))
            (have_same b (λ o. bytes_in (kept group cs o)) (λ o. bytes_in (kept group (c ∷ cs) o)) (λ o. sym (ap bytes_in (kept_later group c cs o up))) (t.had group from))

-- where nothing befell the objects in later groups, a group keeps them as they are
pub tells_synced : (old group : ℕ) (cs : List Change) (b : Book) → SaysObjects old cs b → All (λ c. group_of c ≤ group) cs → SaysObjects group cs (synced group b)
tells_synced old group cs b t all = record {
  now = t.now;
  keeps = λ same o. keeps group o (omega arith);
  had = λ later from. inl (λ o. sym (keeps later o from));
}
  where
    keeps : (later o : ℕ) → group ≤ later → b.now o ≡ bytes_in (kept later cs o)
    keeps later o from = t.now o ∙ sym (ap bytes_in (kept_all later o cs (All-weaker (λ c. group_of c ≤ group) (λ c. object_of c ≡ o → group_of c ≤ later) (λ c less is. omega (arith, less, from)) cs all)))

-- a later group is committed, which isn't the book's
pub tells_later : (old new : ℕ) (cs : List Change) (b : Book) → old ≤ new → (b.group ≡ new → ⊥) → SaysObjects old cs b → SaysObjects new cs b
tells_later old new cs b less other t = record { now = t.now; keeps = λ same. absurd (other same); had = λ group from. t.had group (omega (arith, less, from)) }

pub high : (x y : ℕ) → nat_le x y ≡ false → y < x
high x y is = grind (arith, nat_tests, is)

-- so many objects have bytes
pub are_many : (changes : List Change) (many : ℕ) (objects : Objects) → ((o : ℕ) → objects o ≡ bytes_in (write_of changes o)) → HasObjects changes many → AreMany objects many
are_many changes many objects same h = record {
  names = h.names;
  ascending = h.ascending;
  each = λ o. (
    (λ has none. (h.each o).0 has (by o none)),
    (λ some. (h.each o).1 (λ none. some (same o ∙ ap bytes_in none))),
  );
  many_is = h.many;
}
  where
    by : (o : ℕ) → objects o ≡ None → write_of changes o ≡ None
    by o none = case (write_of changes o) refl
      where
        case : (w : Option Write) → write_of changes o ≡ w → write_of changes o ≡ None
        case None is = is
        case (Some w) is = absurd (none_some (bytes_in (write_of changes o)) w.bytes (sym (same o) ∙ none) (ap bytes_in is))

pub same_or_low : (m n : ℕ) → m ≤ n → (m ≡ n) ⊎ (m < n)
same_or_low m n low = elim (bool_cases (m == n)) [
  | inl is ↦ inl (is_equal m n is)
  | inr is ↦ (let not : m ≡ n → ⊥ = λ at. absurd_test (m == n) (equal m n at) is in inr (omega (arith, low, not)))
]
