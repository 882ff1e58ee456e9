-- A pool that a shelf tells: its states are reached, and it has a book.
use Rattle.std.proofs.Common.{◌≡◌, ◌∙◌, ◌==◌, ◌≤◌, inl, inr, refl, sym, ap, ℕ, zero, suc, Bool, true, false, nat_le, List, [], ◌∷◌, Option, Some, None, arith, max}
use Rattle.std.specs.Prelude.{IsSomeAnd, is_some}
use Rattle.std.proofs.lemmas.Bool.{cases_eq}
use Rattle.std.proofs.lemmas.Bool.Decides.{nat_tests}
use Rattle.draid_layouts.proofs.Layouts.{layout_is}
use Rattle.draid_objects.specs.Changes.{Change, group_of, kept, object_of, write_of}
use Rattle.draid_objects.proofs.Finding.{kept_other, kept_own}
use Rattle.draid_shelf.specs.Kits.{Held, OnHeld}
use Rattle.draid_session.specs.Book.{Book, Objects, WereSo}
use Rattle.draid_session.specs.Keeping.{AreInside, HasMetaslab, KeepsShut, bytes_in}
use Rattle.draid_session.specs.Present.{AreReached}
use Rattle.draid_session.specs.State.{State}
use Rattle.draid_session.proofs.Shelved.{low_there, there_low}
use Rattle.draid_pool.specs.Returning.{HoldsPool, RestsOn}

-- ---- histories

some_and : {T Q : Type 0} (o : Option T) (P : T → Type 0) → IsSomeAnd o P → ((t : T) → P t → Q) → Q
some_and None P is step = absurd is
some_and (Some t) P is step = step t is

held_reached : (x : State) (crash : Bool) (held : Held) → HoldsPool x crash held → AreReached x
held_reached x crash held it = record {
  layout = λ m. layout_is x.geometry x.perms m it.rests.layout;
  each = λ m y there. some_and (held.kits m) (RestsOn x m (it.pieces m) y) (it.rests.kits m y there) (λ kit rests. rests.reached);
}

pub shut_reached : (x : State) (crash : Bool) (o : Option Held) → is_some o ≡ true → OnHeld o (HoldsPool x crash) → AreReached x
shut_reached x crash None told it = absurd (cc told)
shut_reached x crash (Some held) told it = held_reached x crash held it

-- ---- books

-- the objects as a group keeps them, and as each group up to one does
abbrev pub as_kept : List Change → ℕ → Objects
as_kept cs group = λ o. bytes_in (kept group cs o)

abbrev pub all_kept : List Change → ℕ → List Objects
all_kept cs zero = as_kept cs 0 ∷ []
all_kept cs (suc n) = as_kept cs (suc n) ∷ all_kept cs n

-- the greatest group of a change
abbrev pub last_group : List Change → ℕ
last_group [] = 0
last_group (c ∷ cs) = max (group_of c) (last_group cs)

-- a group behind it keeps as much
kept_last : (cs : List Change) (n group o : ℕ) → last_group cs ≤ n → n ≤ group → kept group cs o ≡ kept n cs o
kept_last [] n group o low more = refl
kept_last (c ∷ cs) n group o low more = by (object_of c == o) refl (kept_last cs n group o (omega (arith, low)) more)
  where
    here : group_of c ≤ n
    here = omega (arith, low)

    there : group_of c ≤ group
    there = omega (arith, low, more)

    upto : (a b : ℕ) → a ≤ b → nat_le a b ≡ true
    upto a b h = grind (arith, nat_tests, h)

    by : (b : Bool) → (object_of c == o) ≡ b → kept group cs o ≡ kept n cs o → kept group (c ∷ cs) o ≡ kept n (c ∷ cs) o
    by true is rest = kept_own group c cs o (upto (group_of c) group there) is ∙ sym (kept_own n c cs o (upto (group_of c) n here) is)
    by false is rest = kept_other group c cs o is ∙ (rest ∙ sym (kept_other n c cs o is))

were_last : (cs : List Change) (n : ℕ) (objects : Objects) → ((o : ℕ) → objects o ≡ as_kept cs n o) → WereSo (all_kept cs n) objects
were_last cs zero objects are = inl are
were_last cs (suc n) objects are = inl are

were_upto : (cs : List Change) (n group : ℕ) → group ≤ n → WereSo (all_kept cs n) (as_kept cs group)
were_upto cs zero group low = inl (λ o. ap (λ g. bytes_in (kept g cs o)) (let is : group ≡ 0 = omega (arith, low) in is))
were_upto cs (suc n) group low = elim (cases_eq group (suc n)) [
  | inl same ↦ inl (λ o. ap (λ g. bytes_in (kept g cs o)) same)
  | inr other ↦ inr (were_upto cs n group (omega (arith, low, other)))
]

-- each group keeps the objects as one of these does
were : (cs : List Change) (group : ℕ) → WereSo (all_kept cs (last_group cs)) (as_kept cs group)
were cs group = by (nat_le group (last_group cs)) refl
  where
    by : (b : Bool) → nat_le group (last_group cs) ≡ b → WereSo (all_kept cs (last_group cs)) (as_kept cs group)
    by true is = were_upto cs (last_group cs) group (let low : group ≤ last_group cs = grind (arith, nat_tests, is) in low)
    by false is = were_last cs (last_group cs) (as_kept cs group)
        (λ o. ap bytes_in (kept_last cs (last_group cs) group o (omega arith) (let more : last_group cs ≤ group = grind (arith, nat_tests, is) in more)))

-- a book that has a pool's objects as its committed group keeps them, and as each group does
abbrev pub book_of : State → Book
book_of x = record {
  is_open = false;
  now = λ o. bytes_in (write_of x.store.changes o);
  group = x.committed;
  kept = λ o. bytes_in (kept x.committed x.store.changes o);
  since = all_kept x.store.changes (last_group x.store.changes);
  untold = 1;
}

held_keeps : (x : State) (crash : Bool) (held : Held) → x.told ≡ true → HoldsPool x crash held → KeepsShut x (book_of x)
held_keeps x crash held told it = record {
  is_shut = refl;
  keeps = λ same o. refl;
  had = λ group from. inr (were x.store.changes group);
  low = omega arith;
  few = omega arith;
  under = λ pending. omega arith;
  told = told;
  inside = inside;
  place = place;
}
  where
    inside : AreInside x
    inside k y there = (let low = there_low x.metaslabs k y there in let many = it.rests.many in omega (arith, low, many))

    place : HasMetaslab x
    place = (let some = it.rests.layout.geometry_is.props.some_metaslabs in let many = it.rests.many in low_there x.metaslabs 0 (omega (arith, some, many)))

pub shut_keeps : (x : State) (crash : Bool) (o : Option Held) → x.told ≡ true → is_some o ≡ true → OnHeld o (HoldsPool x crash) → KeepsShut x (book_of x)
shut_keeps x crash None told tells it = absurd (cc tells)
shut_keeps x crash (Some held) told tells it = held_keeps x crash held told it
