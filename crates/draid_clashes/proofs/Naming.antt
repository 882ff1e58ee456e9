-- The objects that lanes name, and those that two lanes do.
use Rattle.std.proofs.Common.{arith, rules, refl, sym, subst, ap, ◌≡◌, ◌∙◌, ◌+◌, ◌≤◌, ◌==◌, inl, inr, ℕ, zero, suc, Bool, true, false, List, [], ◌∷◌, Option, Some, None}
use Rattle.std.specs.Prelude.{All, Contains, IfNone, IfSome, slice_get}
use Rattle.std.specs.List.Sorted.{IsPermutation}
use Rattle.std.proofs.lemmas.Bool.Decides.{nat_tests}
use Rattle.std.proofs.lemmas.Bool.{cases_lt}
use Rattle.std.proofs.lemmas.List.Elements.{All-append, All-push, Contains-append_cases, Contains-append_left, Contains-append_right, Contains-push, Contains-push_cases}
use Rattle.std.proofs.lemmas.List.Sorted.{All-permutation, IsPermutation-sym}
use Rattle.draid_script.specs.Line.{Command}
use Rattle.draid_session.specs.Lanes.{Clashes, Names, objects_in}
use Rattle.draid_session.specs.Sections.{IsLeastClash, NoClash}
use Rattle.draid_clashes.specs.Named.{HasObject, IsLeastShared, IsShared, named_by, named_from, named_in}
use Rattle.draid_clashes.specs.declared.objects.Named.{Named}
use Rattle.draid_clashes.proofs.Sharing.{shared_moved}

abbrev naming : ℕ → Command → Named
naming lane command = record { lane = lane; first = (objects_in command).0; count = (objects_in command).1 }

none_in : (x : Named) → Contains [] x → ⊥
none_in x c = (let less = c.1 in omega (arith, less))

only_in : (x y : Named) → Contains (x ∷ []) y → x ≡ y
only_in x y c = elim (Contains-push_cases [] x y c) [ inl none ↦ absurd (none_in y none) | inr same ↦ same ]

-- ---- a command

by_some : (lane first count : ℕ) → 1 ≤ count → named_by lane first count ≡ record { lane = lane; first = first; count = count } ∷ []
by_some lane first count some = (let is : (count == 0) ≡ false = grind (arith, nat_tests, some) in rw is refl)

in_by : (lane first count : ℕ) → 1 ≤ count → Contains (named_by lane first count) (record { lane = lane; first = first; count = count })
in_by lane first count some = subst (λ (list : List Named). Contains list (record { lane = lane; first = first; count = count })) (sym (by_some lane first count some)) (Contains-push [] (record { lane = lane; first = first; count = count }))

of_by : (lane first count : ℕ) (x : Named) → Contains (named_by lane first count) x → (x ≡ record { lane = lane; first = first; count = count }) × (1 ≤ x.count)
of_by lane first count x c = by (count == 0) refl
  where
    by : (b : Bool) → (count == 0) ≡ b → (x ≡ record { lane = lane; first = first; count = count }) × (1 ≤ x.count)
    by true is = (let empty : named_by lane first count ≡ [] = rw is refl in absurd (none_in x (subst (λ (list : List Named). Contains list x) empty c)))
    by false is =
        let some : 1 ≤ count = grind (arith, nat_tests, is) in
        let same = only_in (record { lane = lane; first = first; count = count }) x (subst (λ (list : List Named). Contains list x) (by_some lane first count some) c) in
        (sym same, subst (λ (n : Named). 1 ≤ n.count) same some)

-- ---- a lane

in_lane : (lane : ℕ) (commands : List Command) (k : ℕ) (command : Command) → slice_get commands k ≡ Some command → 1 ≤ (objects_in command).1 → Contains (named_in lane commands) (naming lane command)
in_lane lane [] k command at some = absurd (cc at)
in_lane lane (c ∷ commands) zero command at some =
    let same : Some c ≡ Some command = at in
    let here : c ≡ command = cc same in
    subst (λ (d : Command). Contains (named_in lane (d ∷ commands)) (naming lane command)) (sym here)
    (Contains-append_left (named_by lane (objects_in command).0 (objects_in command).1) (named_in lane commands) (naming lane command) (in_by lane (objects_in command).0 (objects_in command).1 some))
in_lane lane (c ∷ commands) (suc k) command at some =
    Contains-append_right (named_by lane (objects_in c).0 (objects_in c).1) (named_in lane commands) (naming lane command) (in_lane lane commands k command at some)

record IsOfLane (lane : ℕ) (commands : List Command) (x : Named) : Type 0 where
  pub k : ℕ
  pub command : Command
  pub in_it : slice_get commands k ≡ Some command
  pub is : x ≡ naming lane command

of_lane : (lane : ℕ) (commands : List Command) (x : Named) → Contains (named_in lane commands) x → IsOfLane lane commands x
of_lane lane [] x c = absurd (none_in x c)
of_lane lane (command ∷ commands) x c = elim (Contains-append_cases (named_by lane (objects_in command).0 (objects_in command).1) (named_in lane commands) x c) [
  | inl here ↦ record { k = 0; command = command; in_it = refl; is = (of_by lane (objects_in command).0 (objects_in command).1 x here).0 }
  | inr later ↦ (let m = of_lane lane commands x later in record { k = suc m.k; command = m.command; in_it = m.in_it; is = m.is })
]

-- ---- all lanes

in_from : (from : ℕ) (lanes : List (List Command)) (i : ℕ) (lane : List Command) (k : ℕ) (command : Command) → slice_get lanes i ≡ Some lane → slice_get lane k ≡ Some command → 1 ≤ (objects_in command).1
    → Contains (named_from from lanes) (naming (from + i) command)
in_from from [] i lane k command there at some = absurd (cc there)
in_from from (l ∷ lanes) zero lane k command there at some =
    let same : Some l ≡ Some lane = there in
    let here : l ≡ lane = cc same in
    let number : from ≡ from + 0 = omega arith in
    Contains-append_left (named_in from l) (named_from (from + 1) lanes) (naming (from + 0) command)
    (subst (λ n. Contains (named_in from l) (naming n command)) number (in_lane from l k command (ap (λ ls. slice_get ls k) here ∙ at) some))
in_from from (l ∷ lanes) (suc i) lane k command there at some =
    let number : from + 1 + i ≡ from + suc i = omega arith in
    Contains-append_right (named_in from l) (named_from (from + 1) lanes) (naming (from + suc i) command)
    (subst (λ n. Contains (named_from (from + 1) lanes) (naming n command)) number (in_from (from + 1) lanes i lane k command there at some))

record IsOfLanes (from : ℕ) (lanes : List (List Command)) (x : Named) : Type 0 where
  pub i : ℕ
  pub lane : List Command
  pub there : slice_get lanes i ≡ Some lane
  pub of : IsOfLane (from + i) lane x

of_from : (from : ℕ) (lanes : List (List Command)) (x : Named) → Contains (named_from from lanes) x → IsOfLanes from lanes x
of_from from [] x c = absurd (none_in x c)
of_from from (l ∷ lanes) x c = elim (Contains-append_cases (named_in from l) (named_from (from + 1) lanes) x c) [
  | inl here ↦ (let number : from ≡ from + 0 = omega arith in record { i = 0; lane = l; there = refl; of = subst (λ n. IsOfLane n l x) number (of_lane from l x here) })
  | inr later ↦
      let m = of_from (from + 1) lanes x later in
      let number : from + 1 + m.i ≡ from + suc m.i = omega arith in
      record { i = suc m.i; lane = m.lane; there = m.there; of = subst (λ n. IsOfLane n m.lane x) number m.of }
]

-- each has one at least
some_in : (lane : ℕ) (commands : List Command) → All (λ (n : Named). 1 ≤ n.count) (named_in lane commands)
some_in lane [] = search rules
some_in lane (command ∷ commands) = All-append (λ (n : Named). 1 ≤ n.count) (named_by lane (objects_in command).0 (objects_in command).1) (named_in lane commands) (here (objects_in command).0 (objects_in command).1) (some_in lane commands)
  where
    here : (first count : ℕ) → All (λ (n : Named). 1 ≤ n.count) (named_by lane first count)
    here first count = by (count == 0) refl
      where
        by : (b : Bool) → (count == 0) ≡ b → All (λ (n : Named). 1 ≤ n.count) (named_by lane first count)
        by true is = rw is (search rules)
        by false is =
            let some : 1 ≤ count = grind (arith, nat_tests, is) in
            subst (λ (list : List Named). All (λ (n : Named). 1 ≤ n.count) list) (sym (by_some lane first count some)) (All-push (λ (n : Named). 1 ≤ n.count) [] (record { lane = lane; first = first; count = count }) (search rules) some)

some_from : (from : ℕ) (lanes : List (List Command)) → All (λ (n : Named). 1 ≤ n.count) (named_from from lanes)
some_from from [] = search rules
some_from from (lane ∷ lanes) = All-append (λ (n : Named). 1 ≤ n.count) (named_in from lane) (named_from (from + 1) lanes) (some_in from lane) (some_from (from + 1) lanes)

-- ---- two lanes

module _ (lanes : List (List Command)) where
  abbrev all : List Named
  all = named_from 0 lanes

  named_at : (i object : ℕ) (m : Names lanes i object) → Contains all (naming i m.command) × HasObject (naming i m.command) object
  named_at i object m =
      let low = m.from in
      let high = m.to in
      let number : 0 + i ≡ i = omega arith in
      (subst (λ n. Contains all (naming n m.command)) number (in_from 0 lanes i m.lane m.k m.command m.there m.in_it (omega (arith, low, high))), (low, high))

  clash_shared : (object : ℕ) → Clashes lanes object → IsShared all object
  clash_shared object clash =
      let a = named_at clash.i object clash.first in
      let b = named_at clash.j object clash.other in
      let less = clash.before in
      record {
        one = naming clash.i clash.first.command;
        other = naming clash.j clash.other.command;
        one_in = a.0;
        other_in = b.0;
        lanes = λ is. (let same : clash.i ≡ clash.j = is in omega (arith, less, same));
        one_has = a.1;
        other_has = b.1;
      }

  names_at : (x : Named) (object : ℕ) → Contains all x → HasObject x object → Names lanes x.lane object
  names_at x object c has =
      let m = of_from 0 lanes x c in
      let same = m.of.is in
      let number : 0 + m.i ≡ m.i = omega arith in
      let at : m.i ≡ x.lane = sym number ∙ sym (ap (λ (n : Named). n.lane) same) in
      let has_it : HasObject (naming (0 + m.i) m.of.command) object = subst (λ (n : Named). HasObject n object) same has in
      record {
        lane = m.lane;
        there = subst (λ i. slice_get lanes i ≡ Some m.lane) at m.there;
        k = m.of.k;
        command = m.of.command;
        in_it = m.of.in_it;
        from = has_it.0;
        to = has_it.1;
      }

  shared_clash : (object : ℕ) → IsShared all object → Clashes lanes object
  shared_clash object shared =
      let a = names_at shared.one object shared.one_in shared.one_has in
      let b = names_at shared.other object shared.other_in shared.other_has in
      elim (cases_lt shared.one.lane shared.other.lane) [
        | inl less ↦ record { i = shared.one.lane; j = shared.other.lane; before = less; first = a; other = b }
        | inr more ↦ (let lanes_differ = shared.lanes in record { i = shared.other.lane; j = shared.one.lane; before = omega (arith, more, lanes_differ); first = b; other = a })
      ]

  module _ (named sorted : List Named) (are : named ≡ named_from 0 lanes) (sorts : IsPermutation named sorted) where
    moved : IsPermutation all sorted
    moved = subst (λ (list : List Named). IsPermutation list sorted) are sorts

    pub some_sorted : All (λ (n : Named). 1 ≤ n.count) sorted
    some_sorted = All-permutation (λ (n : Named). 1 ≤ n.count) all sorted moved (some_from 0 lanes)

    -- what is found is the least clash
    pub found_least : (found : Option ℕ) → IfSome found (IsLeastShared sorted) → IfSome found (IsLeastClash lanes)
    found_least None least = tt
    found_least (Some object) least = (
      shared_clash object (shared_moved sorted all (IsPermutation-sym all sorted moved) object least.0),
      λ other clash. least.1 other (shared_moved all sorted moved other (clash_shared other clash)),
    )

    -- and where none is there is none
    pub found_none : (found : Option ℕ) → IfNone found ((object : ℕ) → IsShared sorted object → ⊥) → IfNone found (NoClash lanes)
    found_none None none = λ object clash. none object (shared_moved all sorted moved object (clash_shared object clash))
    found_none (Some object) none = tt
