-- What some threads' own marks say of a checkpoint, and what all marks say.
use Rattle.std.proofs.Common.{◌≡◌, ◌≤◌, ◌<◌, ◌∙◌, ◌||◌, [], ◌∷◌, inl, inr, ℕ, Bool, true, false, nat_le, List, Option, Some, None, All, cond, filter, refl, sym, ap, subst, arith}
use Rattle.std.specs.Prelude.{⊤, option_map}
use Rattle.std.proofs.lemmas.List.Elements.{All-cons, All-filter, All-head, All-nil, All-tail}
use Rattle.draid_machine.specs.declared.names.Key.{Key}
use Rattle.draid_machine.specs.Names.{key_eq}
use Rattle.draid_machine.proofs.Small.{absurd_test, bool_cases, key_true, none_some}
use Rattle.draid_objects.specs.Marks.{Check, Dropped, GivenUp, Made, Mark, MarksNeverFall, check_at, check_by, drops_in, is_dropped, mark_group, marks_upto}
use Rattle.draid_objects.specs.Stores.{AreMarkedUpto, IsBehindChecks}
use Rattle.draid_pool.specs.Threads.{is_own_mark}

-- two tests commute
pub filters_commute : {A : Type 0} (p q : A → Bool) (xs : List A) → filter p (filter q xs) ≡ filter q (filter p xs)
filters_commute p q [] = refl
filters_commute p q (x ∷ xs) = by (p x) (q x) refl refl (filters_commute p q xs)
  where
    by : (b c : Bool) → p x ≡ b → q x ≡ c → filter p (filter q xs) ≡ filter q (filter p xs)
        → filter p (cond c (x ∷ filter q xs) (filter q xs)) ≡ filter q (cond b (x ∷ filter p xs) (filter p xs))
    by true true px qx rest = ap (λ b. cond b (x ∷ filter p (filter q xs)) (filter p (filter q xs))) px ∙ ap (λ ys. x ∷ ys) rest
        ∙ sym (ap (λ b. cond b (x ∷ filter q (filter p xs)) (filter q (filter p xs))) qx)
    by true false px qx rest = rest ∙ sym (ap (λ b. cond b (x ∷ filter q (filter p xs)) (filter q (filter p xs))) qx)
    by false true px qx rest = ap (λ b. cond b (x ∷ filter p (filter q xs)) (filter p (filter q xs))) px ∙ rest
    by false false px qx rest = rest

-- ---- what two say of one object

-- two checkpoints are of the same group, and keep the same blocks of an object alone; or there is none
abbrev pub SameCheck : ℕ → Option Check → Option Check → Type 0
SameCheck o None None = ⊤
SameCheck o (Some c) (Some d) = (c.group ≡ d.group) × ((k : Key) → k.object ≡ o → c.dropped k ≡ d.dropped k)
SameCheck o c d = ⊥

-- a checkpoint keeps no block of an object alone
abbrev pub Undropped : ℕ → Option Check → Type 0
Undropped o None = ⊤
Undropped o (Some c) = (k : Key) → k.object ≡ o → c.dropped k ≡ false

pub same_dropped : (o : ℕ) (a b : Option Check) (k : Key) → SameCheck o a b → k.object ≡ o → is_dropped a k ≡ is_dropped b k
same_dropped o None None k same of = refl
same_dropped o (Some c) (Some d) k same of = same.1 k of
same_dropped o None (Some d) k same of = absurd same
same_dropped o (Some c) None k same of = absurd same

-- one is there where the other is
pub same_check : (o : ℕ) (a b : Option Check) (d : Check) → SameCheck o a b → b ≡ Some d → (c : Check) × (a ≡ Some c) × (c.group ≡ d.group) × ((k : Key) → k.object ≡ o → c.dropped k ≡ d.dropped k)
same_check o None None d same is = absurd (none_some None d refl is)
same_check o (Some c) (Some e) d same is =
    let here : e ≡ d = cc in
    (c, refl, subst (λ (z : Check). c.group ≡ z.group) here same.0, subst (λ (z : Check). (k : Key) → k.object ≡ o → c.dropped k ≡ z.dropped k) here same.1)
same_check o None (Some e) d same is = absurd same
same_check o (Some c) None d same is = absurd same

pub same_back : (o : ℕ) (a b : Option Check) → SameCheck o a b → SameCheck o b a
same_back o None None same = tt
same_back o (Some c) (Some d) same = (sym same.0, λ k of. sym (same.1 k of))
same_back o None (Some d) same = absurd same
same_back o (Some c) None same = absurd same

pub same_then : (o : ℕ) (a b c : Option Check) → SameCheck o a b → SameCheck o b c → SameCheck o a c
same_then o None None None one two = tt
same_then o (Some a) (Some b) (Some c) one two = (one.0 ∙ two.0, λ k of. one.1 k of ∙ two.1 k of)
same_then o None (Some b) c one two = absurd one
same_then o (Some a) None c one two = absurd one
same_then o None None (Some c) one two = absurd two
same_then o (Some a) (Some b) None one two = absurd two

both_drop : (o : ℕ) (key : Key) (a b : Option Check) → SameCheck o a b → SameCheck o (option_map (drops_in key) a) (option_map (drops_in key) b)
both_drop o key None None same = tt
both_drop o key (Some c) (Some d) same = (same.0, λ k of. ap (λ t. key_eq key k || t) (same.1 k of))
both_drop o key None (Some d) same = absurd same
both_drop o key (Some c) None same = absurd same

-- another object's block is another one
other_key : (o : ℕ) (key k : Key) → (key.object ≡ o → ⊥) → k.object ≡ o → key_eq key k ≡ false
other_key o key k other of = elim (bool_cases (key_eq key k)) [
  | inl same ↦ absurd (other (ap (λ (j : Key). j.object) (key_true key k same) ∙ of))
  | inr not ↦ not
]

one_drops : (o : ℕ) (key : Key) (a b : Option Check) → (key.object ≡ o → ⊥) → SameCheck o a b → SameCheck o a (option_map (drops_in key) b)
one_drops o key None None other same = tt
one_drops o key (Some c) (Some d) other same = (same.0, λ k of. same.1 k of ∙ sym (ap (λ t. t || d.dropped k) (other_key o key k other of)))
one_drops o key None (Some d) other same = absurd same
one_drops o key (Some c) None other same = absurd same

undropped_on : (o : ℕ) (key : Key) (a : Option Check) → (key.object ≡ o → ⊥) → Undropped o a → Undropped o (option_map (drops_in key) a)
undropped_on o key None other none = tt
undropped_on o key (Some c) other none = λ k of. ap (λ t. t || c.dropped k) (other_key o key k other of) ∙ none k of

-- ---- a thread's own marks

module _ (owns : ℕ → Bool) where
  abbrev own_marks : List Mark → List Mark
  own_marks marks = filter (is_own_mark owns) marks

  -- of an object of its own they say what all say
  pub own_check : (o : ℕ) → owns o ≡ true → (marks : List Mark) → SameCheck o (check_by (own_marks marks)) (check_by marks)
  own_check o mine [] = tt
  own_check o mine (Made group ∷ marks) = (refl, λ k of. refl)
  own_check o mine (GivenUp group ∷ marks) = tt
  own_check o mine (Dropped key group ∷ marks) = by (owns key.object) refl (own_check o mine marks)
    where
      by : (b : Bool) → owns key.object ≡ b → SameCheck o (check_by (own_marks marks)) (check_by marks)
          → SameCheck o (check_by (cond b (Dropped key group ∷ own_marks marks) (own_marks marks))) (check_by (Dropped key group ∷ marks))
      by true is rest = both_drop o key (check_by (own_marks marks)) (check_by marks) rest
      by false is rest = one_drops o key (check_by (own_marks marks)) (check_by marks) (λ same. absurd_test (owns o) mine (ap owns (sym same) ∙ is)) rest

  -- and of others they say nothing
  pub own_undropped : (o : ℕ) → owns o ≡ false → (marks : List Mark) → Undropped o (check_by (own_marks marks))
  own_undropped o other [] = tt
  own_undropped o other (Made group ∷ marks) = λ k of. refl
  own_undropped o other (GivenUp group ∷ marks) = tt
  own_undropped o other (Dropped key group ∷ marks) = by (owns key.object) refl (own_undropped o other marks)
    where
      by : (b : Bool) → owns key.object ≡ b → Undropped o (check_by (own_marks marks)) → Undropped o (check_by (cond b (Dropped key group ∷ own_marks marks) (own_marks marks)))
      by true is rest = undropped_on o key (check_by (own_marks marks)) (λ same. absurd_test (owns o) (ap owns (sym same) ∙ is) other) rest
      by false is rest = rest

  upto_own : (t : ℕ) (marks : List Mark) → marks_upto t (own_marks marks) ≡ own_marks (marks_upto t marks)
  upto_own t marks = filters_commute (λ m. nat_le (mark_group m) t) (is_own_mark owns) marks

  pub own_check_at : (o : ℕ) → owns o ≡ true → (t : ℕ) (marks : List Mark) → SameCheck o (check_at t (own_marks marks)) (check_at t marks)
  own_check_at o mine t marks = subst (λ ms. SameCheck o (check_by ms) (check_at t marks)) (sym (upto_own t marks)) (own_check o mine (marks_upto t marks))

  pub own_undropped_at : (o : ℕ) → owns o ≡ false → (t : ℕ) (marks : List Mark) → Undropped o (check_at t (own_marks marks))
  own_undropped_at o other t marks = subst (λ ms. Undropped o (check_by ms)) (sym (upto_own t marks)) (own_undropped o other (marks_upto t marks))

  -- ---- groups

  abbrev group_in : Option Check → Option ℕ
  group_in None = None
  group_in (Some check) = Some check.group

  drops_group : (key : Key) (o : Option Check) → group_in (option_map (drops_in key) o) ≡ group_in o
  drops_group key None = refl
  drops_group key (Some check) = refl

  own_group : (marks : List Mark) → group_in (check_by (own_marks marks)) ≡ group_in (check_by marks)
  own_group [] = refl
  own_group (Made group ∷ marks) = refl
  own_group (GivenUp group ∷ marks) = refl
  own_group (Dropped key group ∷ marks) = by (own_group marks) (owns key.object)
    where
      by : group_in (check_by (own_marks marks)) ≡ group_in (check_by marks) → (b : Bool) → group_in (check_by (cond b (Dropped key group ∷ own_marks marks) (own_marks marks))) ≡ group_in (check_by (Dropped key group ∷ marks))
      by rest true = drops_group key (check_by (own_marks marks)) ∙ (rest ∙ sym (drops_group key (check_by marks)))
      by rest false = rest ∙ sym (drops_group key (check_by marks))

  group_at : (t : ℕ) (marks : List Mark) → group_in (check_at t (own_marks marks)) ≡ group_in (check_at t marks)
  group_at t marks = ap (λ ms. group_in (check_by ms)) (upto_own t marks) ∙ own_group (marks_upto t marks)

  has_group : (o : Option Check) (group : ℕ) → group_in o ≡ Some group → (check : Check) × (o ≡ Some check) × (check.group ≡ group)
  has_group None group is = absurd (none_some None group refl is)
  has_group (Some check) group is = (check, refl, cc)

  -- a group is behind the same ones
  pub behind_all : (committed group : ℕ) (marks : List Mark) → IsBehindChecks committed (own_marks marks) group → IsBehindChecks committed marks group
  behind_all committed group marks behind t check from is =
      let there = has_group (check_at t (own_marks marks)) check.group (group_at t marks ∙ ap group_in is) in
      let low = behind t there.0 from there.1 in
      let same = there.2 in
      omega (arith, low, same)

  pub behind_own : (committed group : ℕ) (marks : List Mark) → IsBehindChecks committed marks group → IsBehindChecks committed (own_marks marks) group
  behind_own committed group marks behind t check from is =
      let there = has_group (check_at t marks) check.group (sym (group_at t marks) ∙ ap group_in is) in
      let low = behind t there.0 from there.1 in
      let same = there.2 in
      omega (arith, low, same)

  pub marks_own : (marks : List Mark) → MarksNeverFall marks → MarksNeverFall (own_marks marks)
  marks_own [] falls = tt
  marks_own (m ∷ marks) falls = by (is_own_mark owns m) (marks_own marks falls.1)
    where
      by : (b : Bool) → MarksNeverFall (own_marks marks) → MarksNeverFall (cond b (m ∷ own_marks marks) (own_marks marks))
      by true rest = (All-filter (is_own_mark owns) (λ n. mark_group n ≤ mark_group m) marks falls.0, rest)
      by false rest = rest

within_more : (owns some : ℕ → Bool) → ((n : ℕ) → some n ≡ true → owns n ≡ true) → (m : Mark) → is_own_mark some m ≡ true → is_own_mark owns m ≡ true
within_more owns some inside (Made group) is = refl
within_more owns some inside (Dropped key group) is = inside key.object is
within_more owns some inside (GivenUp group) is = refl

-- who owns fewer has fewer marks
pub fewer_marks : (owns some : ℕ → Bool) → ((n : ℕ) → some n ≡ true → owns n ≡ true) → (P : Mark → Type 0) (marks : List Mark) → All P (filter (is_own_mark owns) marks) → All P (filter (is_own_mark some) marks)
fewer_marks owns some inside P [] all = All-nil P
fewer_marks owns some inside P (m ∷ marks) all = by (is_own_mark owns m) (is_own_mark some m) (λ is. within_more owns some inside m is) refl refl all (fewer_marks owns some inside P marks)
  where
    by : (a b : Bool) → (b ≡ true → a ≡ true) → is_own_mark owns m ≡ a → is_own_mark some m ≡ b → All P (cond a (m ∷ filter (is_own_mark owns) marks) (filter (is_own_mark owns) marks))
        → (All P (filter (is_own_mark owns) marks) → All P (filter (is_own_mark some) marks)) → All P (cond b (m ∷ filter (is_own_mark some) marks) (filter (is_own_mark some) marks))
    by true true in_it is_a is_b all rest = All-cons P m (filter (is_own_mark some) marks) (All-head P m (filter (is_own_mark owns) marks) all) (rest (All-tail P m (filter (is_own_mark owns) marks) all))
    by true false in_it is_a is_b all rest = rest (All-tail P m (filter (is_own_mark owns) marks) all)
    by false true in_it is_a is_b all rest = absurd_test false (in_it refl) refl
    by false false in_it is_a is_b all rest = rest all

pub fewer_never_fall : (owns some : ℕ → Bool) → ((n : ℕ) → some n ≡ true → owns n ≡ true) → (marks : List Mark) → MarksNeverFall (filter (is_own_mark owns) marks) → MarksNeverFall (filter (is_own_mark some) marks)
fewer_never_fall owns some inside [] falls = tt
fewer_never_fall owns some inside (m ∷ marks) falls = by (is_own_mark owns m) (is_own_mark some m) (λ is. within_more owns some inside m is) refl refl falls (fewer_never_fall owns some inside marks)
  where
    by : (a b : Bool) → (b ≡ true → a ≡ true) → is_own_mark owns m ≡ a → is_own_mark some m ≡ b → MarksNeverFall (cond a (m ∷ filter (is_own_mark owns) marks) (filter (is_own_mark owns) marks))
        → (MarksNeverFall (filter (is_own_mark owns) marks) → MarksNeverFall (filter (is_own_mark some) marks)) → MarksNeverFall (cond b (m ∷ filter (is_own_mark some) marks) (filter (is_own_mark some) marks))
    by true true in_it is_a is_b falls rest = (fewer_marks owns some inside (λ n. mark_group n ≤ mark_group m) marks falls.0, rest falls.1)
    by true false in_it is_a is_b falls rest = rest falls.1
    by false true in_it is_a is_b falls rest = absurd_test false (in_it refl) refl
    by false false in_it is_a is_b falls rest = rest falls
