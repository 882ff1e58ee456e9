-- Tests over lists of arms and of leaves.
use Rattle.std.proofs.Common.{◌≡◌, ◌==◌, ◌&&◌, ◌||◌, ◌+◌, ◌<◌, not, ℕ, Bool, true, false, List, [], ◌∷◌, length, drop, get_or, Option, Some, None, if◌then◌else◌, refl, sym, ◌∙◌, ap, subst}
use Rattle.std.specs.List.{list_all, list_any}
use Rattle.std.proofs.lemmas.Bool.{true≢false}
use Rattle.std.proofs.lemmas.List.{at_drop_more}
use Rattle.draid_machine.specs.declared.names.ArmName.{ArmName}
use Rattle.draid_machine.specs.Names.{name_eq, has_name, has_number}
use Rattle.draid_machine.specs.Arms.{passes}
use Rattle.draid_machine.proofs.Small.{name_true, name_refl, both_true, true_left, true_right, is_equal, equal}

-- ---- a test over what is left of a list, one step on and at the end
pub next_all : {A : Type 0} (p : A → Bool) (xs : List A) (k : ℕ) (d : A) → k < length xs → p (get_or xs k d) ≡ true → list_all p (drop k xs) ≡ list_all p (drop (k + 1) xs)
next_all p xs k d low is = at_drop_more (list_all p) xs k d low ∙ ap (λ b. b && list_all p (drop (k + 1) xs)) is

pub stop_all : {A : Type 0} (p : A → Bool) (xs : List A) (k : ℕ) (d : A) → k < length xs → p (get_or xs k d) ≡ false → list_all p (drop k xs) ≡ false
stop_all p xs k d low is = at_drop_more (list_all p) xs k d low ∙ ap (λ b. b && list_all p (drop (k + 1) xs)) is

pub next_any : {A : Type 0} (p : A → Bool) (xs : List A) (k : ℕ) (d : A) → k < length xs → p (get_or xs k d) ≡ false → list_any p (drop k xs) ≡ list_any p (drop (k + 1) xs)
next_any p xs k d low is = at_drop_more (list_any p) xs k d low ∙ ap (λ b. b || list_any p (drop (k + 1) xs)) is

pub found_any : {A : Type 0} (p : A → Bool) (xs : List A) (k : ℕ) (d : A) → k < length xs → p (get_or xs k d) ≡ true → list_any p (drop k xs) ≡ true
found_any p xs k d low is = at_drop_more (list_any p) xs k d low ∙ ap (λ b. b || list_any p (drop (k + 1) xs)) is

or_assoc : (a b c : Bool) → ((a || b) || c) ≡ (a || (b || c))
or_assoc true b c = refl
or_assoc false b c = refl

-- one more of those for which something joins a set
pub joins_any : {A : Type 0} (p : A → Bool) (xs : List A) (k : ℕ) (d : A) (was now : Bool) → k < length xs → now ≡ (was || p (get_or xs k d)) → (now || list_any p (drop (k + 1) xs)) ≡ (was || list_any p (drop k xs))
joins_any p xs k d was now low is =
    ap (λ b. b || list_any p (drop (k + 1) xs)) is
    ∙ or_assoc was (p (get_or xs k d)) (list_any p (drop (k + 1) xs))
    ∙ ap (λ b. was || b) (sym (at_drop_more (list_any p) xs k d low))

-- ---- what a test over a list says of its members
pub all_names : (p : ArmName → Bool) (ns : List ArmName) → list_all p ns ≡ true → (n : ArmName) → has_name ns n ≡ true → p n ≡ true
all_names p [] all n has = absurd (true≢false (sym has))
all_names p (x ∷ xs) all n has = by (name_eq x n) refl has (λ rest. all_names p xs (both_true (p x) (list_all p xs) all).1 n rest)
  where
    by : (b : Bool) → name_eq x n ≡ b → (b || has_name xs n) ≡ true → (has_name xs n ≡ true → p n ≡ true) → p n ≡ true
    by true at has more = subst (λ y. p y ≡ true) (name_true x n at) (both_true (p x) (list_all p xs) all).0
    by false at has more = more has

pub not_all_names : (p : ArmName → Bool) (ns : List ArmName) → list_all p ns ≡ false → (n : ArmName) × (has_name ns n ≡ true) × (p n ≡ false)
not_all_names p [] not_all = absurd (true≢false not_all)
not_all_names p (x ∷ xs) not_all = by (p x) refl not_all (λ rest. not_all_names p xs rest)
  where
    by : (b : Bool) → p x ≡ b → (b && list_all p xs) ≡ false → (list_all p xs ≡ false → (n : ArmName) × (has_name xs n ≡ true) × (p n ≡ false))
        → (n : ArmName) × (has_name (x ∷ xs) n ≡ true) × (p n ≡ false)
    by true is e more = let z = more e in (z.0, true_right (name_eq x z.0) (has_name xs z.0) z.1, z.2)
    by false is e more = (x, true_left (name_eq x x) (has_name xs x) (name_refl x), is)

pub any_of_names : (p : ArmName → Bool) (ns : List ArmName) → list_any p ns ≡ true → (n : ArmName) × (has_name ns n ≡ true) × (p n ≡ true)
any_of_names p [] any = absurd (true≢false (sym any))
any_of_names p (x ∷ xs) any = by (p x) refl any (λ rest. any_of_names p xs rest)
  where
    by : (b : Bool) → p x ≡ b → (b || list_any p xs) ≡ true → (list_any p xs ≡ true → (n : ArmName) × (has_name xs n ≡ true) × (p n ≡ true))
        → (n : ArmName) × (has_name (x ∷ xs) n ≡ true) × (p n ≡ true)
    by true is e more = (x, true_left (name_eq x x) (has_name xs x) (name_refl x), is)
    by false is e more = let z = more e in (z.0, true_right (name_eq x z.0) (has_name xs z.0) z.1, z.2)

pub name_passes : (p : ArmName → Bool) (ns : List ArmName) (n : ArmName) → has_name ns n ≡ true → p n ≡ true → list_any p ns ≡ true
name_passes p [] n has is = absurd (true≢false (sym has))
name_passes p (x ∷ xs) n has is = by (name_eq x n) refl has (λ rest. name_passes p xs n rest is)
  where
    by : (b : Bool) → name_eq x n ≡ b → (b || has_name xs n) ≡ true → (has_name xs n ≡ true → list_any p xs ≡ true) → (p x || list_any p xs) ≡ true
    by true at has more = true_left (p x) (list_any p xs) (subst (λ y. p y ≡ true) (sym (name_true x n at)) is)
    by false at has more = true_right (p x) (list_any p xs) (more has)

pub all_numbers : (p : ℕ → Bool) (xs : List ℕ) → list_all p xs ≡ true → (x : ℕ) → has_number xs x ≡ true → p x ≡ true
all_numbers p [] all x has = absurd (true≢false (sym has))
all_numbers p (y ∷ ys) all x has = by (y == x) refl has (λ rest. all_numbers p ys (both_true (p y) (list_all p ys) all).1 x rest)
  where
    by : (b : Bool) → (y == x) ≡ b → (b || has_number ys x) ≡ true → (has_number ys x ≡ true → p x ≡ true) → p x ≡ true
    by true at has more = subst (λ z. p z ≡ true) (is_equal y x at) (both_true (p y) (list_all p ys) all).0
    by false at has more = more has

pub not_all_numbers : (p : ℕ → Bool) (xs : List ℕ) → list_all p xs ≡ false → (x : ℕ) × (has_number xs x ≡ true) × (p x ≡ false)
not_all_numbers p [] not_all = absurd (true≢false not_all)
not_all_numbers p (y ∷ ys) not_all = by (p y) refl not_all (λ rest. not_all_numbers p ys rest)
  where
    by : (b : Bool) → p y ≡ b → (b && list_all p ys) ≡ false → (list_all p ys ≡ false → (x : ℕ) × (has_number ys x ≡ true) × (p x ≡ false))
        → (x : ℕ) × (has_number (y ∷ ys) x ≡ true) × (p x ≡ false)
    by true is e more = let z = more e in (z.0, true_right (y == z.0) (has_number ys z.0) z.1, z.2)
    by false is e more = (y, true_left (y == y) (has_number ys y) (equal y y refl), is)

pub lies_some : (o : Option ℕ) (leaf : ℕ) → passes o (λ m. m == leaf) ≡ true → o ≡ Some leaf
lies_some None leaf e = absurd (true≢false (sym e))
lies_some (Some m) leaf e = ap (λ (x : ℕ). Some x) (is_equal m leaf e)

pub some_lies : (o : Option ℕ) (leaf : ℕ) → o ≡ Some leaf → passes o (λ m. m == leaf) ≡ true
some_lies o leaf e = ap (λ x. passes x (λ m. m == leaf)) e ∙ equal leaf leaf refl

pub right_true : (a b : Bool) → (if a then b else not b) ≡ true → b ≡ a
right_true true true e = refl
right_true true false e = e
right_true false true e = absurd (true≢false (sym e))
right_true false false e = refl

pub right_false : (a b : Bool) → (if a then b else not b) ≡ false → b ≡ a → ⊥
right_false true b e is = true≢false (sym is ∙ e)
right_false false b e is = true≢false (sym (ap not is) ∙ e)
