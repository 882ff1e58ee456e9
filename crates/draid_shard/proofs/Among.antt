-- What a list has, and what a filter leaves of it.
use Rattle.std.proofs.Common.{◌≡◌, ◌⊎◌, ◌<◌, ◌∙◌, ℕ, zero, suc, Bool, true, false, List, [], ◌∷◌, arith, refl, sym, ap, subst, inl, inr, cond, length}
use Rattle.std.specs.Prelude.{Contains, filter, slice_index_or}
use Rattle.std.specs.List.{list_any}
use Rattle.draid_machine.proofs.Small.{either_true, true_left, true_right}

pub has_behind : {X : Type 0} (y : X) (xs : List X) (x : X) → Contains xs x → Contains (y ∷ xs) x
has_behind y xs x c = (suc c.0, (let less = c.1 in omega (arith, less)), c.2)

pub has_first : {X : Type 0} (y : X) (xs : List X) (x : X) → y ≡ x → Contains (y ∷ xs) x
has_first y xs x same = (zero, omega arith, same)

cases_at : {X : Type 0} (y : X) (xs : List X) (x : X) (k : ℕ) → k < length (y ∷ xs) → slice_index_or (y ∷ xs) k x ≡ x → (y ≡ x) ⊎ Contains xs x
cases_at y xs x zero less same = inl same
cases_at y xs x (suc k) less same = inr (k, omega (arith, less), same)

pub has_cases : {X : Type 0} (y : X) (xs : List X) (x : X) → Contains (y ∷ xs) x → (y ≡ x) ⊎ Contains xs x
has_cases y xs x c = cases_at y xs x c.0 c.1 c.2

pub has_nothing : {X : Type 0} (x : X) → Contains [] x → ⊥
has_nothing x c = let less = c.1 in omega (arith, less)

-- what passes is kept, and what is kept was there and passes
pub kept_among : {X : Type 0} (p : X → Bool) (xs : List X) (x : X) → Contains xs x → p x ≡ true → Contains (filter p xs) x
kept_among p [] x among is = absurd (has_nothing x among)
kept_among p (y ∷ xs) x among is = elim (has_cases y xs x among) [
  | inl same ↦ subst (λ b. Contains (cond b (y ∷ filter p xs) (filter p xs)) x) (sym (ap p same ∙ is)) (has_first y (filter p xs) x same)
  | inr behind ↦ by (p y) (kept_among p xs x behind is)
] where
  by : (b : Bool) → Contains (filter p xs) x → Contains (cond b (y ∷ filter p xs) (filter p xs)) x
  by true c = has_behind y (filter p xs) x c
  by false c = c

pub was_among : {X : Type 0} (p : X → Bool) (xs : List X) (x : X) → Contains (filter p xs) x → Contains xs x × (p x ≡ true)
was_among p [] x among = absurd (has_nothing x among)
was_among p (y ∷ xs) x among = by (λ c. was_among p xs x c) (p y) refl among where
  behind : Contains xs x × (p x ≡ true) → Contains (y ∷ xs) x × (p x ≡ true)
  behind z = (has_behind y xs x z.0, z.1)

  by : (Contains (filter p xs) x → Contains xs x × (p x ≡ true)) → (b : Bool) → p y ≡ b → Contains (cond b (y ∷ filter p xs) (filter p xs)) x → Contains (y ∷ xs) x × (p x ≡ true)
  by later true is c = elim (has_cases y (filter p xs) x c) [
    | inl same ↦ (has_first y xs x same, ap p (sym same) ∙ is)
    | inr rest ↦ behind (later rest)
  ]
  by later false is c = behind (later c)

-- some element passes
pub any_among : {X : Type 0} (p : X → Bool) (xs : List X) (x : X) → Contains xs x → p x ≡ true → list_any p xs ≡ true
any_among p [] x among is = absurd (has_nothing x among)
any_among p (y ∷ xs) x among is = elim (has_cases y xs x among) [
  | inl same ↦ true_left (p y) (list_any p xs) (ap p same ∙ is)
  | inr behind ↦ true_right (p y) (list_any p xs) (any_among p xs x behind is)
]

-- what passes among the kept ones is there
pub any_kept : {X : Type 0} (p keeps : X → Bool) (xs : List X) → list_any p (filter keeps xs) ≡ true → list_any p xs ≡ true
any_kept p keeps [] is = is
any_kept p keeps (y ∷ xs) is = by (λ any. any_kept p keeps xs any) (keeps y) is where
  by : (list_any p (filter keeps xs) ≡ true → list_any p xs ≡ true) → (b : Bool) → list_any p (cond b (y ∷ filter keeps xs) (filter keeps xs)) ≡ true → list_any p (y ∷ xs) ≡ true
  by later true any = elim (either_true (p y) (list_any p (filter keeps xs)) any) [
    | inl here ↦ true_left (p y) (list_any p xs) here
    | inr rest ↦ true_right (p y) (list_any p xs) (later rest)
  ]
  by later false any = true_right (p y) (list_any p xs) (later any)
