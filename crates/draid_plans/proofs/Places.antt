-- The places of arms, and those that pass a test.
use Rattle.std.proofs.Common.{◌≡◌, ◌≢◌, ◌+◌, ◌<◌, ◌≤◌, ◌++◌, ◌∙◌, ℕ, zero, suc, Bool, true, false, List, [], ◌∷◌, arith, refl, sym, ap, subst, inl, inr, length, filter, cond}
use Rattle.std.proofs.lemmas.Bool.{cases_lt}
use Rattle.std.proofs.lemmas.List.{append-nil, append_assoc, length-append}
use Rattle.std.proofs.lemmas.List.Elements.{filter-append}
use Rattle.draid_names.specs.declared.arm.ArmAt.{ArmAt}
use Rattle.draid_slots.specs.Table.{SlotTable, arms_of}
use Rattle.draid_plans.specs.Targets.{places_below, places_in}

-- ---- a list that grows at its end
module _ {X : Type 0} (p : X → Bool) where
  pub cut_more : (xs : List X) (x : X) → p x ≡ false → filter p (xs ++ x ∷ []) ≡ filter p xs
  cut_more xs x fails = filter-append p xs (x ∷ []) ∙ ap (λ b. filter p xs ++ cond b (x ∷ []) []) fails ∙ append-nil (filter p xs)

  pub kept_more : (xs : List X) (x : X) → p x ≡ true → filter p (xs ++ x ∷ []) ≡ filter p xs ++ x ∷ []
  kept_more xs x passes = filter-append p xs (x ∷ []) ∙ ap (λ b. filter p xs ++ cond b (x ∷ []) []) passes

  pub filter_short : (xs : List X) → length (filter p xs) ≤ length xs
  filter_short [] = omega arith
  filter_short (x ∷ xs) = by (p x) (filter_short xs)
    where
      by : (b : Bool) → length (filter p xs) ≤ length xs → length (cond b (x ∷ filter p xs) (filter p xs)) ≤ length (x ∷ xs)
      by true short = omega (arith, short)
      by false short = omega (arith, short)

pub longer : {X : Type 0} (xs : List X) (x : X) → xs ++ x ∷ [] ≢ []
longer xs x none = let count = length-append xs (x ∷ []) in let zero_long : length (xs ++ x ∷ []) ≡ 0 = ap length none in absurd (omega (arith, count, zero_long))

pub grown : {X : Type 0} (xs ys : List X) → xs ≢ [] → xs ++ ys ≢ []
grown [] ys some none = some refl
grown (x ∷ xs) ys some none = let count : length (x ∷ (xs ++ ys)) ≡ 0 = ap length none in absurd (omega (arith, count))

next_is : (n : ℕ) → n + 1 ≡ suc n
next_is n = omega arith

-- ---- the arms of a slot
pub count_in : (slot n : ℕ) → length (places_in slot n) ≡ n
count_in slot zero = refl
count_in slot (suc n) = let before = count_in slot n in let more = length-append (places_in slot n) (record { slot = slot; arm = n } ∷ []) in omega (arith, before, more)

pub few_in : (p : ArmAt → Bool) (slot n : ℕ) → length (filter p (places_in slot n)) ≤ n
few_in p slot n = let short = filter_short p (places_in slot n) in let count = count_in slot n in omega (arith, short, count)

-- one of them passes
pub some_in : (p : ArmAt → Bool) (slot arm n : ℕ) → arm < n → p (record { slot = slot; arm = arm }) ≡ true → filter p (places_in slot n) ≢ []
some_in p slot arm zero less passes = absurd (omega (arith, less))
some_in p slot arm (suc n) less passes = elim (cases_lt arm n) [
  | inl before ↦ (λ none. grown (filter p (places_in slot n)) (filter p (record { slot = slot; arm = n } ∷ [])) (some_in p slot arm n before passes)
      (sym (filter-append p (places_in slot n) (record { slot = slot; arm = n } ∷ [])) ∙ none))
  | inr past ↦ (
      let here : arm ≡ n = omega (arith, less, past) in
      λ none. longer (filter p (places_in slot n)) (record { slot = slot; arm = n })
      (sym (kept_more p (places_in slot n) (record { slot = slot; arm = n }) (subst (λ a. p (record { slot = slot; arm = a }) ≡ true) here passes)) ∙ none)
      )
]

-- a list that grows by those that pass
pub yes_more : (p : ArmAt → Bool) (slot n : ℕ) (old mid : List ArmAt) → mid ≡ old ++ filter p (places_in slot n) → p (record { slot = slot; arm = n }) ≡ true
    → mid ++ record { slot = slot; arm = n } ∷ [] ≡ old ++ filter p (places_in slot (n + 1))
yes_more p slot n old mid is passes =
    ap (λ xs. xs ++ record { slot = slot; arm = n } ∷ []) is ∙ append_assoc old (filter p (places_in slot n)) (record { slot = slot; arm = n } ∷ [])
    ∙ ap (λ xs. old ++ xs) (sym (kept_more p (places_in slot n) (record { slot = slot; arm = n }) passes) ∙ ap (λ m. filter p (places_in slot m)) (sym (next_is n)))

pub no_more : (p : ArmAt → Bool) (slot n : ℕ) (old mid : List ArmAt) → mid ≡ old ++ filter p (places_in slot n) → p (record { slot = slot; arm = n }) ≡ false
    → mid ≡ old ++ filter p (places_in slot (n + 1))
no_more p slot n old mid is fails =
    is ∙ ap (λ xs. old ++ xs) (sym (cut_more p (places_in slot n) (record { slot = slot; arm = n }) fails) ∙ ap (λ m. filter p (places_in slot m)) (sym (next_is n)))

-- ---- the arms of all slots
pub none_more : (slots : SlotTable) (p : ArmAt → Bool) (slot : ℕ) → filter p (places_below slots slot) ≡ [] → filter p (places_in slot (length (arms_of slots slot))) ≡ []
    → filter p (places_below slots (slot + 1)) ≡ []
none_more slots p slot before here =
    ap (λ n. filter p (places_below slots n)) (next_is slot)
    ∙ filter-append p (places_below slots slot) (places_in slot (length (arms_of slots slot))) ∙ ap (λ xs. xs ++ filter p (places_in slot (length (arms_of slots slot)))) before ∙ here

pub list_more : (slots : SlotTable) (p : ArmAt → Bool) (slot : ℕ) (old new : List ArmAt) → old ≡ filter p (places_below slots slot)
    → new ≡ old ++ filter p (places_in slot (length (arms_of slots slot))) → new ≡ filter p (places_below slots (slot + 1))
list_more slots p slot old new before is =
    is ∙ ap (λ xs. xs ++ filter p (places_in slot (length (arms_of slots slot)))) before
    ∙ sym (filter-append p (places_below slots slot) (places_in slot (length (arms_of slots slot))))
    ∙ ap (λ n. filter p (places_below slots n)) (sym (next_is slot))

-- one of a slot passes
pub some_below : (slots : SlotTable) (p : ArmAt → Bool) (slot n : ℕ) → slot < n → filter p (places_in slot (length (arms_of slots slot))) ≢ [] → filter p (places_below slots n) ≢ []
some_below slots p slot zero less some = absurd (omega (arith, less))
some_below slots p slot (suc n) less some = elim (cases_lt slot n) [
  | inl before ↦ (λ none. grown (filter p (places_below slots n)) (filter p (places_in n (length (arms_of slots n)))) (some_below slots p slot n before some)
      (sym (filter-append p (places_below slots n) (places_in n (length (arms_of slots n)))) ∙ none))
  | inr past ↦ (
      let here : slot ≡ n = omega (arith, less, past) in
      λ none. some (
      behind (filter p (places_below slots n)) (filter p (places_in slot (length (arms_of slots slot))))
      (ap (λ s. filter p (places_below slots n) ++ filter p (places_in s (length (arms_of slots s)))) here
      ∙ sym (filter-append p (places_below slots n) (places_in n (length (arms_of slots n)))) ∙ none)
      )
      )
]
  where
    behind : {X : Type 0} (xs ys : List X) → xs ++ ys ≡ [] → ys ≡ []
    behind [] ys none = none
    behind (x ∷ xs) ys none = let count : length (x ∷ (xs ++ ys)) ≡ 0 = ap length none in absurd (omega (arith, count))

pub none_in_slot : (slots : SlotTable) (p : ArmAt → Bool) (slot : ℕ) → (filter p (places_in slot (length (arms_of slots slot))) ≢ [] → ⊥) → filter p (places_in slot (length (arms_of slots slot))) ≡ []
none_in_slot slots p slot fails = by (filter p (places_in slot (length (arms_of slots slot)))) fails
  where
    by : (xs : List ArmAt) → (xs ≢ [] → ⊥) → xs ≡ []
    by [] fails = refl
    by (x ∷ xs) fails = absurd (fails (λ none. let count : length (x ∷ xs) ≡ 0 = ap length none in absurd (omega (arith, count))))
