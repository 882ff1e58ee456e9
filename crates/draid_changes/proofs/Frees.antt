-- Free spares, one after another.
use Rattle.std.proofs.Common.{◌≡◌, ◌==◌, ◌<◌, ◌≤◌, ◌+◌, ◌++◌, ◌∙◌, ◌⊎◌, inl, inr, [], ◌∷◌, not, ℕ, Bool, true, false, List, Contains, arith, cond, refl, sym, ap, subst}
use Rattle.std.specs.Prelude.{filter}
use Rattle.std.proofs.lemmas.Bool.{cases_eq}
use Rattle.std.proofs.lemmas.List.Elements.{Contains-append_cases, Contains-append_left, Contains-push}
use Rattle.draid_names.specs.declared.journal.Did.TheVariants.{NoneFree, Spared}
use Rattle.draid_names.specs.declared.journal.Entry.{Entry}
use Rattle.draid_machine.proofs.Small.{absurd_test, equal, is_equal}
use Rattle.draid_shard.proofs.Among.{has_cases, has_nothing, kept_among, was_among}
use Rattle.draid_session.specs.Agent.{WasGiven}
use Rattle.draid_changes.specs.Dues.{AreFree, Ascends}

-- ---- ascending numbers

pub ascends_push : (low n : ℕ) (xs : List ℕ) → Ascends low n xs → Ascends low (n + 1) (xs ++ n ∷ [])
ascends_push low n [] up = (up, omega arith)
ascends_push low n (x ∷ xs) up = (up.0, ascends_push (x + 1) n xs up.1)

pub ascends_on : (low n : ℕ) (xs : List ℕ) → Ascends low n xs → Ascends low (n + 1) xs
ascends_on low n [] up = omega (arith, up)
ascends_on low n (x ∷ xs) up = (up.0, ascends_on (x + 1) n xs up.1)

ascends_lower : (low more high : ℕ) (xs : List ℕ) → low ≤ more → Ascends more high xs → Ascends low high xs
ascends_lower low more high [] less up = omega (arith, less, up)
ascends_lower low more high (x ∷ xs) less up = (let first = up.0 in omega (arith, less, first), up.1)

pub ascends_filtered : (p : ℕ → Bool) (low high : ℕ) (xs : List ℕ) → Ascends low high xs → Ascends low high (filter p xs)
ascends_filtered p low high [] up = up
ascends_filtered p low high (x ∷ xs) up = by (p x) (ascends_filtered p (x + 1) high xs up.1)
  where
    by : (b : Bool) → Ascends (x + 1) high (filter p xs) → Ascends low high (cond b (x ∷ filter p xs) (filter p xs))
    by true rest = (up.0, rest)
    by false rest = ascends_lower low (x + 1) high (filter p xs) (let first = up.0 in omega (arith, first)) rest

-- of two neighbours the second is greater
pub ascends_next : (low high : ℕ) (free front : List ℕ) (x y : ℕ) (back : List ℕ) → Ascends low high free → free ≡ front ++ (x ∷ (y ∷ back)) → x < y
ascends_next low high free front x y back up is = by front low (subst (Ascends low high) is up)
  where
    by : (front : List ℕ) (low : ℕ) → Ascends low high (front ++ (x ∷ (y ∷ back))) → x < y
    by [] low up = (let second = up.1.0 in omega (arith, second))
    by (z ∷ front) low up = by front (z + 1) up.1

-- all are below the bound
top_of : (low high : ℕ) (xs : List ℕ) → Ascends low high xs → low ≤ high
top_of low high [] up = up
top_of low high (z ∷ xs) up = (let first = up.0 in let rest = top_of (z + 1) high xs up.1 in omega (arith, first, rest))

pub ascends_below : (low high : ℕ) (xs : List ℕ) (x : ℕ) → Ascends low high xs → Contains xs x → x < high
ascends_below low high [] x up has = absurd (has_nothing x has)
ascends_below low high (y ∷ xs) x up has = elim (has_cases y xs x has) [
  | inl same ↦ (let top = top_of (y + 1) high xs up.1 in omega (arith, same, top))
  | inr behind ↦ ascends_below (y + 1) high xs x up.1 behind
]

-- ---- the spares that are free

pub free_none : (Idle : ℕ → Type 0) (given : List Entry) → AreFree Idle given 0 []
free_none Idle given = record { ascending = omega arith; all = λ spare low idle new. absurd (omega (arith, low)); only = λ spare has. absurd (has_nothing spare has) }

pub free_more : (Idle : ℕ → Type 0) (n : ℕ) (free : List ℕ) → Idle n → AreFree Idle [] n free → AreFree Idle [] (n + 1) (free ++ n ∷ [])
free_more Idle n free idle are = record {
  ascending = ascends_push 0 n free are.ascending;
  all = λ spare low is new. elim (cases_eq spare n) [
    | inl same ↦ subst (λ s. Contains (free ++ n ∷ []) s) (sym same) (Contains-push free n)
    | inr other ↦ Contains-append_left free (n ∷ []) spare (are.all spare (omega (arith, low, other)) is new)
  ];
  only = λ spare has. elim (Contains-append_cases free (n ∷ []) spare has) [
    | inl before ↦ are.only spare before
    | inr last ↦ elim (has_cases n [] spare last) [
      | inl same ↦ (subst Idle same idle, none_given spare)
      | inr none ↦ absurd (has_nothing spare none)
    ]
  ];
}
  where
    none_given : (spare : ℕ) → WasGiven spare [] → ⊥
    none_given spare was = has_nothing was.0 was.1

pub free_skip : (Idle : ℕ → Type 0) (n : ℕ) (free : List ℕ) → (Idle n → ⊥) → AreFree Idle [] n free → AreFree Idle [] (n + 1) free
free_skip Idle n free busy are = record {
  ascending = ascends_on 0 n free are.ascending;
  all = λ spare low is new. elim (cases_eq spare n) [
    | inl same ↦ absurd (busy (subst Idle same is))
    | inr other ↦ are.all spare (omega (arith, low, other)) is new
  ];
  only = are.only;
}

-- ---- one is given

spare_same : (s t : ℕ) → Spared s ≡ Spared t → s ≡ t
spare_same s t is = (let same : s ≡ t = cc in same)

given_cases : (spare : ℕ) (given : List Entry) (e : Entry) → WasGiven spare (given ++ e ∷ []) → WasGiven spare given ⊎ (e.did ≡ Spared spare)
given_cases spare given e (f, among, did) = elim (Contains-append_cases given (e ∷ []) f among) [
  | inl before ↦ inl (f, before, did)
  | inr last ↦ elim (has_cases e [] f last) [
    | inl same ↦ inr (ap (λ (x : Entry). x.did) same ∙ did)
    | inr none ↦ absurd (has_nothing f none)
  ]
]

pub given_before : (spare : ℕ) (given : List Entry) (e : Entry) → WasGiven spare given → WasGiven spare (given ++ e ∷ [])
given_before spare given e (f, among, did) = (f, Contains-append_left given (e ∷ []) f among, did)

pub given_last : (spare : ℕ) (given : List Entry) (e : Entry) → e.did ≡ Spared spare → WasGiven spare (given ++ e ∷ [])
given_last spare given e did = (e, Contains-push given e, did)

-- a slot got none
pub free_still : (Idle : ℕ → Type 0) (given : List Entry) (below : ℕ) (free : List ℕ) (e : Entry) → e.did ≡ NoneFree → AreFree Idle given below free → AreFree Idle (given ++ e ∷ []) below free
free_still Idle given below free e none are = record {
  ascending = are.ascending;
  all = λ spare low is new. are.all spare low is (λ was. new (given_before spare given e was));
  only = λ spare has. (let z = are.only spare has in (z.0, λ was. elim (given_cases spare given e was) [ inl before ↦ z.1 before | inr last ↦ absurd (differ spare (sym none ∙ last)) ]));
}
  where
    differ : (s : ℕ) → NoneFree ≡ Spared s → ⊥
    differ s is = absurd (cc)

-- a slot got this one
pub free_less : (Idle : ℕ → Type 0) (given : List Entry) (below : ℕ) (free : List ℕ) (e : Entry) (spare : ℕ) → e.did ≡ Spared spare → AreFree Idle given below free
    → AreFree Idle (given ++ e ∷ []) below (filter (λ other. not (other == spare)) free)
free_less Idle given below free e spare did are = record {
  ascending = ascends_filtered (λ other. not (other == spare)) 0 below free are.ascending;
  all = λ other low is new. kept_among (λ o. not (o == spare)) free other (are.all other low is (λ was. new (given_before other given e was))) (differs other (λ same. new (given_last other given e (did ∙ ap Spared (sym same)))));
  only = λ other has.
      (let z = was_among (λ o. not (o == spare)) free other has in
      let y = are.only other z.0 in (
        y.0,
        λ was. elim (given_cases other given e was) [
          | inl before ↦ y.1 before
          | inr last ↦ apart other (spare_same spare other (sym did ∙ last)) z.1
        ],
      ));
}
  where
    differs : (other : ℕ) → (other ≡ spare → ⊥) → not (other == spare) ≡ true
    differs other none = by (other == spare) refl
      where
        by : (b : Bool) → (other == spare) ≡ b → not b ≡ true
        by true same = absurd (none (is_equal other spare same))
        by false same = refl

    apart : (other : ℕ) → spare ≡ other → not (other == spare) ≡ true → ⊥
    apart other same is = absurd_test (not (other == spare)) is (ap not (equal other spare (sym same)))
