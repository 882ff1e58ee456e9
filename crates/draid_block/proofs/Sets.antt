-- The order of solving, set by set.
use Rattle.std.proofs.Common.{◌≡◌, ℕ, suc, ◌+◌, ◌-◌, ◌<◌, true, List, [], ◌∷◌, ◌++◌, map, length, take, arith, refl, sym, ◌∙◌, ap, ap₂, subst, inl, inr, append_assoc, length-append, Option, Some, None, Result, Ok, Err, Vec, Global}
use Rattle.std.specs.Prelude.{Contains, All, OnOk}
use Rattle.std.specs.declared.alloc.AllocError.{AllocError}
use Rattle.std.specs.List.Sorted.{IsStrictlyIncreasing}
use Rattle.std.proofs.lemmas.Bool.{cases_lt}
use Rattle.std.proofs.lemmas.List.{append-nil, map-append, get_or_append_left}
use Rattle.std.proofs.Math.Seq.{get_or-append_seam, take-append_seam}
use Rattle.std.proofs.lemmas.List.Elements.{All-nil, All-cons, All-append, All-push, All-contains, filter-append}
use Rattle.std.proofs.lemmas.List.Sums.{AllPass-from_list_all}
use Rattle.draid_parity.specs.Columns.{is_missing}
use Rattle.draid_parity.proofs.Missing.{contains-from_test}
use Rattle.draid_block.specs.Columns.{Cut}
use Rattle.draid_block.specs.Order.{covers, covering, sets_after, sets_from}
use Rattle.draid_block.specs.Solving.{IsFirst, FailsOf, GivesOf}
use Rattle.draid_block.specs.Search.{IsBegun, NoneOf, TriesSet, TriesSets}
use Rattle.draid_block.specs.declared.solve.Fetched.{Fetched}
use Rattle.draid_block.specs.declared.search.Attempts.{Attempts}

-- ---- the sets that begin so, by their next member
map-after : (begun : List ℕ) (first : ℕ) (sets : List (List ℕ)) → map (λ more. begun ++ more) (map (λ set. first ∷ set) sets) ≡ map (λ more. (begun ++ first ∷ []) ++ more) sets
map-after begun first [] = refl
map-after begun first (set ∷ sets) = rw (append_assoc begun (first ∷ []) set, map-after begun first sets) refl

pub after_more : (begun : List ℕ) (size first n : ℕ)
    → sets_after begun (suc size) first (suc n) ≡ sets_after (begun ++ first ∷ []) size (first + 1) n ++ sets_after begun (suc size) (first + 1) n
unfolding sets_from
after_more begun size first n =
    map-append (λ more. begun ++ more) (map (λ set. first ∷ set) (sets_from size (first + 1) n)) (sets_from (suc size) (first + 1) n)
    ∙ rw (map-after begun first (sets_from size (first + 1) n)) refl

pub after_whole : (begun : List ℕ) (first n : ℕ) → sets_after begun 0 first n ≡ begun ∷ []
unfolding sets_from
after_whole begun first n = rw (append-nil begun) refl

pub after_past : (begun : List ℕ) (size first : ℕ) → sets_after begun (suc size) first 0 ≡ []
unfolding sets_from
after_past begun size first = refl

pub split : (absent begun : List ℕ) (size first n s m : ℕ) → size ≡ s + 1 → n ≡ m + 1
    → covering absent (sets_after begun size first n) ≡ covering absent (sets_after (begun ++ first ∷ []) s (first + 1) m) ++ covering absent (sets_after begun size (first + 1) m)
split absent begun size first n s m is_size is_n =
    let e : size ≡ suc s = omega arith in
    let f : n ≡ suc m = omega arith in
    rw (e, f, after_more begun s first m) (filter-append (λ set. covers absent set) _ _)

pub both_sets : (absent begun : List ℕ) (size first g : ℕ) → 0 < size → first < g
    → covering absent (sets_after begun size first (g - first))
    ≡ covering absent (sets_after (begun ++ first ∷ []) (size - 1) (first + 1) (g - (first + 1))) ++ covering absent (sets_after begun size (first + 1) (g - (first + 1)))
both_sets absent begun size first g some below = split absent begun size first (g - first) (size - 1) (g - (first + 1)) (omega arith) (omega arith)

-- ---- sets that were begun
pub ascending-push : (begun : List ℕ) (first : ℕ) → IsStrictlyIncreasing begun → All (λ i. i < first) begun → IsStrictlyIncreasing (begun ++ first ∷ [])
ascending-push begun first ascending below k there =
    let long : length (begun ++ first ∷ []) ≡ length begun + 1 = omega (arith, length-append begun (first ∷ [])) in
    elim (cases_lt (k + 1) (length begun)) [
      | inl lt ↦ rw (get_or_append_left begun (first ∷ []) 0 k (omega arith), get_or_append_left begun (first ∷ []) 0 (k + 1) lt) (ascending k lt)
      | inr ge ↦
          let e : k + 1 ≡ length begun = omega arith in
          rw (get_or_append_left begun (first ∷ []) 0 k (omega arith), e, get_or-append_seam begun first [] 0) (below k 0 (omega arith))
    ]

pub begun_more : (cut : Cut) (begun : List ℕ) (size s first : ℕ) → size ≡ s + 1 → first < cut.parity + cut.ndata → IsBegun cut begun size first → IsBegun cut (begun ++ first ∷ []) s (first + 1)
begun_more cut begun size s first is below b = record {
  few = (let few = b.few in omega (arith, few, length-append begun (first ∷ [])));
  ascending = ascending-push begun first b.ascending b.below;
  below = All-push (λ i. i < first + 1) begun first (λ k d there. (let less = b.below k d there in omega (arith, less))) (omega arith);
  in_range = omega arith;
}

pub begun_later : (cut : Cut) (begun : List ℕ) (size first : ℕ) → first < cut.parity + cut.ndata → IsBegun cut begun size first → IsBegun cut begun size (first + 1)
begun_later cut begun size first below b = record {
  few = b.few;
  ascending = b.ascending;
  below = λ k d there. (let less = b.below k d there in omega (arith, less));
  in_range = omega arith;
}

pub covers_contains : (absent set : List ℕ) → covers absent set ≡ true → (i : ℕ) → Contains absent i → Contains set i
covers_contains absent set all i there =
    contains-from_test set i (All-contains (λ k. is_missing set k ≡ true) absent i (AllPass-from_list_all (λ k. is_missing set k) absent all) there)

-- ---- the parts of a recursion
pub whole_sets : (absent begun : List ℕ) (size first n : ℕ) → size ≡ 0 → covering absent (sets_after begun size first n) ≡ covering absent (begun ∷ [])
whole_sets absent begun size first n is = rw (is, after_whole begun first n) refl

pub past_sets : (absent begun : List ℕ) (size first n : ℕ) → 0 < size → n ≡ 0 → covering absent (sets_after begun size first n) ≡ []
past_sets absent begun size first n some is =
    let e : size ≡ suc (size - 1) = omega arith in
    rw (e, is, after_past begun (size - 1) first) refl

-- ---- the first of two lists of sets
pub first_left : {gives fails : List ℕ → Type 0} (xs ys : List (List ℕ)) → IsFirst gives fails xs → IsFirst gives fails (xs ++ ys)
first_left xs ys f = record {
  before = f.before;
  set = f.set;
  after = f.after ++ ys;
  order = ap (λ l. l ++ ys) f.order ∙ append_assoc f.before (f.set ∷ f.after) ys;
  failed = f.failed;
  given = f.given;
}

pub first_right : {gives fails : List ℕ → Type 0} (xs ys : List (List ℕ)) → All fails xs → IsFirst gives fails ys → IsFirst gives fails (xs ++ ys)
first_right {fails = fails} xs ys none f = record {
  before = xs ++ f.before;
  set = f.set;
  after = f.after;
  order = ap (λ l. xs ++ l) f.order ∙ sym (append_assoc xs f.before (f.set ∷ f.after));
  failed = All-append fails xs f.before none f.failed;
  given = f.given;
}

-- ---- what trying sets answers
pub tries_one : (cut : Cut) (fetched : Fetched) (set absent : List ℕ) (s : Attempts) (before after : ℕ) (result : Result (Option (Vec ℕ Global)) AllocError)
    → covers absent set ≡ true → after ≡ before + 1 → TriesSet cut fetched set s result → TriesSets cut fetched (covering absent (set ∷ [])) s before after result
tries_one cut fetched set absent s before after (Ok (Some bytes)) all counted gives =
    rw all (record { before = []; set = set; after = []; order = refl; failed = All-nil (FailsOf cut fetched); given = gives })
tries_one cut fetched set absent s before after (Ok None) all counted none =
    rw all (record { ready = none.0; failed = All-cons (FailsOf cut fetched) set [] none.1 (All-nil (FailsOf cut fetched)); counted = counted })
tries_one cut fetched set absent s before after (Err e) all counted none = tt

pub tries_some : (cut : Cut) (fetched : Fetched) (sets : List (List ℕ)) (s : Attempts) (before after : ℕ) (found : Option (Vec ℕ Global)) (bytes : Vec ℕ Global)
    → found ≡ Some bytes → TriesSets cut fetched sets s before after (Ok found) → IsFirst (GivesOf cut fetched bytes.items) (FailsOf cut fetched) sets
tries_some cut fetched sets s before after found bytes is tries = subst (λ (f : Option (Vec ℕ Global)). TriesSets cut fetched sets s before after (Ok f)) is tries

pub tries_none : (cut : Cut) (fetched : Fetched) (sets : List (List ℕ)) (s : Attempts) (before after : ℕ) (found : Option (Vec ℕ Global))
    → found ≡ None → TriesSets cut fetched sets s before after (Ok found) → NoneOf cut fetched sets s before after
tries_none cut fetched sets s before after found is tries = subst (λ (f : Option (Vec ℕ Global)). TriesSets cut fetched sets s before after (Ok f)) is tries

pub tries_more : (cut : Cut) (fetched : Fetched) (xs ys : List (List ℕ)) (s t : Attempts) (before mid after : ℕ) (result : Result (Option (Vec ℕ Global)) AllocError)
    → NoneOf cut fetched xs s before mid → TriesSets cut fetched ys t mid after result → TriesSets cut fetched (xs ++ ys) t before after result
tries_more cut fetched xs ys s t before mid after (Ok (Some bytes)) none gives = first_right xs ys none.failed gives
tries_more cut fetched xs ys s t before mid after (Ok None) none more = record {
  ready = more.ready;
  failed = All-append (FailsOf cut fetched) xs ys none.failed more.failed;
  counted = (let first = none.counted in let second = more.counted in omega (arith, first, second, length-append xs ys));
}
tries_more cut fetched xs ys s t before mid after (Err e) none more = tt

pub tries_same : (cut : Cut) (fetched : Fetched) (xs ys : List (List ℕ)) (s : Attempts) (before after : ℕ) (result : Result (Option (Vec ℕ Global)) AllocError)
    → xs ≡ ys → TriesSets cut fetched ys s before after result → TriesSets cut fetched xs s before after result
tries_same cut fetched xs ys s before after result same tries = subst (λ (l : List (List ℕ)). TriesSets cut fetched l s before after result) (sym same) tries

-- ---- a member more and less
pub begun_whole : (cut : Cut) (begun : List ℕ) (size first : ℕ) → size ≡ 0 → IsBegun cut begun size first → IsBegun cut begun 0 (cut.parity + cut.ndata)
begun_whole cut begun size first none b = record {
  few = (let few = b.few in omega (arith, few, none));
  ascending = b.ascending;
  below = λ k d there. (let less = b.below k d there in let within = b.in_range in omega (arith, less, within));
  in_range = omega arith;
}

pub popped : (begun pushed left : List ℕ) (first n : ℕ) → pushed ≡ begun ++ first ∷ [] → n ≡ length pushed → left ≡ take (n - 1) pushed → left ≡ begun
popped begun pushed left first n is long rest =
    let e : n - 1 ≡ length begun = omega (arith, long, ap length is, length-append begun (first ∷ [])) in
    rest ∙ (ap₂ (λ (m : ℕ) (xs : List ℕ). take m xs) e is ∙ take-append_seam begun (first ∷ []))

pub always_ok : {A E P : Type 0} (r : Result A E) → P → OnOk r P
always_ok (Ok x) p = p
always_ok (Err e) p = tt
