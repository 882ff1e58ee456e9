-- What is found among objects that are sorted by their first ones.
use Rattle.std.proofs.Common.{arith, sym, subst, ap, ◌≡◌, ◌∙◌, ◌≢◌, ◌+◌, ◌-◌, ◌<◌, ◌≤◌, ◌⊎◌, inl, inr, ℕ, List, Some, length}
use Rattle.std.specs.Prelude.{Contains, slice_get, slice_index_or}
use Rattle.std.specs.List.Sorted.{IsNonDecreasingBy, IsPermutation}
use Rattle.std.proofs.lemmas.Bool.{cases_lt}
use Rattle.std.proofs.lemmas.Option.{get_or_from_slice_get, slice_get-get_or, slice_get_within}
use Rattle.std.proofs.lemmas.List.Sorted.{Contains-permutation}
use Rattle.draid_clashes.specs.Named.{HasObject, IsLeastShared, IsShared}
use Rattle.draid_clashes.specs.declared.objects.Named.{Named}

-- ---- by places

abbrev pub At : List Named → ℕ → Named → Type 0
At list i named = slice_get list i ≡ Some named

contains_at : (list : List Named) (x : Named) → Contains list x → (i : ℕ) × At list i x
contains_at list x c = (c.0, slice_get-get_or list c.0 x c.1 ∙ ap Some c.2)

at_contains : (list : List Named) (i : ℕ) (x : Named) → At list i x → Contains list x
at_contains list i x at = (i, slice_get_within list i x at, get_or_from_slice_get list i x x at)

abbrev pub Ascends : List Named → Type 0
Ascends list = IsNonDecreasingBy (λ (n : Named). n.first) list

ascends_at : (list : List Named) → Ascends list → (i j : ℕ) (x y : Named) → i ≤ j → At list i x → At list j y → x.first ≤ y.first
ascends_at list up i j x y less at_i at_j =
    let is : (slice_index_or list i x).first ≤ (slice_index_or list j x).first = up i j x less (slice_get_within list j y at_j) in
    let one = ap (λ (n : Named). n.first) (get_or_from_slice_get list i x x at_i) in
    let other = ap (λ (n : Named). n.first) (get_or_from_slice_get list j y x at_j) in
    subst (λ a. a ≤ y.first) one (subst (λ b. (slice_index_or list i x).first ≤ b) other is)

at_same : (list : List Named) (i j : ℕ) (x y : Named) → i < j + 1 → j ≤ i → At list i x → At list j y → x ≡ y
at_same list i j x y less more at_i at_j =
    let same : i ≡ j = omega (arith, less, more) in
    let at : slice_get list j ≡ Some x = subst (λ k. slice_get list k ≡ Some x) same at_i in
    cc (at, at_j)

-- ---- one after another

-- No two lanes name an object among those before this place, and of these that end furthest are the far ones.
pub record Sweeps (list : List Named) (k : ℕ) (far : Named) : Type 0 where
  pub far_in : ((far.first ≡ 0) × (far.count ≡ 0)) ⊎ ((i : ℕ) × (i < k) × At list i far)
  pub reach : (i : ℕ) (x : Named) → i < k → At list i x → x.first + x.count ≤ far.first + far.count
  pub apart : (i j : ℕ) (x y : Named) (object : ℕ) → i < k → j < k → At list i x → At list j y → x.lane ≢ y.lane → HasObject x object → HasObject y object → ⊥

pub sweeps_none : (list : List Named) (far : Named) → far.first ≡ 0 → far.count ≡ 0 → Sweeps list 0 far
sweeps_none list far first count = record {
  far_in = inl (first, count);
  reach = λ i x less at. absurd (omega (arith, less));
  apart = λ i j x y object less more a b lanes one other. absurd (omega (arith, less));
}

module _ (list : List Named) (up : Ascends list) (k : ℕ) (far next : Named) (s : Sweeps list k far) (at : At list k next) where
  pub far_first : far.first ≤ next.first
  far_first = elim s.far_in [
    | inl none ↦ (let first = none.0 in omega (arith, first))
    | inr within ↦ (let less = within.1 in ascends_at list up within.0 k far next (omega (arith, less)) within.2 at)
  ]

  abbrev left : ℕ
  left = far.count - (next.first - far.first)

  -- where they reach the next ones they were named
  far_at : 0 < left → (i : ℕ) × (i < k) × At list i far
  far_at some = elim s.far_in [
    | inl none ↦ absurd (let count = none.1 in omega (arith, some, count))
    | inr within ↦ within
  ]

  pub found : 1 ≤ next.count → 0 < left → far.lane ≢ next.lane → IsLeastShared list next.first
  found count some lanes =
      let within = far_at some in
      let low = far_first in (
        record {
          one = far;
          other = next;
          one_in = at_contains list within.0 far within.2;
          other_in = at_contains list k next at;
          lanes = lanes;
          one_has = (low, omega (arith, some, low));
          other_has = (omega arith, omega (arith, count));
        },
        λ object shared. least object shared,
      )
    where
      least : (object : ℕ) → IsShared list object → next.first ≤ object
      least object shared =
          let a = contains_at list shared.one shared.one_in in
          let b = contains_at list shared.other shared.other_in in
          elim (cases_lt a.0 k) [
            | inl a_less ↦ elim (cases_lt b.0 k) [
              | inl b_less ↦ absurd (s.apart a.0 b.0 shared.one shared.other object a_less b_less a.1 b.1 shared.lanes shared.one_has shared.other_has)
              | inr b_more ↦ (let first = ascends_at list up k b.0 next shared.other b_more at b.1 in let has = shared.other_has.0 in omega (arith, first, has))
            ]
            | inr a_more ↦ (let first = ascends_at list up k a.0 next shared.one a_more at a.1 in let has = shared.one_has.0 in omega (arith, first, has))
          ]

  module _ (count : 1 ≤ next.count) (same : 0 < left → far.lane ≡ next.lane) where
    pair_not : (i : ℕ) (x : Named) (object : ℕ) → i < k → At list i x → x.lane ≢ next.lane → HasObject x object → HasObject next object → ⊥
    pair_not i x object less at_i lanes has next_has =
        let reach = s.reach i x less at_i in
        let low = far_first in
        let a = has.1 in
        let b = next_has.0 in
        let some : 0 < left = omega (arith, reach, low, a, b) in
        let within = far_at some in
        let first = ascends_at list up i k x next (omega (arith, less)) at_i at in
        s.apart i within.0 x far next.first less within.1 at_i within.2 (λ is. lanes (is ∙ same some)) (first, omega (arith, a, b)) (low, omega (arith, some, low))

    apart_more : (i j : ℕ) (x y : Named) (object : ℕ) → i < k + 1 → j < k + 1 → At list i x → At list j y → x.lane ≢ y.lane → HasObject x object → HasObject y object → ⊥
    apart_more i j x y object i_less j_less at_i at_j lanes one other = elim (cases_lt i k) [
      | inl i_before ↦ elim (cases_lt j k) [
        | inl j_before ↦ s.apart i j x y object i_before j_before at_i at_j lanes one other
        | inr j_is ↦ (let is = at_same list j k y next j_less j_is at_j at in
            pair_not i x object i_before at_i (subst (λ (n : Named). x.lane ≢ n.lane) is lanes) one (subst (λ (n : Named). HasObject n object) is other))
      ]
      | inr i_is ↦ (let is = at_same list i k x next i_less i_is at_i at in elim (cases_lt j k) [
        | inl j_before ↦ pair_not j y object j_before at_j (λ e. lanes (ap (λ (n : Named). n.lane) is ∙ sym e)) other (subst (λ (n : Named). HasObject n object) is one)
        | inr j_is ↦ lanes (ap (λ (n : Named). n.lane) (is ∙ sym (at_same list j k y next j_less j_is at_j at)))
      ])
    ]

    reach_more : (new : Named) → far.first + far.count ≤ new.first + new.count → next.first + next.count ≤ new.first + new.count
        → (i : ℕ) (x : Named) → i < k + 1 → At list i x → x.first + x.count ≤ new.first + new.count
    reach_more new far_less next_less i x less at_i = elim (cases_lt i k) [
      | inl before ↦ (let reach = s.reach i x before at_i in omega (arith, reach, far_less))
      | inr is ↦ (let same_one = at_same list i k x next less is at_i at in subst (λ (n : Named). n.first + n.count ≤ new.first + new.count) (sym same_one) next_less)
    ]

    -- the next ones end further
    takes : left < next.count → Sweeps list (k + 1) next
    takes less = (let low = far_first in record {
      far_in = inr (k, omega arith, at);
      reach = reach_more next (omega (arith, less, low)) (omega arith);
      apart = apart_more;
    })

    -- or don't
    keeps : next.count ≤ left → Sweeps list (k + 1) far
    keeps more = (let low = far_first in record {
      far_in = elim s.far_in [
        | inl none ↦ inl none
        | inr within ↦ inr (within.0, (let less = within.1 in omega (arith, less)), within.2)
      ];
      reach = reach_more far (omega arith) (omega (arith, more, low, count));
      apart = apart_more;
    })

  pub goes_on : 1 ≤ next.count → (so_many : ℕ) → so_many ≡ left → (0 < so_many → far.lane ≡ next.lane) → (new : Named) → (so_many < next.count → new ≡ next) → (next.count ≤ so_many → new ≡ far) → Sweeps list (k + 1) new
  goes_on count so_many is same new further else = elim (cases_lt so_many next.count) [
    | inl less ↦ subst (Sweeps list (k + 1)) (sym (further less)) (takes count same_left (subst (λ n. n < next.count) is less))
    | inr more ↦ subst (Sweeps list (k + 1)) (sym (else more)) (keeps count same_left (subst (λ n. next.count ≤ n) is more))
  ]
    where
      same_left : 0 < left → far.lane ≡ next.lane
      same_left some = same (subst (λ n. 0 < n) (sym is) some)

-- at the end
pub none_shared : (list : List Named) (far : Named) (k : ℕ) → length list ≤ k → Sweeps list k far → (object : ℕ) → IsShared list object → ⊥
none_shared list far k end s object shared =
    let a = contains_at list shared.one shared.one_in in
    let b = contains_at list shared.other shared.other_in in
    let a_less = slice_get_within list a.0 shared.one a.1 in
    let b_less = slice_get_within list b.0 shared.other b.1 in
    s.apart a.0 b.0 shared.one shared.other object (omega (arith, a_less, end)) (omega (arith, b_less, end)) a.1 b.1 shared.lanes shared.one_has shared.other_has

-- in another order
pub shared_moved : (xs ys : List Named) → IsPermutation xs ys → (object : ℕ) → IsShared xs object → IsShared ys object
shared_moved xs ys moved object shared = record {
  one = shared.one;
  other = shared.other;
  one_in = Contains-permutation xs ys shared.one moved shared.one_in;
  other_in = Contains-permutation xs ys shared.other moved shared.other_in;
  lanes = shared.lanes;
  one_has = shared.one_has;
  other_has = shared.other_has;
}
