-- The metaslabs of a pool, looked at one after another.
use Rattle.std.proofs.Common.{◌≡◌, ◌≢◌, ◌+◌, ◌*◌, ◌<◌, ◌≤◌, ◌^◌, ◌∙◌, ℕ, zero, suc, Bool, true, false, List, Option, Some, None, arith, refl, sym, ap, subst, inl, inr, get_or, length, min, take, sum_by, slice_get, if◌then◌else◌}
use Rattle.std.proofs.lemmas.Bool.{cases_lt}
use Rattle.std.proofs.lemmas.Bool.Decides.{nat_tests}
use Rattle.std.proofs.lemmas.List.{take_all}
use Rattle.std.proofs.lemmas.List.Sums.{sum_by_more}
use Rattle.std.proofs.lemmas.Option.{get_or_from_slice_get, slice_get_within}
use Rattle.draid_names.specs.declared.arm.ArmAt.{ArmAt}
use Rattle.draid_names.specs.declared.numbers.TheConstants.{NUMBERS}
use Rattle.draid_machine.proofs.Small.{some_injective}
use Rattle.draid_ranges.specs.Numbers.{count_below}
use Rattle.draid_slots.specs.Table.{count_at, is_logged}
use Rattle.draid_slots.proofs.Refusals.{none_below}
use Rattle.draid_shard.specs.declared.shard.Shard.{Shard}
use Rattle.draid_disks.specs.Checks.{Each, LeastUpto, beside, lesser, missed_over}

module _ {R A : Type 0} (shards : List (Shard R A)) where
  -- those below one
  abbrev pub Below : (Shard R A → Type 0) → ℕ → Type 0
  Below P k = (m : ℕ) (shard : Shard R A) → m < k → slice_get shards m ≡ Some shard → P shard

  pub below_more : (P : Shard R A → Type 0) (k : ℕ) (shard : Shard R A) → slice_get shards k ≡ Some shard → P shard → Below P k → Below P (k + 1)
  below_more P k shard there is below m other less at = elim (cases_lt m k) [
    | inl before ↦ below m other before at
    | inr past ↦ (let here : m ≡ k = omega (arith, less, past) in subst P (some_injective shard other (sym there ∙ ap (slice_get shards) (sym here) ∙ at)) is)
  ]

  pub below_all : (P : Shard R A → Type 0) (k : ℕ) → length shards ≤ k → Below P k → Each P shards
  below_all P k end below m shard at = (let within = slice_get_within shards m shard at in below m shard (omega (arith, end, within)) at)

  -- ---- what an arm missed
  module _ (at : ArmAt) where
    abbrev count_in : Shard R A → ℕ
    count_in shard = count_at shard.slots at

    abbrev pub IsWhole : Shard R A → Type 0
    IsWhole shard = (group : ℕ) → is_logged shard.slots at group ≡ false

    pub record SumsUpto (k missed : ℕ) : Type 0 where
      pub sums : missed ≡ sum_by count_in (take k shards)
      pub low : missed ≤ k * NUMBERS
      pub none : missed ≡ 0 → Below IsWhole k

    pub sums_none : SumsUpto 0 0
    sums_none = record { sums = refl; low = omega arith; none = λ zero_ m shard less there. absurd (omega (arith, less)) }

    pub sums_more : (k missed count : ℕ) (shard : Shard R A) → slice_get shards k ≡ Some shard → count ≡ count_at shard.slots at → count ≤ NUMBERS
        → ((group : ℕ) → 2 ^ 48 ≤ group → is_logged shard.slots at group ≡ false) → SumsUpto k missed → SumsUpto (k + 1) (missed + count)
    sums_more k missed count shard there counted few high was = record {
      sums = (
          let within = slice_get_within shards k shard there in
          let more = sum_by_more count_in shards k shard within in
          let here : count_in (get_or shards k shard) ≡ count = ap count_in (get_or_from_slice_get shards k shard shard there) ∙ sym counted in
          let before = was.sums in
          omega (arith, more, here, before));
      low = (let low = was.low in omega (arith, low, few));
      none = λ zero_. below_more IsWhole k shard there (whole (omega (arith, zero_))) (was.none (omega (arith, zero_)));
    } where
      whole : count ≡ 0 → (group : ℕ) → is_logged shard.slots at group ≡ false
      whole zero_ group = elim (cases_lt group (2 ^ 48)) [
        | inl less ↦ none_below (is_logged shard.slots at) (2 ^ 48) (sym counted ∙ zero_) group less
        | inr past ↦ high group past
      ]

    pub sums_all : (k missed : ℕ) → length shards ≤ k → SumsUpto k missed → missed ≡ missed_over shards at
    sums_all k missed end was = was.sums ∙ ap (sum_by count_in) (take_all k shards end)

min_left : (a b : ℕ) → a ≤ b → min a b ≡ a
min_left a b less = grind (arith, nat_tests)

min_right : (a b : ℕ) → b ≤ a → min a b ≡ b
min_right a b less = grind (arith, nat_tests)

-- a log has at most so many groups
one_at_most : (b : Bool) → (if b then 1 else 0) ≤ 1
one_at_most true = omega arith
one_at_most false = omega arith

pub count_few : (f : ℕ → Bool) (n : ℕ) → count_below f n ≤ n
unfolding count_below
count_few f zero = omega arith
count_few f (suc n) = let rest = count_few f n in let one = one_at_most (f n) in omega (arith, rest, one)

-- ---- the least of the other arms
module _ {R A : Type 0} (shards : List (Shard R A)) (at : ArmAt) where
  pub least_skip : (bound : ℕ) (least : Option ℕ) → bound ≡ at.arm → LeastUpto shards at bound least → LeastUpto shards at (bound + 1) least
  least_skip bound None same none = λ other differs less. none other differs (omega (arith, same, differs, less))
  least_skip bound (Some groups) same some = (
    record {
      one = (some.0.one.0, some.0.one.1, (let l = some.0.one.2 in omega (arith, l)), some.0.one.3);
      least = λ other differs less. some.0.least other differs (omega (arith, same, differs, less));
    },
    λ zero_. (let w = some.1 zero_ in (w.0, w.1, (let l = w.2 in omega (arith, l)), w.3)),
  )

  pub least_more : (bound missed : ℕ) (least : Option ℕ) → bound ≢ at.arm → missed ≡ missed_over shards (beside at bound)
      → (missed ≡ 0 → Each (λ (shard : Shard R A). (group : ℕ) → is_logged shard.slots (beside at bound) group ≡ false) shards)
      → LeastUpto shards at bound least → LeastUpto shards at (bound + 1) (Some (lesser least missed))
  least_more bound missed None differs is whole none = (
    record {
      one = (bound, differs, omega arith, sym is);
      least = λ other apart less. elim (cases_lt other bound) [
        | inl before ↦ absurd (none other apart before)
        | inr past ↦ (let here : other ≡ bound = omega (arith, less, past) in subst (λ n. missed ≤ missed_over shards (beside at n)) (sym here) (omega (arith, is)))
      ];
    },
    λ zero_. (bound, differs, omega arith, whole zero_),
  )
  least_more bound missed (Some groups) differs is whole some = elim (cases_lt groups (missed + 1)) [
    | inl low ↦
        let same : min groups missed ≡ groups = min_left groups missed (omega (arith, low)) in
        subst (λ n. LeastUpto shards at (bound + 1) (Some n)) (sym same) (
          record {
            one = (some.0.one.0, some.0.one.1, (let l = some.0.one.2 in omega (arith, l)), some.0.one.3);
            least = λ other apart less. elim (cases_lt other bound) [
              | inl before ↦ some.0.least other apart before
              | inr past ↦ (let here : other ≡ bound = omega (arith, less, past) in subst (λ n. groups ≤ missed_over shards (beside at n)) (sym here) (omega (arith, is, low)))
            ];
          },
          λ zero_. (let w = some.1 zero_ in (w.0, w.1, (let l = w.2 in omega (arith, l)), w.3)),
        )
    | inr high ↦
        let same : min groups missed ≡ missed = min_right groups missed (omega (arith, high)) in
        subst (λ n. LeastUpto shards at (bound + 1) (Some n)) (sym same) (
          record {
            one = (bound, differs, omega arith, sym is);
            least = λ other apart less. elim (cases_lt other bound) [
              | inl before ↦ (let l = some.0.least other apart before in omega (arith, l, high))
              | inr past ↦ (let here : other ≡ bound = omega (arith, less, past) in subst (λ n. missed ≤ missed_over shards (beside at n)) (sym here) (omega (arith, is)))
            ];
          },
          λ zero_. (bound, differs, omega arith, whole zero_),
        )
  ]
