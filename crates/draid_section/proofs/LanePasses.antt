-- Passes of the uberblock's lock that are split off one after another, each with the number of its lane.
use Rattle.std.proofs.Common.{◌≡◌, ◌∙◌, ◌++◌, ◌∷◌, ◌&&◌, ◌<◌, ◌≤◌, ◌+◌, arith, ℕ, zero, suc, true, false, List, [], Some, get_or, length, not, sym, ap, subst, refl}
use mathlib.Core.Logic.{dite}
use native.Mathlib.Decide.{ℕ_discrete}
use Rattle.std.specs.Prelude.{slice_get}
use Rattle.std.proofs.lemmas.Bool.Decides.{nat_tests}
use Rattle.std.proofs.lemmas.List.{length_push}
use Rattle.std.proofs.lemmas.List.Sums.{sum_by-cons}
use Rattle.std.proofs.lemmas.Option.{slice_get-get_or, slice_get_within}
use Rattle.draid_turn.specs.Calls.{Caller, Lock, newcomer}
use Rattle.draid_turn.specs.Lists.{one_if}
use Rattle.draid_turn.specs.Numbers.{HoldsOther, HoldsSome, all_numbers, holds, number_limit}
use Rattle.draid_turn.specs.declared.past.Past.{Past}
use Rattle.draid_turn.proofs.Spans.{one_if_true, ones_split}
use Rattle.draid_turn.proofs.Sums.{count_push}
use Rattle.draid_holds.specs.Passes.{AreOf, holders}
use Rattle.draid_pool.proofs.Lists.{present, some_of}
use Rattle.draid_section.specs.Turning.{AreOfLanes, lane_alone}

-- ---- numbers

lane_in : (lane : ℕ) → holds lane (lane_alone lane) ≡ true
lane_in lane = grind (arith, nat_tests)

lane_only : (lane n : ℕ) → holds n (lane_alone lane) ≡ true → n ≡ lane
lane_only lane n is = grind (arith, nat_tests)

lane_none : (lane n : ℕ) → lane < n → holds n (lane_alone lane) ≡ false
lane_none lane n lt = grind (arith, nat_tests)

all_in : (n : ℕ) → n < number_limit → holds n all_numbers ≡ true
all_in n lt = grind (arith, nat_tests)

none_of : {T : Type 0} (n : ℕ) (passes : List (Caller (Past T))) → passes ≡ [] → holders n passes ≡ 0
none_of n passes none = ap (holders n) none

-- ---- lists

pub get_last : {X : Type 0} (xs : List X) (x : X) → slice_get (xs ++ x ∷ []) (length xs) ≡ Some x
get_last [] x = refl
get_last (z ∷ xs) x = get_last xs x

pub get_before : {X : Type 0} (xs : List X) (x : X) (m : ℕ) → m < length xs → slice_get (xs ++ x ∷ []) m ≡ slice_get xs m
get_before [] x m lt = absurd (omega (arith, lt))
get_before (z ∷ xs) x zero lt = refl
get_before (z ∷ xs) x (suc m) lt = get_before xs x m (omega (arith, lt))

-- ---- passes

-- the first lanes have theirs; the first pass holds the numbers of the others
pub record LanesSplit {T : Type 0} (lock : Lock T) (count : ℕ) (passes : List (Caller (Past T))) (first : Caller (Past T)) : Type 0 where
  pub lanes : AreOfLanes lock count passes first
  pub behind : (n : ℕ) → count ≤ n → n < number_limit → holds n first.numbers ≡ true

module _ {T : Type 0} (lock : Lock T) where
  pub split_start : (passes : List (Caller (Past T))) (first : Caller (Past T)) → passes ≡ [] → first ≡ newcomer lock.table [] all_numbers → LanesSplit lock 0 passes first
  split_start passes first none is = record {
    lanes = record {
      many = ap length none;
      each = λ lane pass at. (let within = slice_get_within passes lane pass at in let long : length passes ≡ 0 = ap length none in absurd (omega (arith, within, long)));
      fresh = (ap (λ (c : Caller (Past T)). c.table) is, ap (λ (c : Caller (Past T)). c.seen) is, ap (λ (c : Caller (Past T)). c.own) is);
      left = λ n lt.
          let one = one_if_true (holds n first.numbers) (ap (λ (c : Caller (Past T)). holds n c.numbers) is ∙ all_in n lt) in
          let zero_more = none_of n passes none in omega (arith, one, zero_more);
    };
    behind = λ n from lt. ap (λ (c : Caller (Past T)). holds n c.numbers) is ∙ all_in n lt;
  }

  module _ (lane : ℕ) (passes : List (Caller (Past T))) (first : Caller (Past T)) (r : LanesSplit lock lane passes first) (few : lane < 16) where
    held_next : (n : ℕ) → holds n (lane_alone lane) ≡ true → holds n first.numbers ≡ true
    held_next n is = (let same = lane_only lane n is in r.behind n (omega (arith, same)) (omega (arith, same, few)))

    split_next : (next new : Caller (Past T)) → (next.table ≡ first.table) × (next.seen ≡ first.seen) × (next.own ≡ first.own) → ((n : ℕ) → holds n next.numbers ≡ (holds n first.numbers && not (holds n (lane_alone lane))))
        → new ≡ newcomer first.table first.seen (lane_alone lane) → LanesSplit lock (lane + 1) (passes ++ new ∷ []) next
    split_next next new same left new_is = record {
      lanes = record {
        many = length_push passes new ∙ ap (λ n. n + 1) r.lanes.many;
        each = λ m pass at. dite (ℕ_discrete m lane)
            (λ is.
            some_of (slice_get (passes ++ new ∷ []) m) pass new at (ap (slice_get (passes ++ new ∷ [])) (is ∙ sym r.lanes.many) ∙ get_last passes new)
            ∙ (new_is ∙ (λ k. newcomer (r.lanes.fresh.0 k) (r.lanes.fresh.1 k) (lane_alone (sym is k)))))
            (λ not_it.
            let within = slice_get_within (passes ++ new ∷ []) m pass at in
            let long = length_push passes new in
            let many = r.lanes.many in r.lanes.each m pass (sym (get_before passes new m (omega (arith, within, long, many, not_it))) ∙ at));
        fresh = (same.0 ∙ r.lanes.fresh.0, same.1 ∙ r.lanes.fresh.1, same.2 ∙ r.lanes.fresh.2);
        left = λ n lt.
            let was = r.lanes.left n lt in
            let more = count_push (λ (c : Caller (Past T)). holds n c.numbers) passes new in
            let new_has : one_if (holds n new.numbers) ≡ one_if (holds n (lane_alone lane)) = ap (λ (c : Caller (Past T)). one_if (holds n c.numbers)) new_is in
            let split = ones_split (holds n first.numbers) (holds n (lane_alone lane)) (held_next n) in
            let now_is : one_if (holds n next.numbers) ≡ one_if (holds n first.numbers && not (holds n (lane_alone lane))) = ap one_if (left n) in
            omega (arith, was, more, new_has, split, now_is);
      };
      behind = λ n from lt. left n ∙ ((λ k. r.behind n (omega (arith, from)) lt k && not (lane_none lane n (omega (arith, from)) k)));
    }

  module _ (count lane number : ℕ) (passes : List (Caller (Past T))) (first : Caller (Past T)) (r : LanesSplit lock lane passes first) (few : count ≤ 16) (below : lane < count) (is : number ≡ lane) where
    within : lane < 16
    within = omega (arith, few, below)

    pub lane_some : HoldsSome (lane_alone number)
    lane_some = record { number = number; held = lane_in number }

    -- the first pass holds the number of the next lane
    pub lane_held : (n : ℕ) → holds n (lane_alone number) ≡ true → holds n first.numbers ≡ true
    lane_held n there = held_next lane passes first r within n (ap (λ k. holds n (lane_alone k)) (sym is) ∙ there)

    -- and another
    pub lane_other : HoldsOther first.numbers (lane_alone number)
    lane_other = (let lt = within in record { number = lane + 1; held = r.behind (lane + 1) (omega arith) (omega (arith, lt)); kept = lane_none number (lane + 1) (omega (arith, is)) })

    pub split_more : (passes' : List (Caller (Past T))) (next new : Caller (Past T)) → (next.table ≡ first.table) × (next.seen ≡ first.seen) × (next.own ≡ first.own) → ((n : ℕ) → holds n next.numbers ≡ (holds n first.numbers && not (holds n (lane_alone number))))
        → new ≡ newcomer first.table first.seen (lane_alone number) → passes' ≡ passes ++ new ∷ [] → LanesSplit lock (lane + 1) passes' next
    split_more passes' next new same left new_is pushed =
        subst (λ ps. LanesSplit lock (lane + 1) ps next) (sym pushed)
        (split_next lane passes first r within next new same (λ n. left n ∙ ap (λ k. holds n first.numbers && not (holds n (lane_alone k))) is) (new_is ∙ ap (λ k. newcomer first.table first.seen (lane_alone k)) is))

  pub split_all : (count lane : ℕ) (passes : List (Caller (Past T))) (first : Caller (Past T)) → LanesSplit lock lane passes first → lane ≡ count → AreOfLanes lock count passes first
  split_all count lane passes first r is = subst (λ n. AreOfLanes lock n passes first) is r.lanes

-- ---- what is held behind the lanes' holds

module _ {T : Type 0} where
  holders_same : (n : ℕ) (old new : List (Caller (Past T))) → length new ≡ length old → ((lane : ℕ) (pass next : Caller (Past T)) → slice_get old lane ≡ Some pass → slice_get new lane ≡ Some next → next.numbers ≡ pass.numbers) → holders n new ≡ holders n old
  holders_same n [] [] many same = refl
  holders_same n [] (y ∷ ys) many same = absurd (omega (arith, many))
  holders_same n (x ∷ xs) [] many same = absurd (omega (arith, many))
  holders_same n (x ∷ xs) (y ∷ ys) many same =
      let mine = sum_by-cons (λ (c : Caller (Past T)). one_if (holds n c.numbers)) y ys in
      let was = sum_by-cons (λ (c : Caller (Past T)). one_if (holds n c.numbers)) x xs in
      let one : one_if (holds n y.numbers) ≡ one_if (holds n x.numbers) = ap (λ ns. one_if (holds n ns)) (same 0 x y refl refl) in
      let rest = holders_same n xs ys (omega (arith, many)) (λ lane pass next. same (suc lane) pass next) in omega (arith, mine, was, one, rest)

  -- where each lane's pass holds what it held, each number is held by the first pass or by one of these
  pub lanes_hold : (lock : Lock T) (count : ℕ) (old new : List (Caller (Past T))) (first : Caller (Past T)) → AreOfLanes lock count old first → length new ≡ length old
      → ((lane : ℕ) (pass next : Caller (Past T)) → slice_get old lane ≡ Some pass → slice_get new lane ≡ Some next → next.numbers ≡ pass.numbers) → (n : ℕ) → n < number_limit → 1 ≤ one_if (holds n first.numbers) + holders n new
  lanes_hold lock count old new first are many same n lt =
      let one = are.left n lt in
      let theirs = holders_same n old new many same in omega (arith, one, theirs)

  -- and where each is of the lock of which it was, all are
  pub lanes_own : (lock : Lock T) (count : ℕ) (old new : List (Caller (Past T))) (first : Caller (Past T)) → AreOfLanes lock count old first → length new ≡ length old
      → ((lane : ℕ) (pass next : Caller (Past T)) → slice_get old lane ≡ Some pass → slice_get new lane ≡ Some next → next.table ≡ pass.table) → AreOf lock new
  lanes_own lock count old new first are many same lane next lt =
      let there = slice_get-get_or new lane next lt in
      let was = present old lane (omega (arith, lt, many)) in same lane was.0 (get_or new lane next) was.1 there ∙ ap (λ (c : Caller (Past T)). c.table) (are.each lane was.0 was.1)
