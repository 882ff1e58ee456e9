-- Rounds over metaslabs grow at their end, as a loop makes them.
use Rattle.std.proofs.Common.{◌≡◌, ◌==◌, ◌≤◌, ◌+◌, ◌∙◌, ℕ, suc, Bool, true, Option, Some, None, MatchOption, arith, refl, ap, subst, if◌then◌else◌, eq-eqb, ne_eqb}
use mathlib.Core.Logic.{dite}
use native.Mathlib.Decide.{ℕ_discrete}
use Rattle.draid_rack.specs.declared.Rack as racks
use Rattle.draid_area.specs.declared.Area as areas
use Rattle.draid_shard.specs.declared.shard.Shard.{Shard}
use Rattle.draid_pool.specs.Drifts.{Drifts}
use Rattle.draid_pool.specs.Rounds.{EachIs, HeldEach, HeldOnce}

-- ---- answers of operations

pub did_some : {T : Type 0} (P : T → Type 0) (out : Option T) (it : T) → MatchOption out ⊥ P → out ≡ Some it → P it
did_some P None it did is = absurd did
did_some P (Some x) it did is = (let same : x ≡ it = cc in subst P same did)

pub did_not : {T : Type 0} (P : T → Type 0) (out : Option T) → MatchOption out ⊥ P → out ≡ None → ⊥
did_not P None did is = did
did_not P (Some x) did is = absurd (cc)

pub may_some : {T : Type 0} (Q : Type 0) (P : T → Type 0) (out : Option T) (it : T) → MatchOption out Q P → out ≡ Some it → P it
may_some Q P None it did is = absurd (cc)
may_some Q P (Some x) it did is = (let same : x ≡ it = cc in subst P same did)

pub may_not : {T : Type 0} (Q : Type 0) (P : T → Type 0) (out : Option T) → MatchOption out Q P → out ≡ None → Q
may_not Q P None did is = did
may_not Q P (Some x) did is = absurd (cc)

-- an operation that concerns a number of the thread's own
pub concerns_own : (owns : ℕ → Bool) (number n : ℕ) → owns number ≡ true → Some number ≡ Some n → owns n ≡ true
concerns_own owns number n own is = (let same : number ≡ n = cc in subst (λ k. owns k ≡ true) same own)

-- ---- each metaslab

module _ {R A : Type 0} (is : Shard R A → Type 0) (last now : ℕ → Option (Shard R A)) (m : ℕ) (after : Shard R A) (sets : (k : ℕ) → now k ≡ (if k == m then Some after else last k)) (so : is after) where
  -- the one that was held is so, and the others are as they were
  at_one : (k : ℕ) → ((k ≡ m → ⊥) → (shard : Shard R A) × (last k ≡ Some shard) × is shard) → (shard : Shard R A) × (now k ≡ Some shard) × is shard
  at_one k others = dite (ℕ_discrete k m)
      (λ same. (after, sets k ∙ ap (λ b. if b then Some after else last k) (eq-eqb k m same), so))
      (λ not. (let z = others not in (z.0, sets k ∙ (ap (λ b. if b then Some after else last k) (ne_eqb k m not) ∙ z.1), z.2)))

  pub each_stays : (count : ℕ) → EachIs count is last → EachIs count is now
  each_stays count each k less = at_one k (λ not. each k less)

  pub each_more : EachIs m is last → EachIs (m + 1) is now
  each_more each k less = at_one k (λ not. each k (omega (arith, less, not)))

-- all are so
pub each_all : {R A : Type 0} (is : Shard R A → Type 0) (last : ℕ → Option (Shard R A)) (n count : ℕ) → count ≤ n → EachIs n is last → EachIs count is last
each_all is last n count all each k less = each k (omega (arith, less, all))

one_on : (m : ℕ) → suc m ≡ m + 1
one_on m = omega arith

module _ {R A S : Type 0} (rack : racks.Ghosts R) (area : areas.Ghosts A) (last : S → ℕ → Option (Shard R A)) (went : S → ℕ → Shard R A → Shard R A → S → Type 0) (shared : Bool) (owns : ℕ → Bool) (does : ℕ → Shard R A → Shard R A → Type 0) where
  pub round_more : (m sum more : ℕ) (a mid b : S) → HeldEach rack area last went shared owns does m a sum mid → HeldOnce rack area last went shared owns (does more) mid m b
      → HeldEach rack area last went shared owns does (m + 1) a (sum + more) b
  round_more m sum more a mid b each once = subst (λ n. HeldEach rack area last went shared owns does n a (sum + more) b) (one_on m) (mid, sum, more, each, once, refl)

  pub round_all : (n count sum : ℕ) (a b : S) → n ≤ count → count ≤ n → HeldEach rack area last went shared owns does n a sum b → HeldEach rack area last went shared owns does count a sum b
  round_all n count sum a b low high each = subst (λ k. HeldEach rack area last went shared owns does k a sum b) (let same : n ≡ count = omega (arith, low, high) in same) each

module _ {R A S : Type 0} (rack : racks.Ghosts R) (area : areas.Ghosts A) (last : S → ℕ → Option (Shard R A)) (went : S → ℕ → Shard R A → Shard R A → S → Type 0) (shared : Bool) where
  -- a hold that was made
  pub held_by : (now owns : ℕ → Bool) → now ≡ owns → (did : Shard R A → Shard R A → Type 0) (a : S) (m : ℕ) (b : S) (shard before after : Shard R A) → last a m ≡ Some shard → Drifts rack area shared now shard before
      → ((k : ℕ) → last b k ≡ (if k == m then Some after else last a k)) → went a m before after b → did before after → HeldOnce rack area last went shared owns did a m b
  held_by now owns same did a m b shard before after there drifts is goes done = record {
    shard = shard;
    there = there;
    before = before;
    after = after;
    drifts = subst (λ o. Drifts rack area shared o shard before) same drifts;
    did = done;
    is = is;
    goes = goes;
  }

-- those behind the one that was held are as they were
pub beyond : {T : Type 0} (first last now : ℕ → Option T) (m : ℕ) (after : T) → ((k : ℕ) → now k ≡ (if k == m then Some after else last k)) → ((k : ℕ) → m ≤ k → last k ≡ first k) → (k : ℕ) → m + 1 ≤ k → now k ≡ first k
beyond first last now m after sets rest k from = sets k ∙ (ap (λ b. if b then Some after else last k) (ne_eqb k m (λ same. omega (arith, same, from))) ∙ rest k (omega (arith, from)))
