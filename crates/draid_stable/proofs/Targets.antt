-- The pass of a record is in its ranges, and stays so where it loses targets.
use Rattle.std.proofs.Common.{◌≡◌, ◌==◌, ◌<◌, ◌≤◌, ◌+◌, ◌*◌, ◌⊎◌, inl, inr, not, ℕ, zero, suc, Bool, true, false, List, [], ◌∷◌, length, filter, Option, Some, None, IfSome, All, cond, if◌then◌else◌, refl, sym, ap, subst, arith, min, slice_index_or}
use Rattle.std.proofs.lemmas.Bool.{cases_lt}
use Rattle.std.proofs.lemmas.Bool.Decides.{nat_tests}
use Rattle.std.proofs.lemmas.List.Elements.{All-filter, All-head, All-tail}
use Rattle.draid_names.specs.declared.arm.ArmAt.{ArmAt}
use Rattle.draid_names.specs.declared.numbers.TheConstants.{LAST_NUMBER, NUMBERS}
use Rattle.draid_slots.specs.Table.{SlotTable, arms_of}
use Rattle.draid_record.specs.declared.limits.Limits.{Limits}
use Rattle.draid_record.specs.Ranges.{AreTargets, IsPass}
use Rattle.draid_record.specs.Record as told
use Rattle.draid_record.specs.Record.{ArmTold, PassTold, arm_count}
use Rattle.draid_stable.specs.Sealing.{is_lost, lose_marked}
use Rattle.draid_slots.specs.States.{AscendBehind}
use Rattle.draid_names.specs.Arms.{least_arm, least_slot}
use Rattle.draid_stable.specs.Within.{PassFits}

-- ---- places in order

least : (bs ba ts ta us ua : ℕ) → bs ≤ ts → (if ts == bs then ba + 1 else 0) ≤ ta → ts ≤ us → (if us == ts then ta + 1 else 0) ≤ ua → (if us == bs then ba + 1 else 0) ≤ ua
least bs ba ts ta us ua p q r s = grind (arith, nat_tests)

loosen : (before : Option ArmAt) (t : ArmAt) (rest : List ArmAt) → least_slot before ≤ t.slot → least_arm before t.slot ≤ t.arm → AscendBehind (Some t) rest → AscendBehind before rest
loosen before t [] p q asc = tt
loosen None t (u ∷ us) p q asc = (omega arith, omega arith, asc.2)
loosen (Some b) t (u ∷ us) p q asc = ((let a = asc.0 in omega (arith, p, a)), least b.slot b.arm t.slot t.arm u.slot u.arm p q asc.0 asc.1, asc.2)

pub kept_ascend : (p : ArmAt → Bool) (ts : List ArmAt) (before : Option ArmAt) → AscendBehind before ts → AscendBehind before (filter p ts)
kept_ascend p [] before asc = tt
kept_ascend p (t ∷ ts) before asc = by (p t) (kept_ascend p ts (Some t) asc.2)
  where
    by : (b : Bool) → AscendBehind (Some t) (filter p ts) → AscendBehind before (cond b (t ∷ filter p ts) (filter p ts))
    by true rest = (asc.0, asc.1, rest)
    by false rest = loosen before t (filter p ts) asc.0 asc.1 rest

-- ---- how many places come before one
before_slot : List (List ArmTold) → ℕ → ℕ
before_slot [] n = 0
before_slot (x ∷ xs) zero = 0
before_slot (x ∷ xs) (suc n) = length x + before_slot xs n

upto_slot : (all : List (List ArmTold)) (i : ℕ) → before_slot all i + length (slice_index_or all i []) ≤ arm_count all
unfolding before_slot
upto_slot [] i = omega arith
upto_slot (x ∷ xs) zero = omega arith
upto_slot (x ∷ xs) (suc i) = let n = upto_slot xs i in omega (arith, n)

later_slot : (all : List (List ArmTold)) (i j : ℕ) → i < j → before_slot all i + length (slice_index_or all i []) ≤ before_slot all j
unfolding before_slot
later_slot [] i j less = omega arith
later_slot (x ∷ xs) i zero less = absurd (omega (arith, less))
later_slot (x ∷ xs) zero (suc j) less = omega arith
later_slot (x ∷ xs) (suc i) (suc j) less = let n = later_slot xs i j (omega (arith, less)) in omega (arith, n)

no_list : {X : Type 0} (xss : List (List X)) (k : ℕ) → length xss ≤ k → length (slice_index_or xss k []) ≡ 0
no_list [] k far = refl
no_list (x ∷ xs) zero far = absurd (omega (arith, far))
no_list (x ∷ xs) (suc k) far = no_list xs k (omega (arith, far))

count_most : (all : List (List ArmTold)) → ((slot : ℕ) → length (slice_index_or all slot []) ≤ 3) → arm_count all ≤ 3 * length all
count_most [] most = omega arith
count_most (x ∷ xs) most = let n = count_most xs (λ k. most (suc k)) in let m : length x ≤ 3 = most zero in omega (arith, n, m)

module _ (all : List (List ArmTold)) (most : (slot : ℕ) → length (slice_index_or all slot []) ≤ 3) (short : length all ≤ 64) where
  abbrev Here : ArmAt → Type 0
  Here at = at.arm < length (slice_index_or all at.slot [])

  slot_inside : (at : ArmAt) → Here at → at.slot < length all
  slot_inside at here = by (cases_lt at.slot (length all))
    where
      by : (at.slot < length all) ⊎ (length all ≤ at.slot) → at.slot < length all
      by (inl less) = less
      by (inr far) = absurd (let n = no_list all at.slot far in omega (arith, here, n))

  targets_ranged : (ts : List ArmAt) (before : Option ArmAt) → All Here ts → AscendBehind before ts → AreTargets all before ts
  targets_ranged [] before there asc = tt
  targets_ranged (t ∷ ts) before there asc =
      let here : Here t = All-head Here t ts there in
      let inside = slot_inside t here in
      let m = most t.slot in (
        asc.0,
        omega (arith, inside),
        omega (arith, inside, short),
        asc.1,
        omega (arith, here),
        omega (arith, here, m),
        targets_ranged ts (Some t) (All-tail Here t ts there) asc.2,
      )

  rank : ArmAt → ℕ
  rank at = before_slot all at.slot + at.arm

  abbrev behind : Option ArmAt → ℕ
  behind None = 0
  behind (Some b) = rank b + 1

  rank_inside : (b : ArmAt) → Here b → rank b + 1 ≤ arm_count all
  unfolding rank
  rank_inside b here = let n = upto_slot all b.slot in omega (arith, here, n)

  rank_more : (before : Option ArmAt) (t : ArmAt) → IfSome before Here → least_slot before ≤ t.slot → least_arm before t.slot ≤ t.arm → behind before ≤ rank t
  unfolding rank
  rank_more None t here p q = omega arith
  rank_more (Some b) t here p q = by (cases_lt b.slot t.slot)
    where
      same_slot : (i j : ℕ) → i ≤ j → j ≤ i → (j == i) ≡ true
      same_slot i j less far = grind (arith, nat_tests)

      by : (b.slot < t.slot) ⊎ (t.slot ≤ b.slot) → before_slot all b.slot + b.arm + 1 ≤ before_slot all t.slot + t.arm
      by (inl less) = let n = later_slot all b.slot t.slot less in omega (arith, n, here)
      by (inr far) =
          let at : t.slot ≡ b.slot = omega (arith, p, far) in
          let q2 : (if true then b.arm + 1 else 0) ≤ t.arm = subst (λ x. (if x then b.arm + 1 else 0) ≤ t.arm) (same_slot b.slot t.slot p far) q in
          let s : before_slot all t.slot ≡ before_slot all b.slot = ap (before_slot all) at in
          omega (arith, q2, s)

  counted : (ts : List ArmAt) (before : Option ArmAt) → IfSome before Here → All Here ts → AscendBehind before ts → behind before + length ts ≤ arm_count all
  counted [] None here there asc = omega arith
  counted [] (Some b) here there asc = let n = rank_inside b here in omega (arith, n)
  counted (t ∷ ts) before here there asc =
      let n = counted ts (Some t) (All-head Here t ts there) (All-tail Here t ts there) asc.2 in
      let m = rank_more before t here asc.0 asc.1 in
      omega (arith, n, m)

  pub pass_ranged : (limits : Limits) (table : SlotTable) → ((slot : ℕ) → length (slice_index_or all slot []) ≡ length (arms_of table slot)) → (p : PassTold) → PassFits limits table p → IsPass limits all p
  pass_ranged limits table same p fits =
      let there : All Here p.targets = λ k d less. subst (λ n. (slice_index_or p.targets k d).arm < n) (sym (same (slice_index_or p.targets k d).slot)) (fits.there k d less) in
      let few = counted p.targets None tt there fits.ascending in
      let n = count_most all most in
      record {
        runs_if_heal = fits.runs_if_heal;
        some_max = fits.some_max;
        most_max = fits.most_max;
        place = fits.place;
        errors_small = fits.errors_small;
        few = omega (arith, few);
        short = omega (arith, few, n, short);
        targets_are = targets_ranged p.targets None there fits.ascending;
      }

capped_small : (n : ℕ) → min n LAST_NUMBER < NUMBERS
capped_small n = grind (arith)

pub lose_fits : (limits : Limits) (table : SlotTable) (marks : List (List Bool)) (p : PassTold) → PassFits limits table p → PassFits limits table (lose_marked marks p)
lose_fits limits table marks p fits = record {
  runs_if_heal = fits.runs_if_heal;
  some_max = fits.some_max;
  most_max = fits.most_max;
  place = fits.place;
  errors_small = capped_small _;
  there = All-filter (λ place. not (is_lost marks place)) (λ (place : ArmAt). place.arm < length (arms_of table place.slot)) p.targets fits.there;
  ascending = kept_ascend (λ place. not (is_lost marks place)) p.targets None fits.ascending;
}
