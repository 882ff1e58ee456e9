-- The levels of a group's logs, as one log after the other is added.
use Rattle.std.proofs.Common.{◌≡◌, ◌∙◌, ◌+◌, ◌<◌, ◌≤◌, ◌&&◌, ◌||◌, ℕ, zero, suc, Bool, true, false, cond, inl, inr, Result, Ok, Err, List, [], ◌∷◌, ◌++◌, length, get_or, take, sym, ap, ap₂, arith, length-append}
use Rattle.std.specs.Prelude.{nat_lt, IfOk}
use Rattle.std.proofs.Math.Seq.{get_or-append_seam}
use Rattle.std.proofs.lemmas.Bool.{cases_lt}
use Rattle.std.proofs.lemmas.Bool.Decides.{nat_tests}
use Rattle.std.proofs.lemmas.List.{take_all, get_or_append_left}
use Rattle.std.proofs.lemmas.List.Sums.{count_by-le-length, sum_by_more}
use Rattle.draid_ranges.specs.Numbers.{Has, Numbers, has}
use Rattle.draid_dtl.specs.Logs.{AreLevels, AreRaised, group_misses, times_missed}

-- no more logs than so many have a group
pub few_miss : (parity : ℕ) (logs : List Numbers) (x : ℕ) → length logs ≤ parity → false ≡ group_misses parity logs x
few_miss parity logs x few = none parity (times_missed logs x) (let many = count_by-le-length (λ (log : Numbers). has log x) logs in omega (arith, many))
  where
    none : (k n : ℕ) → n ≤ k → false ≡ nat_lt k n
    none k n le = grind (arith, nat_tests)

pub no_levels : (levels : List Numbers) → ((k : ℕ) (d : Numbers) → k < length levels → (x : ℕ) → has (get_or levels k d) x ≡ false) → AreLevels levels []
no_levels levels empty k d below x = empty k d below x ∙ few_miss k [] x (omega arith)

lowest : (n : ℕ) (b : Bool) → (nat_lt 0 n || (b && true)) ≡ nat_lt 0 (n + cond b 1 0)
lowest n true = grind (arith, nat_tests)
lowest n false = grind (arith, nat_tests)

higher : (k n : ℕ) (b : Bool) → (nat_lt (suc k) n || (b && nat_lt k n)) ≡ nat_lt (suc k) (n + cond b 1 0)
higher k n true = grind (arith, nat_tests)
higher k n false = grind (arith, nat_tests)

pub levels_more : (levels new logs : List Numbers) (log d : Numbers) (n : ℕ) → n < length logs → log ≡ get_or logs n d → AreRaised levels new log 0
    → AreLevels levels (take n logs) → AreLevels new (take (n + 1) logs)
levels_more levels new logs log d n below is raised were = level
  where
    counted : (x : ℕ) → times_missed (take n logs) x + cond (has log x) 1 0 ≡ times_missed (take (n + 1) logs) x
    counted x = ap (λ (l : Numbers). times_missed (take n logs) x + cond (has l x) 1 0) is ∙ sym (sum_by_more (λ (l : Numbers). cond (has l x) 1 0) logs n d below)

    level : (k : ℕ) (e : Numbers) → k < length new → (x : ℕ) → has (get_or new k e) x ≡ group_misses k (take (n + 1) logs) x
    level zero e k_below x =
        let len = raised.len in
        raised.raised 0 e (omega arith) (omega (arith, len)) x
        ∙ ap (λ b. b || (has log x && true)) (were 0 e (omega (arith, len)) x)
        ∙ lowest (times_missed (take n logs) x) (has log x) ∙ ap (nat_lt 0) (counted x)
    level (suc k) e k_below x =
        let len = raised.len in
        raised.raised (suc k) e (omega arith) (omega (arith, len)) x
        ∙ ap₂ (λ b l. b || (has log x && l)) (were (suc k) e (omega (arith, len)) x) (were k e (omega (arith, len)) x)
        ∙ higher k (times_missed (take n logs) x) (has log x) ∙ ap (nat_lt (suc k)) (counted x)

ok_map : {T E : Type 0} (P Q : T → Type 0) (r : Result T E) → ((value : T) → P value → Q value) → IfOk r P → IfOk r Q
ok_map P Q (Ok value) more known = more value known
ok_map P Q (Err e) more known = tt

-- the last level has what the group misses
pub last_misses : {E : Type 0} (result : Result Numbers E) (levels logs : List Numbers) (parity n : ℕ) → parity < length levels → length logs ≤ n → AreLevels levels (take n logs)
    → IfOk result (λ log. Has log (has (get_or levels parity log))) → IfOk result (λ log. Has log (group_misses parity logs))
last_misses result levels logs parity n below past were last =
    ok_map (λ log. Has log (has (get_or levels parity log))) (λ log. Has log (group_misses parity logs)) result
    (λ log same x. same x ∙ were parity log below x ∙ ap (λ ls. group_misses parity ls x) (take_all n logs past)) last

-- one more empty level
pub empty_more : (levels new : List Numbers) (empty : Numbers) → new ≡ levels ++ empty ∷ [] → ((x : ℕ) → has empty x ≡ false)
    → ((k : ℕ) (d : Numbers) → k < length levels → (x : ℕ) → has (get_or levels k d) x ≡ false)
    → (k : ℕ) (d : Numbers) → k < length new → (x : ℕ) → has (get_or new k d) x ≡ false
empty_more levels new empty is none were k d below x = elim (cases_lt k (length levels)) [
  | inl low ↦ ap (λ l. has l x) (ap (λ ls. get_or ls k d) is ∙ get_or_append_left levels (empty ∷ []) d k low) ∙ were k d low x
  | inr high ↦
      let many = length-append levels (empty ∷ []) in
      let longer = ap length is in
      let last : k ≡ length levels = omega (arith, many, longer) in
      ap (λ l. has l x) (ap₂ (λ ls m. get_or ls m d) is last ∙ get_or-append_seam levels empty [] d) ∙ none x
]
