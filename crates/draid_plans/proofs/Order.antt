-- Places in order: none stands twice.
use Rattle.std.proofs.Common.{◌≡◌, ◌==◌, ◌+◌, ◌<◌, ◌≤◌, ◌⊎◌, ◌||◌, ◌&&◌, ◌++◌, ◌∙◌, ℕ, zero, suc, Bool, true, false, List, [], ◌∷◌, Option, Some, None, All, arith, refl, sym, ap, subst, inl, inr, length, filter, cond, take, get_or, slice_index_or, if◌then◌else◌}
use Rattle.std.proofs.lemmas.Bool.Decides.{nat_tests}
use Rattle.std.proofs.lemmas.List.{append-nil, append_assoc, take_more}
use Rattle.std.proofs.lemmas.List.Elements.{All-append, All-filter, All-head, All-nil, All-push, All-tail, All-weaker}
use Rattle.draid_names.specs.declared.arm.ArmAt.{ArmAt}
use Rattle.draid_slots.specs.States.{AscendBehind}
use Rattle.draid_names.specs.Arms.{least_arm, least_slot}
use Rattle.draid_slots.specs.Table.{SlotTable, IsThere, arms_of, is_at}
use Rattle.draid_plans.specs.Logs.{has_place}
use Rattle.draid_plans.specs.Targets.{places_below, places_in}

-- ---- behind a place
least : (bs ba ts ta us ua : ℕ) → bs ≤ ts → (if ts == bs then ba + 1 else 0) ≤ ta → ts ≤ us → (if us == ts then ta + 1 else 0) ≤ ua → (if us == bs then ba + 1 else 0) ≤ ua
least bs ba ts ta us ua p q r s = grind (arith, nat_tests)

loosen : (before : Option ArmAt) (t : ArmAt) (rest : List ArmAt) → least_slot before ≤ t.slot → least_arm before t.slot ≤ t.arm → AscendBehind (Some t) rest → AscendBehind before rest
loosen before t [] p q asc = tt
loosen None t (u ∷ us) p q asc = (omega arith, omega arith, asc.2)
loosen (Some b) t (u ∷ us) p q asc = ((let a = asc.0 in omega (arith, p, a)), least b.slot b.arm t.slot t.arm u.slot u.arm p q asc.0 asc.1, asc.2)

pub kept_ascend : (p : ArmAt → Bool) (ts : List ArmAt) (before : Option ArmAt) → AscendBehind before ts → AscendBehind before (filter p ts)
kept_ascend p [] before asc = tt
kept_ascend p (t ∷ ts) before asc = by (p t) (kept_ascend p ts (Some t) asc.2)
  where
    by : (b : Bool) → AscendBehind (Some t) (filter p ts) → AscendBehind before (cond b (t ∷ filter p ts) (filter p ts))
    by true rest = (asc.0, asc.1, rest)
    by false rest = loosen before t (filter p ts) asc.0 asc.1 rest

apart : (ts ta us ua : ℕ) → (if us == ts then ta + 1 else 0) ≤ ua → ((ts == us) && (ta == ua)) ≡ false
apart ts ta us ua less = grind (arith, nat_tests)

not_behind : (t : ArmAt) (ts : List ArmAt) (k : ℕ) (d : ArmAt) → AscendBehind (Some t) ts → k < length ts → is_at t (get_or ts k d) ≡ false
not_behind t [] k d asc less = absurd (omega (arith, less))
not_behind t (u ∷ us) zero d asc less = apart t.slot t.arm u.slot u.arm asc.1
not_behind t (u ∷ us) (suc k) d asc less = not_behind t us k d (loosen (Some t) u us asc.0 asc.1 asc.2) (omega (arith, less))

-- one isn't among those before it
pub stands_once : (ts : List ArmAt) (before : Option ArmAt) (k : ℕ) (d : ArmAt) → AscendBehind before ts → k < length ts → has_place (take k ts) (get_or ts k d) ≡ false
stands_once [] before k d asc less = absurd (omega (arith, less))
stands_once (t ∷ ts) before zero d asc less = refl
stands_once (t ∷ ts) before (suc k) d asc less =
    ap (λ b. b || has_place (take k ts) (get_or ts k d)) (not_behind t ts k d asc.2 (omega (arith, less))) ∙ stands_once ts (Some t) k d asc.2 (omega (arith, less))

-- one more of a list
has_append : (xs ys : List ArmAt) (at : ArmAt) → has_place (xs ++ ys) at ≡ (has_place xs at || has_place ys at)
has_append [] ys at = refl
has_append (x ∷ xs) ys at = ap (λ b. is_at x at || b) (has_append xs ys at) ∙ assoc (is_at x at) (has_place xs at) (has_place ys at)
  where
    assoc : (a b c : Bool) → (a || (b || c)) ≡ ((a || b) || c)
    assoc true b c = refl
    assoc false b c = refl

pub has_more : (ts : List ArmAt) (k : ℕ) (d at : ArmAt) → k < length ts → (has_place (take k ts) at || is_at (get_or ts k d) at) ≡ has_place (take (k + 1) ts) at
has_more ts k d at less =
    ap (λ b. has_place (take k ts) at || b) (sym (last (is_at (get_or ts k d) at)))
    ∙ sym (has_append (take k ts) (get_or ts k d ∷ []) at) ∙ ap (λ xs. has_place xs at) (sym (take_more ts k d less))
  where
    last : (b : Bool) → (b || false) ≡ b
    last true = refl
    last false = refl

-- ---- all places ascend
abbrev Comes : ArmAt → ArmAt → Type 0
Comes t x = (x.slot ≤ t.slot) × ((if t.slot == x.slot then x.arm + 1 else 0) ≤ t.arm)

ascend_more : (before : Option ArmAt) (xs : List ArmAt) (t : ArmAt) → AscendBehind before xs → All (Comes t) xs → least_slot before ≤ t.slot → least_arm before t.slot ≤ t.arm
    → AscendBehind before (xs ++ t ∷ [])
ascend_more before [] t asc all p q = (p, q, tt)
ascend_more before (x ∷ xs) t asc all p q =
    (asc.0, asc.1, ascend_more (Some x) xs t asc.2 (All-tail (Comes t) x xs all) (All-head (Comes t) x xs all).0 (All-head (Comes t) x xs all).1)

-- those of slots before one, or of that slot and before an arm
abbrev IsBefore : ℕ → ℕ → ArmAt → Type 0
IsBefore slot n x = (x.slot < slot) ⊎ ((x.slot ≡ slot) × (x.arm < n))

comes : (slot n : ℕ) (x : ArmAt) → IsBefore slot n x → Comes (record { slot = slot; arm = n }) x
comes slot n x (inl less) = (omega (arith, less), other slot x.slot x.arm n less)
  where
    other : (s xs xa n : ℕ) → xs < s → (if s == xs then xa + 1 else 0) ≤ n
    other s xs xa n less = grind (arith, nat_tests)
comes slot n x (inr here) = ((let same = here.0 in omega (arith, same)), same_slot slot x.slot x.arm n here.0 here.1)
  where
    same_slot : (s xs xa n : ℕ) → xs ≡ s → xa < n → (if s == xs then xa + 1 else 0) ≤ n
    same_slot s xs xa n e less = grind (arith, nat_tests)

abbrev Ord : ℕ → ℕ → List ArmAt → Type 0
Ord slot n xs = AscendBehind None xs × All (IsBefore slot n) xs

ord_more : (slot n : ℕ) (xs : List ArmAt) → Ord slot n xs → Ord slot (suc n) (xs ++ record { slot = slot; arm = n } ∷ [])
ord_more slot n xs ord = (
  ascend_more None xs (record { slot = slot; arm = n }) ord.0 (All-weaker (IsBefore slot n) (Comes (record { slot = slot; arm = n })) (comes slot n) xs ord.1) (omega arith) (omega arith),
  All-push (IsBefore slot (suc n)) xs (record { slot = slot; arm = n }) (All-weaker (IsBefore slot n) (IsBefore slot (suc n)) wider xs ord.1) (inr (refl, omega arith)),
)
  where
    wider : (x : ArmAt) → IsBefore slot n x → IsBefore slot (suc n) x
    wider x (inl less) = inl less
    wider x (inr here) = inr (here.0, (let less = here.1 in omega (arith, less)))

ord_in : (slot n : ℕ) (xs : List ArmAt) → Ord slot 0 xs → Ord slot n (xs ++ places_in slot n)
ord_in slot zero xs ord = subst (Ord slot 0) (sym (append-nil xs)) ord
ord_in slot (suc n) xs ord =
    subst (Ord slot (suc n)) (append_assoc xs (places_in slot n) (record { slot = slot; arm = n } ∷ [])) (ord_more slot n (xs ++ places_in slot n) (ord_in slot n xs ord))

ord_below : (slots : SlotTable) (n : ℕ) → Ord n 0 (places_below slots n)
ord_below slots zero = (tt, All-nil (IsBefore 0 0))
ord_below slots (suc n) =
    let here = ord_in n (length (arms_of slots n)) (places_below slots n) (ord_below slots n) in
    (here.0, All-weaker (IsBefore n (length (arms_of slots n))) (IsBefore (suc n) 0) later (places_below slots (suc n)) here.1)
  where
    later : (x : ArmAt) → IsBefore n (length (arms_of slots n)) x → IsBefore (suc n) 0 x
    later x (inl less) = inl (omega (arith, less))
    later x (inr here) = inl (let same = here.0 in omega (arith, same))

pub places_ascend : (slots : SlotTable) (n : ℕ) → AscendBehind None (places_below slots n)
places_ascend slots n = (ord_below slots n).0

-- ---- all places are there
there_in : (slots : SlotTable) (slot n : ℕ) → n ≤ length (arms_of slots slot) → All (IsThere slots) (places_in slot n)
there_in slots slot zero less = All-nil (IsThere slots)
there_in slots slot (suc n) less = All-push (IsThere slots) (places_in slot n) (record { slot = slot; arm = n }) (there_in slots slot n (omega (arith, less))) (omega (arith, less))

pub there_below : (slots : SlotTable) (n : ℕ) → All (IsThere slots) (places_below slots n)
there_below slots zero = All-nil (IsThere slots)
there_below slots (suc n) =
    All-append (IsThere slots) (places_below slots n) (places_in n (length (arms_of slots n))) (there_below slots n) (there_in slots n (length (arms_of slots n)) (omega arith))

-- ---- the targets of a kind
pub targets_there : (slots : SlotTable) (p : ArmAt → Bool) (n : ℕ) (ts : List ArmAt) → ts ≡ filter p (places_below slots n) → All (IsThere slots) ts
targets_there slots p n ts are = subst (All (IsThere slots)) (sym are) (All-filter p (IsThere slots) (places_below slots n) (there_below slots n))

pub targets_ascend : (slots : SlotTable) (p : ArmAt → Bool) (n : ℕ) (ts : List ArmAt) → ts ≡ filter p (places_below slots n) → AscendBehind None ts
targets_ascend slots p n ts are = subst (AscendBehind None) (sym are) (kept_ascend p (places_below slots n) None (places_ascend slots n))

pub there_still : (old new : SlotTable) (ts : List ArmAt) → new.arms ≡ old.arms → All (IsThere old) ts → All (IsThere new) ts
there_still old new ts same there = subst (λ all. All (λ (at : ArmAt). at.arm < length (slice_index_or all at.slot [])) ts) (sym same) there
