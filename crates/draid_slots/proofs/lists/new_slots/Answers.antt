use Rattle.draid_slots.proofs.Tables.{if_ok_passed}
use Rattle.std.proofs.Common.{arith, ◌≡◌, ◌<◌, ◌+◌, ◌++◌, ◌∷◌, [], ℕ, List, false, map, length, get_or, ap, sym, ◌∙◌, inl, inr}
use Rattle.std.specs.Prelude.{All, slice_index_or}
use Rattle.std.proofs.Math.Seq.{get_or-append_seam}
use Rattle.std.proofs.lemmas.Bool.{cases_lt}
use Rattle.std.proofs.lemmas.List.{get_or_append_left, get_or_past, length-map, length_push, map-append}
use Rattle.std.proofs.lemmas.List.Elements.{All-push}
use Rattle.draid_names.specs.declared.arm.ArmAt.{ArmAt}
use Rattle.draid_ranges.specs.Numbers.{has}
use Rattle.draid_slots.specs.Changes.{new_arm}
use Rattle.draid_slots.specs.declared.slot.Slot.{Slot}
use Rattle.draid_slots.specs.Table.{IsPaired, arms_in, log_in, logs_in, no_log}
use Rattle.draid_slots.proofs.lists.new_slots.Goals as goal

-- what is read of a list with one more at its end
others : {A : Type 0} (xs : List A) (x d : A) (i : ℕ) → (i ≡ length xs → ⊥) → get_or (xs ++ x ∷ []) i d ≡ get_or xs i d
others xs x d i other = elim (cases_lt i (length xs)) [
  | inl lt ↦ get_or_append_left xs (x ∷ []) d i lt
  | inr ge ↦ get_or_past (xs ++ x ∷ []) i d (omega (arith, length_push xs x, other)) ∙ sym (get_or_past xs i d ge)
]

mapped : {A : Type 0} (f : Slot → A) (xs ys : List Slot) (x : Slot) → ys ≡ xs ++ x ∷ [] → map f ys ≡ map f xs ++ f x ∷ []
mapped f xs ys x is = ap (λ (l : List Slot). map f l) is ∙ map-append f xs (x ∷ [])

here : {A : Type 0} (f : Slot → A) (xs ys : List Slot) (x : Slot) (d : A) (i : ℕ) → ys ≡ xs ++ x ∷ [] → i ≡ length xs → get_or (map f ys) i d ≡ f x
here f xs ys x d i is at =
    let e : i ≡ length (map f xs) = at ∙ sym (length-map xs f) in
    rw (mapped f xs ys x is, e) (get_or-append_seam (map f xs) (f x) [] d)

there : {A : Type 0} (f : Slot → A) (xs ys : List Slot) (x : Slot) (d : A) (i : ℕ) → ys ≡ xs ++ x ∷ [] → (i ≡ length xs → ⊥) → get_or (map f ys) i d ≡ get_or (map f xs) i d
there f xs ys x d i is other = rw (mapped f xs ys x is) (others (map f xs) (f x) d i (λ at. other (at ∙ length-map xs f)))

arms_more : (xs ys : List Slot) (x : Slot) (n : ℕ) → ys ≡ xs ++ x ∷ [] → length xs ≡ n → arms_in x ≡ new_arm n ∷ []
    → ((slot : ℕ) → slot < n → get_or (map arms_in xs) slot [] ≡ new_arm slot ∷ []) → (slot : ℕ) → slot < n + 1 → get_or (map arms_in ys) slot [] ≡ new_arm slot ∷ []
arms_more xs ys x n is count new before slot low = elim (cases_lt slot n) [
  | inl lt ↦ there arms_in xs ys x [] slot is (λ at. omega (arith, at, count, lt)) ∙ before slot lt
  | inr ge ↦
      let e : n ≡ slot = omega (arith, ge, low) in
      here arms_in xs ys x [] slot is (sym (count ∙ e)) ∙ (new ∙ ap (λ (k : ℕ). new_arm k ∷ []) e)
]

logs_more : (xs ys : List Slot) (x : Slot) → ys ≡ xs ++ x ∷ [] → ((k group : ℕ) → has (slice_index_or (logs_in x) k no_log) group ≡ false)
    → ((at : ArmAt) (group : ℕ) → has (log_in (map logs_in xs) at) group ≡ false) → (at : ArmAt) (group : ℕ) → has (log_in (map logs_in ys) at) group ≡ false
logs_more xs ys x is new before at group =
    elim (cases_lt at.slot (length xs)) [
      | inl lt ↦ rw (there logs_in xs ys x [] at.slot is (λ same. omega (arith, same, lt))) (before at group)
      | inr ge ↦ elim (cases_lt (length xs) at.slot) [
        | inl lt ↦ rw (there logs_in xs ys x [] at.slot is (λ same. omega (arith, same, lt))) (before at group)
        | inr le ↦ (let e : at.slot ≡ length xs = omega (arith, ge, le) in rw (here logs_in xs ys x [] at.slot is e) (new at.arm group))
      ]
    ]

all_more : (xs ys : List Slot) (x : Slot) → ys ≡ xs ++ x ∷ [] → All IsPaired xs → IsPaired x → All IsPaired ys
all_more xs ys x is before new = rw is (All-push IsPaired xs x before new)

count_more : (xs ys : List Slot) (x : Slot) (n : ℕ) → ys ≡ xs ++ x ∷ [] → length xs ≡ n → length ys ≡ n + 1
count_more xs ys x n is count = ap (λ (l : List Slot). length l) is ∙ (length_push xs x ∙ ap (λ (k : ℕ). k + 1) count)

pub loop-number-preserved : goal.loop-number-preserved
loop-number-preserved c =
    let xs = c.loop-number.slots.items in
    let ys = c.push.new.self.items in
    let x : Slot = c.in_ok-new_slot.field-0 in
    let is = c.in_ok-push.ensures.items in
    let was = c.loop-number.invariant in
    let new = c.in_ok-new_slot.ensures in
    record {
      paired = all_more xs ys x is was.paired new.paired;
      count = count_more xs ys x c.loop-number.number is was.count;
      arms = arms_more xs ys x c.loop-number.number is was.count new.arms was.arms;
      logs = logs_more xs ys x is new.logs was.logs;
    }

pub overflow_cast-children : goal.overflow_cast-children
overflow_cast-children c = omega arith

pub returns-in_err-slots-clause-paired : goal.returns-in_err-slots-clause-paired
returns-in_err-slots-clause-paired c = if_ok_passed _ c.from_residual.result _ c.from_residual.ensures.1

pub returns-in_err-slots-clause-count : goal.returns-in_err-slots-clause-count
returns-in_err-slots-clause-count c = if_ok_passed _ c.from_residual.result _ c.from_residual.ensures.1

pub returns-in_err-slots-clause-arms : goal.returns-in_err-slots-clause-arms
returns-in_err-slots-clause-arms c = if_ok_passed _ c.from_residual.result _ c.from_residual.ensures.1

pub returns-in_err-slots-clause-logs : goal.returns-in_err-slots-clause-logs
returns-in_err-slots-clause-logs c = if_ok_passed _ c.from_residual.result _ c.from_residual.ensures.1

pub returns-in_err-new_slot-clause-paired : goal.returns-in_err-new_slot-clause-paired
returns-in_err-new_slot-clause-paired c = if_ok_passed _ c.from_residual-in_err-new_slot.result _ c.from_residual-in_err-new_slot.ensures.1

pub returns-in_err-new_slot-clause-count : goal.returns-in_err-new_slot-clause-count
returns-in_err-new_slot-clause-count c = if_ok_passed _ c.from_residual-in_err-new_slot.result _ c.from_residual-in_err-new_slot.ensures.1

pub returns-in_err-new_slot-clause-arms : goal.returns-in_err-new_slot-clause-arms
returns-in_err-new_slot-clause-arms c = if_ok_passed _ c.from_residual-in_err-new_slot.result _ c.from_residual-in_err-new_slot.ensures.1

pub returns-in_err-new_slot-clause-logs : goal.returns-in_err-new_slot-clause-logs
returns-in_err-new_slot-clause-logs c = if_ok_passed _ c.from_residual-in_err-new_slot.result _ c.from_residual-in_err-new_slot.ensures.1

pub returns-in_err-push-clause-paired : goal.returns-in_err-push-clause-paired
returns-in_err-push-clause-paired c = if_ok_passed _ c.from_residual-in_err-push.result _ c.from_residual-in_err-push.ensures.1

pub returns-in_err-push-clause-count : goal.returns-in_err-push-clause-count
returns-in_err-push-clause-count c = if_ok_passed _ c.from_residual-in_err-push.result _ c.from_residual-in_err-push.ensures.1

pub returns-in_err-push-clause-arms : goal.returns-in_err-push-clause-arms
returns-in_err-push-clause-arms c = if_ok_passed _ c.from_residual-in_err-push.result _ c.from_residual-in_err-push.ensures.1

pub returns-in_err-push-clause-logs : goal.returns-in_err-push-clause-logs
returns-in_err-push-clause-logs c = if_ok_passed _ c.from_residual-in_err-push.result _ c.from_residual-in_err-push.ensures.1

pub returns-clause-paired : goal.returns-clause-paired
returns-clause-paired c = c.loop-number.invariant.paired

pub returns-clause-logs : goal.returns-clause-logs
returns-clause-logs c = c.loop-number.invariant.logs
