-- Which slot is chosen, and what of two slots stays.
use Rattle.std.proofs.Common.{arith, ◌≡◌, ◌+◌, ◌%◌, ◌<◌, ◌≤◌, ◌⊎◌, ℕ, zero, suc, true, false, nat_lt, List, [], Option, Some, None, Ok, length, refl, sym, ◌∙◌, ap, subst, inl, inr}
use Rattle.std.specs.Prelude.{option_map}
use Rattle.std.proofs.lemmas.Bool.Decides.{nat_tests}
use Rattle.std.proofs.lemmas.List.{ext_get_or, places}
use Rattle.draid_record.specs.declared.uber.UberBody.{UberBody}
use Rattle.draid_record.proofs.Front.{uber_front}
use Rattle.draid_uber.specs.Slots.{Chooses, HasKept, IsLeft, area_bytes, base_of, body_in, choice_of, chosen_of, group_in, group_of, is_open, next_slot, read_body, slot_in}
use Rattle.std.specs.Prelude.{replicate}
use Rattle.draid_area.specs.Area.{Content}
use Rattle.draid_area.proofs.Moments.{leaves_all}
use Rattle.draid_uber.specs.Steps.{byte}
use Rattle.draid_uber.specs.Slots.{Stands}
use Rattle.draid_uber.specs.Uber.{IsNewArea}

-- a body that is read stands behind an open gate, and its group where groups stand
pub record IsBody (bytes : List ℕ) (body : UberBody) : Type 0 where
  pub gate : is_open bytes ≡ true
  pub group : group_in bytes ≡ body.group

pub body_is : (slot : ℕ) (bytes : List ℕ) (body : UberBody) → body_in slot bytes ≡ Ok body → IsBody bytes body
body_is slot bytes body e =
    let front = uber_front slot bytes body e in
    let first = front.0 in
    record { gate = grind (arith, nat_tests); group = front.1 }

-- ---- slots byte by byte
pub slot_at : (slot : ℕ) (xs : List ℕ) (k : ℕ) → k < 51 → byte (slot_in slot xs) k ≡ byte xs (base_of slot + k)
slot_at slot xs k h = grind (arith, places)

pub slot_length : (slot : ℕ) (xs : List ℕ) → base_of slot + 51 ≤ length xs → length (slot_in slot xs) ≡ 51
slot_length slot xs h = grind (arith, places)

pub slot_same : (slot : ℕ) (xs ys : List ℕ) → slot ≤ 1 → area_bytes ≤ length xs → area_bytes ≤ length ys → ((i : ℕ) → base_of slot ≤ i → i < base_of slot + 51 → byte xs i ≡ byte ys i) → slot_in slot xs ≡ slot_in slot ys
slot_same slot xs ys low long_x long_y same =
    let len_x = slot_length slot xs (omega (arith)) in
    let len_y = slot_length slot ys (omega (arith)) in
    ext_get_or 0 (slot_in slot xs) (slot_in slot ys) (len_x ∙ sym len_y) (λ k h. slot_at slot xs k (omega (arith, len_x)) ∙ same (base_of slot + k) (omega arith) (omega (arith, len_x)) ∙ sym (slot_at slot ys k (omega (arith, len_x))))

-- ---- which slot is chosen
pub chosen_long : (area : List ℕ) → area_bytes ≤ length area → chosen_of area ≡ choice_of (slot_in 0 area) (slot_in 1 area)
chosen_long area long =
    let short : nat_lt (length area) area_bytes ≡ false = grind (arith, nat_tests) in
    rw short refl

choice_none : (z o : List ℕ) → is_open z ≡ false → is_open o ≡ false → choice_of z o ≡ None
choice_none z o a b = rw (a, b) refl

choice_zero : (z o : List ℕ) → is_open z ≡ true → is_open o ≡ false → choice_of z o ≡ Some (body_in 0 z)
choice_zero z o a b = rw (a, b) refl

choice_one : (z o : List ℕ) → is_open z ≡ false → is_open o ≡ true → choice_of z o ≡ Some (body_in 1 o)
choice_one z o a b = rw (a, b) refl

greater_zero : (z o : List ℕ) → is_open z ≡ true → is_open o ≡ true → nat_lt (group_in z) (group_in o) ≡ false → choice_of z o ≡ Some (body_in 0 z)
greater_zero z o a b c = rw (a, b, c) refl

greater_one : (z o : List ℕ) → is_open z ≡ true → is_open o ≡ true → nat_lt (group_in z) (group_in o) ≡ true → choice_of z o ≡ Some (body_in 1 o)
greater_one z o a b c = rw (a, b, c) refl

parity : (n : ℕ) → ((n % 2 ≡ 0) × ((n + 1) % 2 ≡ 1)) ⊎ ((n % 2 ≡ 1) × ((n + 1) % 2 ≡ 0))
parity n = grind (arith)

-- the slot that has the committed body
abbrev pub kept_slot : Option UberBody → ℕ
kept_slot None = 0
kept_slot (Some body) = body.group % 2

pub kept_stays : (kept : Option UberBody) (xs ys : List ℕ) → slot_in (kept_slot kept) xs ≡ slot_in (kept_slot kept) ys → HasKept kept xs → HasKept kept ys
kept_stays None xs ys same has = subst (λ s. is_open s ≡ false) same has
kept_stays (Some body) xs ys same has = subst (λ s. body_in (body.group % 2) s ≡ Ok body) same has

-- the two slots are apart
pub slots_apart : (kept : Option UberBody) → (kept_slot kept + next_slot kept ≡ 1)
slots_apart None = refl
slots_apart (Some body) = elim (parity body.group) [
  | inl p ↦ omega (arith, p.0, p.1)
  | inr p ↦ omega (arith, p.0, p.1)
]

-- while the next slot is shut, the committed body is chosen
pub kept_alone : (kept : Option UberBody) (area : List ℕ) → area_bytes ≤ length area → HasKept kept area → is_open (slot_in (next_slot kept) area) ≡ false → chosen_of area ≡ option_map read_body kept
kept_alone None area long has shut = chosen_long area long ∙ choice_none (slot_in 0 area) (slot_in 1 area) has shut
kept_alone (Some body) area long has shut = chosen_long area long ∙ elim (parity body.group) [
  | inl p ↦ (
      let here : body_in 0 (slot_in 0 area) ≡ Ok body = subst (λ s. body_in s (slot_in s area) ≡ Ok body) p.0 has in
      let out : is_open (slot_in 1 area) ≡ false = subst (λ s. is_open (slot_in s area) ≡ false) p.1 shut in
      choice_zero (slot_in 0 area) (slot_in 1 area) (body_is 0 (slot_in 0 area) body here).gate out ∙ ap Some here
      )
  | inr p ↦ (
      let here : body_in 1 (slot_in 1 area) ≡ Ok body = subst (λ s. body_in s (slot_in s area) ≡ Ok body) p.0 has in
      let out : is_open (slot_in 0 area) ≡ false = subst (λ s. is_open (slot_in s area) ≡ false) p.1 shut in
      choice_one (slot_in 0 area) (slot_in 1 area) out (body_is 1 (slot_in 1 area) body here).gate ∙ ap Some here
      )
]

-- once the next slot has the body of the next group, that is chosen
pub new_chosen : (kept : Option UberBody) (body : UberBody) (area : List ℕ) → area_bytes ≤ length area → HasKept kept area → body_in (next_slot kept) (slot_in (next_slot kept) area) ≡ Ok body → body.group ≡ 1 + group_of kept → chosen_of area ≡ Some (Ok body)
new_chosen None body area long has new next =
    chosen_long area long ∙ choice_one (slot_in 0 area) (slot_in 1 area) has (body_is 1 (slot_in 1 area) body new).gate ∙ ap Some new
new_chosen (Some old) body area long has new next = chosen_long area long ∙ elim (parity old.group) [
  | inl p ↦ (
      let here : body_in 0 (slot_in 0 area) ≡ Ok old = subst (λ s. body_in s (slot_in s area) ≡ Ok old) p.0 has in
      let there : body_in 1 (slot_in 1 area) ≡ Ok body = subst (λ s. body_in s (slot_in s area) ≡ Ok body) p.1 new in
      let a = body_is 0 (slot_in 0 area) old here in
      let b = body_is 1 (slot_in 1 area) body there in
      let less : nat_lt (group_in (slot_in 0 area)) (group_in (slot_in 1 area)) ≡ true = (let u = a.group in let v = b.group in rw (u, v) (grind (arith, nat_tests, next))) in
      greater_one (slot_in 0 area) (slot_in 1 area) a.gate b.gate less ∙ ap Some there
      )
  | inr p ↦ (
      let here : body_in 1 (slot_in 1 area) ≡ Ok old = subst (λ s. body_in s (slot_in s area) ≡ Ok old) p.0 has in
      let there : body_in 0 (slot_in 0 area) ≡ Ok body = subst (λ s. body_in s (slot_in s area) ≡ Ok body) p.1 new in
      let a = body_is 1 (slot_in 1 area) old here in
      let b = body_is 0 (slot_in 0 area) body there in
      let less : nat_lt (group_in (slot_in 0 area)) (group_in (slot_in 1 area)) ≡ false = (let u = a.group in let v = b.group in rw (u, v) (grind (arith, nat_tests, next))) in
      greater_zero (slot_in 0 area) (slot_in 1 area) b.gate a.gate less ∙ ap Some there
      )
]

-- what is chosen goes by the slots alone
pub chosen_same : (xs ys : List ℕ) → area_bytes ≤ length xs → area_bytes ≤ length ys → slot_in 0 xs ≡ slot_in 0 ys → slot_in 1 xs ≡ slot_in 1 ys → chosen_of xs ≡ chosen_of ys
chosen_same xs ys long_x long_y a b = chosen_long xs long_x ∙ ap (λ s. choice_of s (slot_in 1 xs)) a ∙ ap (λ s. choice_of (slot_in 0 ys) s) b ∙ sym (chosen_long ys long_y)

slot_cases : (P : ℕ → Type 0) → P 0 → P 1 → (n : ℕ) → n ≤ 1 → P n
slot_cases P a b zero h = a
slot_cases P a b (suc zero) h = b
slot_cases P a b (suc (suc n)) h = absurd (omega arith)

pub left_same : (kept : Option UberBody) (pending : List UberBody) (xs ys : List ℕ) → area_bytes ≤ length ys → slot_in 0 xs ≡ slot_in 0 ys → slot_in 1 xs ≡ slot_in 1 ys → IsLeft kept pending xs → IsLeft kept pending ys
left_same kept pending xs ys long a b left = record {
  long = long;
  kept_is = kept_stays kept xs ys (let e = slots_apart kept in slot_cases (λ s. slot_in s xs ≡ slot_in s ys) a b (kept_slot kept) (omega (arith, e))) left.kept_is;
  chosen = subst (Chooses kept pending) (chosen_same xs ys left.long long a b) left.chosen;
}

-- with the next slot shut
pub left_alone : (kept : Option UberBody) (pending : List UberBody) (area : List ℕ) → area_bytes ≤ length area → HasKept kept area → is_open (slot_in (next_slot kept) area) ≡ false → IsLeft kept pending area
left_alone kept pending area long has shut = record { long = long; kept_is = has; chosen = inl (kept_alone kept area long has shut) }

-- nothing is chosen in an area of zeros
pub new_area : (x : Content) → IsNewArea x → Stands None [] x
new_area x new left may =
    let all : left ≡ x.bytes = leaves_all x left new.soft (new.firm ∙ sym (ap length new.bytes)) may in
    subst (IsLeft None []) (sym (all ∙ new.bytes)) zeros
  where
    zeros : IsLeft None [] (replicate area_bytes 0)
    zeros = left_alone None [] (replicate area_bytes 0) (omega (arith)) refl refl
