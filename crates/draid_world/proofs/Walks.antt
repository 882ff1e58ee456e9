-- A walk over a list to the first item that passes a test: one item on, and at that item.
use Rattle.std.proofs.Common.{◌≡◌, ◌+◌, ◌<◌, ◌||◌, ◌==◌, ℕ, Bool, true, false, List, length, drop, find, get_or, Option, Some, if◌then◌else◌, ◌∙◌, ap, arith}
use Rattle.std.proofs.lemmas.List.{at_drop_more}
use Rattle.std.proofs.lemmas.Bool.Decides.{nat_tests}
use Rattle.draid_machine.specs.declared.names.ArmName.{ArmName}
use Rattle.draid_machine.specs.Names.{has_name, has_number, name_eq}
use Rattle.draid_machine.proofs.Small.{equal}

pub first_here : {A : Type 0} (p : A → Bool) (xs : List A) (k : ℕ) (d : A) → k < length xs → p (get_or xs k d) ≡ true → find p (drop k xs) ≡ Some (get_or xs k d)
first_here p xs k d low is = at_drop_more (find p) xs k d low ∙ ap (λ b. if b then Some (get_or xs k d) else find p (drop (k + 1) xs)) is

pub first_on : {A : Type 0} (p : A → Bool) (xs : List A) (k : ℕ) (d : A) → k < length xs → p (get_or xs k d) ≡ false → find p (drop k xs) ≡ find p (drop (k + 1) xs)
first_on p xs k d low is = at_drop_more (find p) xs k d low ∙ ap (λ b. if b then Some (get_or xs k d) else find p (drop (k + 1) xs)) is

pub name_here : (ns : List ArmName) (n : ArmName) (k : ℕ) (d : ArmName) → k < length ns → name_eq (get_or ns k d) n ≡ true → has_name (drop k ns) n ≡ true
name_here ns n k d low is = at_drop_more (λ ms. has_name ms n) ns k d low ∙ ap (λ b. b || has_name (drop (k + 1) ns) n) is

pub name_on : (ns : List ArmName) (n : ArmName) (k : ℕ) (d : ArmName) → k < length ns → name_eq (get_or ns k d) n ≡ false → has_name (drop k ns) n ≡ has_name (drop (k + 1) ns) n
name_on ns n k d low is = at_drop_more (λ ms. has_name ms n) ns k d low ∙ ap (λ b. b || has_name (drop (k + 1) ns) n) is

pub number_found : (xs : List ℕ) (x k : ℕ) → k < length xs → get_or xs k 0 ≡ x → has_number (drop k xs) x ≡ true
number_found xs x k low is = at_drop_more (λ ys. has_number ys x) xs k 0 low ∙ ap (λ b. b || has_number (drop (k + 1) xs) x) (equal (get_or xs k 0) x is)

different : (x y : ℕ) → (x ≡ y → ⊥) → (x == y) ≡ false
different x y differ = grind (arith, nat_tests)

pub number_on : (xs : List ℕ) (x k : ℕ) → k < length xs → (get_or xs k 0 ≡ x → ⊥) → has_number (drop k xs) x ≡ has_number (drop (k + 1) xs) x
number_on xs x k low differ = at_drop_more (λ ys. has_number ys x) xs k 0 low ∙ ap (λ b. b || has_number (drop (k + 1) xs) x) (different (get_or xs k 0) x differ)
