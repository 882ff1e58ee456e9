-- What stands at a place of a list or a Vec is set there again.
use Rattle.std.proofs.Common.{◌≡◌, ◌∙◌, ℕ, zero, suc, List, [], ◌∷◌, Some, length, slice_set, refl, sym, ap, subst}
use Rattle.std.specs.Prelude.{slice_get}
use Rattle.std.specs.Vec.{with_item}
use Rattle.std.specs.declared.vec.Vec.{Vec}
use Rattle.std.proofs.Math.Nat.{ℕ_set}
use Rattle.std.proofs.lemmas.List.{length-set}
use Rattle.draid_pool.proofs.Lists.{some_of}

pub set_again : {T : Type 0} (xs : List T) (m : ℕ) (x : T) → slice_get xs m ≡ Some x → slice_set xs m x ≡ xs
set_again [] m x there = absurd (cc)
set_again (z ∷ xs) zero x there = ap (λ y. y ∷ xs) (some_of (Some z) x z there refl)
set_again (z ∷ xs) (suc m) x there = ap (λ ys. z ∷ ys) (set_again xs m x there)

module _ {X Z : Type 0} (v : Vec X Z) where
  abbrev with_list : (ws : List X) → v.len ≡ length ws → Vec X Z
  with_list ws own = record { ptr = v.ptr; len = v.len; cap = v.cap; alloc = v.alloc; items = ws; ok = (own, v.ok.1); small = v.small }

  list_same : (ws : List X) → v.items ≡ ws → (own : v.len ≡ length ws) → with_list ws own ≡ v
  list_same ws is = subst (λ us. (own : v.len ≡ length us) → with_list us own ≡ v) is (λ own. ap (λ o. with_list v.items o) (ℕ_set v.len (length v.items) own v.ok.0))

  pub item_again : (m : ℕ) (x : X) → slice_get v.items m ≡ Some x → with_item v m x ≡ v
  item_again m x there = list_same (slice_set v.items m x) (sym (set_again v.items m x there)) (v.ok.0 ∙ sym (length-set v.items m x))
